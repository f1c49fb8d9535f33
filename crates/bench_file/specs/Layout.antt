-- The bench file, of version 1 or 2: its fields, and what a list of bytes is judged to be, front to back.
use Rattle.std.specs.Prelude.{ℕ, Bool, ◌&&◌, cond, List, length, get_or, leb, ltb, eqb}
use Rattle.object.specs.declared.Kind.{Kind}
use Rattle.object.specs.declared.Request.{Request}
use Rattle.object.specs.Each.{sum_of}
use Rattle.object.specs.Paper.{within, kind_of, request_of, least_code, most_code, value_allowed, least_capacity, most_capacity}
use Rattle.machine.specs.declared.Method.{Method}
use Rattle.machine.specs.declared.Method.TheVariants.{CcSynch}
use Rattle.machine.specs.Methods.{method_of}
use Rattle.bench_file.specs.declared.Head.{Head}
use Rattle.bench_file.specs.Reading.{Outcome, refused, read, Reader, ◌>>=◌, ◌>>◌, done, rule, field, number, ruled_byte, ranged, several, end}

-- the fields of a bench file: version, object, n, h, capacity and method; a row of requests for each thread; the thread of each schedule entry
pub record Fields : Type 0 where
  pub head : Head
  pub rows : List (List Request)
  pub schedule : List ℕ

-- how many requests are in a file, performed or not
abbrev pub requests_of : Fields → ℕ
requests_of f = sum_of length f.rows

-- the versions that there are, 1 and 2
abbrev pub version_known : ℕ → Bool
version_known version = within 1 version 2

-- the head of a version is so many bytes, and the rows of requests begin behind them: version 1 has no byte for the method
abbrev pub head_length : ℕ → ℕ
head_length version = cond (eqb version 1) 9 10

-- the mark, `43 43 53`, is one field
abbrev pub is_mark : List ℕ → Bool
is_mark bs = eqb (get_or bs 0 0) 0x43 && eqb (get_or bs 1 0) 0x43 && eqb (get_or bs 2 0) 0x53

-- bytes 0 to 4: mark and version
unfoldable pub start_reader : Reader ℕ
start_reader = do
  mark ← field 3
  rule 2 (is_mark mark)
  version ← number 2
  rule 3 (version_known version)
  done version

-- the method: a byte in version 2, where version 1 means CC-Synch
abbrev pub method_reader : ℕ → Reader Method
method_reader version = cond (eqb version 1) (done CcSynch) (ranged 15 0 1 >>= λ number. done (method_of number))

-- from byte 6 on: n, h, the capacity and the method
unfoldable pub limits_reader : ℕ → Kind → Reader Head
limits_reader version object = do
  n ← ranged 5 1 16
  h ← ranged 6 1 255
  capacity ← ranged 7 (least_capacity object) (most_capacity object)
  method ← method_reader version
  done (record { version = version; object = object; n = n; h = h; capacity = capacity; method = method })

-- all bytes before the rows
unfoldable pub head_reader : Reader Head
head_reader = do
  version ← start_reader
  object ← ranged 4 0 2
  limits_reader version (kind_of object)

-- a request is two fields, code and value
unfoldable pub request_reader : Kind → Reader Request
request_reader object = do
  code ← ranged 9 (least_code object) (most_code object)
  value ← number 4
  rule 9 (value_allowed code value)
  done (request_of code value)

-- a thread's count and its requests
unfoldable pub row_reader : Kind → Reader (List Request)
row_reader object = do
  count ← ranged 8 0 16
  several count (request_reader object)

-- an entry of the schedule: a thread, below n
abbrev pub entry_reader : ℕ → Reader ℕ
entry_reader n = ruled_byte 11 (λ thread. ltb thread n)

-- the schedule's length and its entries, each a field of its own
unfoldable pub schedule_reader : ℕ → Reader (List ℕ)
schedule_reader n = do
  entries ← number 2
  rule 10 (leb entries 32768)
  several entries (entry_reader n)

-- each field in its place; at each, 1 comes before the field's own rule
unfoldable pub file_reader : Reader Fields
file_reader = do
  head ← head_reader
  rows ← several head.n (row_reader head.object)
  schedule ← schedule_reader head.n
  end
  done (record { head = head; rows = rows; schedule = schedule })

-- a file is accepted with its fields, or refused with a number
pub data Judgement : Type 0 where
  accepted : Fields → Judgement
  refused_by : ℕ → Judgement

abbrev pub judged : Outcome Fields → Judgement
judged (refused refusal) = refused_by refusal
judged (read fields rest) = accepted fields

unfoldable pub judge_of : List ℕ → Judgement
judge_of bytes = judged (file_reader bytes)
