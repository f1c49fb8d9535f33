-- The writer: fields given as numbers and rows, judged in the order of documents 01 and 02, and what is then written.
use Rattle.std.specs.Prelude.{ℕ, ◌+◌, ◌*◌, ◌≤◌, ◌≡◌, Bool, cond, List, [], ◌∷◌, ◌++◌, map, length, take, drop, leb, ltb, eqb, Result, Ok, Err}
use Rattle.refusal.specs.declared.Refusal.{Refusal}
use Rattle.refusal.specs.Numbers.{number}
use Rattle.object.specs.declared.Kind.{Kind}
use Rattle.object.specs.declared.Request.{Request}
use Rattle.object.specs.Paper.{within, kind_number, kind_of, least_capacity, most_capacity}
use Rattle.bench_writer.specs.declared.Given as code
use Rattle.object.specs.Each.{Each, every, sum_of}
use Rattle.bench_file.specs.Reading.{Outcome, refused, read, Reader, ◌>>=◌, ◌>>◌, done, rules, several}
use Rattle.machine.specs.Methods.{method_number, method_of}
use Rattle.bench_file.specs.declared.Head.{Head}
use Rattle.bench_file.specs.Layout.{Fields, version_known, Judgement, accepted, refused_by, judged, judge_of, request_reader}
use Rattle.bench_file.specs.Bytes.{low_first, request_bytes, each_bytes, head_from, bytes_of, Byte}

-- what the writer is given: six numbers, the row of counts, the row of requests in the file's five-byte form, the schedule
pub record Given : Type 0 where
  pub version : ℕ
  pub object : ℕ
  pub n : ℕ
  pub h : ℕ
  pub capacity : ℕ
  pub method : ℕ
  pub counts : List ℕ
  pub requests : List ℕ
  pub schedule : List ℕ

abbrev pub given_by : ℕ → ℕ → ℕ → ℕ → ℕ → ℕ → List ℕ → List ℕ → List ℕ → Given
given_by version object n h capacity method counts requests schedule = record {
  version = version;
  object = object;
  n = n;
  h = h;
  capacity = capacity;
  method = method;
  counts = counts;
  requests = requests;
  schedule = schedule;
}

-- the code's fields, each slice by its bytes
abbrev pub as_given : code.Given → Given
as_given given =
    given_by given.version given.object given.n given.h given.capacity given.method given.counts.now given.requests.now given.schedule.now

-- the head that the numbers stand for
abbrev pub head_given : Given → Head
head_given g = record { version = g.version; object = kind_of g.object; n = g.n; h = g.h; capacity = g.capacity; method = method_of g.method }

-- how many requests the counts ask for
abbrev pub total : List ℕ → ℕ
total counts = sum_of (λ count. count) counts

-- the requests, dealt to the threads by their counts
unfoldable pub dealt : List ℕ → List Request → List (List Request)
dealt [] requests = []
dealt (count ∷ counts) requests = take count requests ∷ dealt counts (drop count requests)

-- the row of counts and the row of requests as they follow each other in the file
unfoldable pub interleaved : List ℕ → List ℕ → List ℕ
interleaved [] requests = []
interleaved (count ∷ counts) requests = count ∷ take (5 * count) requests ++ interleaved counts (drop (5 * count) requests)

-- the file's bytes straight from what is given, for the code to lay out
unfoldable pub raw_bytes : Given → List ℕ
raw_bytes g =
    head_from g.version g.object g.n g.h g.capacity g.method
    ++ interleaved g.counts g.requests
    ++ low_first 2 (length g.schedule)
    ++ g.schedule

-- a method's greatest number: version 1 has method 0 only
abbrev pub most_method : ℕ → ℕ
most_method version = cond (eqb version 1) 0 1

-- version, object, n, h, the capacity and the method
abbrev pub number_rules : ℕ → ℕ → ℕ → ℕ → ℕ → ℕ → List (ℕ × Bool)
number_rules version object n h capacity method =
    (3, version_known version)
    ∷ (4, within 0 object 2)
    ∷ (5, within 1 n 16)
    ∷ (6, within 1 h 255)
    ∷ (7, within (least_capacity (kind_of object)) capacity (most_capacity (kind_of object)))
    ∷ (15, leb method (most_method version))
    ∷ []

-- a row of fewer than n counts, or of more; each count
abbrev pub count_rules : ℕ → List ℕ → List (ℕ × Bool)
count_rules n counts =
    (1, leb n (length counts)) ∷ (12, leb (length counts) n) ∷ (8, every (λ count. leb count 16) counts) ∷ []

-- too few bytes of requests for the counts, or too many
abbrev pub size_rules : ℕ → ℕ → List (ℕ × Bool)
size_rules count size = (1, leb (5 * count) size) ∷ (12, leb size (5 * count)) ∷ []

-- the schedule's length; each entry
abbrev pub entry_rules : ℕ → List ℕ → List (ℕ × Bool)
entry_rules n schedule = (10, leb (length schedule) 32768) ∷ (11, every (λ thread. ltb thread n) schedule) ∷ []

-- the row of requests: its size, and each request by 9
unfoldable pub requests_reader : Kind → ℕ → List ℕ → Reader (List Request)
requests_reader object count requests = do
  rules (size_rules count (length requests))
  several count (request_reader object)

-- the rules in their order; the requests are read from their row
unfoldable pub given_reader : Given → Reader Fields
given_reader g = do
  rules (number_rules g.version g.object g.n g.h g.capacity g.method)
  rules (count_rules g.n g.counts)
  requests ← requests_reader (kind_of g.object) (total g.counts) g.requests
  rules (entry_rules g.n g.schedule)
  done (record {
    head = head_given g;
    rows = dealt g.counts requests;
    schedule = g.schedule;
  })

-- the code's answer to rules, which keeps no field: the reading goes on with these bytes, or the refusal
abbrev pub passed : {A : Type 0} → List ℕ → Result A Refusal → Outcome Unit
passed bytes (Ok a) = read tt bytes
passed bytes (Err refusal) = refused (number refusal)

-- the fields that the writer is given, or the refusal
unfoldable pub given_of : Given → Judgement
given_of g = judged (given_reader g g.requests)

-- given fields, as the writer takes them
abbrev pub given_from : Fields → Given
given_from f =
    given_by f.head.version (kind_number f.head.object) f.head.n f.head.h f.head.capacity (method_number f.head.method)
    (map length f.rows)
    (each_bytes (each_bytes request_bytes) f.rows)
    f.schedule

-- the refusal, 0 for none, and the bytes written
pub record Writing : Type 0 where
  pub refusal : ℕ
  pub bytes : List ℕ

-- into a buffer of so many bytes; 13 where it is too short
abbrev pub fitted : ℕ → List ℕ → Writing
fitted room bytes = cond (leb (length bytes) room) (record { refusal = 0; bytes = bytes }) (record { refusal = 13; bytes = [] })

abbrev pub written_as : ℕ → Judgement → Writing
written_as room (accepted f) = fitted room (bytes_of f)
written_as room (refused_by refusal) = record { refusal = refusal; bytes = [] }

-- what is written for given fields into a buffer of so many bytes
unfoldable pub write_of : Given → ℕ → Writing
write_of g room = written_as room (given_of g)

-- bytes laid into a buffer from a place on, the others as they were
abbrev pub pasted : List ℕ → ℕ → List ℕ → List ℕ
pasted buffer at bytes = take at buffer ++ bytes ++ drop (at + length bytes) buffer

-- the refusal, 0 for none, and how many bytes were written
pub record Written : Type 0 where
  pub refusal : ℕ
  pub length : ℕ

-- the code's answer: a refusal has length 0
abbrev pub as_written : Result ℕ Refusal → Written
as_written (Ok count) = record { refusal = 0; length = count }
as_written (Err refusal) = record { refusal = number refusal; length = 0 }

-- what the service answers to given fields, and the lent buffer before and after it
pub record WritesAs (g : Given) (answer : Written) (before after : List ℕ) : Type 0 where
  -- the refusal, 0 for none, and the length written
  pub refusal : answer.refusal ≡ (write_of g (length before)).refusal
  pub count : answer.length ≡ length (write_of g (length before)).bytes
  -- what is written stands from the first byte on, later bytes are as they were
  pub buffer : after ≡ (write_of g (length before)).bytes ++ drop (length (write_of g (length before)).bytes) before
  -- what is written is judged accepted, with the fields that were given
  pub meant : answer.refusal ≡ 0 → (f : Fields) × (given_of g ≡ accepted f) × (judge_of (take answer.length after) ≡ accepted f)
  -- the fields of an accepted file are written as that file, unchanged, where it has room
  pub unchanged : (bytes : List ℕ) (f : Fields) → Each Byte bytes → judge_of bytes ≡ accepted f → g ≡ given_from f → length bytes ≤ length before
      → (answer.refusal ≡ 0) × (answer.length ≡ length bytes) × (after ≡ bytes ++ drop (length bytes) before)
