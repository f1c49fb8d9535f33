-- What the code's answers mean as outcomes of a reader: a place in the file stands for the bytes from there on.
use Rattle.std.specs.Prelude.{ℕ, ◌+◌, ◌≤◌, cond, List, [], ◌∷◌, length, drop, eqb, Result, Ok, Err, IfOk}
use Rattle.refusal.specs.declared.Refusal.{Refusal}
use Rattle.refusal.specs.Numbers.{number}
use Rattle.bench_file.specs.declared.Head.{Head}
use Rattle.machine.specs.declared.Method.{Method}
use Rattle.bench_file.specs.declared.Reached.{Reached}
use Rattle.bench_file.specs.declared.Judged.{Judged}
use Rattle.bench_file.specs.Layout.{head_length, schedule_reader}
use Rattle.bench_file.specs.Reading.{Outcome, refused, read}

-- a refusal's number, or 0 and the place where reading goes on
abbrev pub number_read : List ℕ → ℕ → ℕ → Outcome Unit
number_read bytes next refusal = cond (eqb refusal 0) (read tt (drop next bytes)) (refused refusal)

-- an outcome of which only the refusal matters
abbrev pub forgotten : {A : Type 0} → Outcome A → Outcome Unit
forgotten (refused refusal) = refused refusal
forgotten (read a rest) = read tt []

-- a refusal's number, 0 for none, as such an outcome
abbrev pub numbered : ℕ → Outcome Unit
numbered refusal = cond (eqb refusal 0) (read tt []) (refused refusal)

-- a byte at a place, or its refusal
abbrev pub byte_read : List ℕ → ℕ → Result ℕ Refusal → Outcome ℕ
byte_read bytes at (Ok b) = read b (drop (at + 1) bytes)
byte_read bytes at (Err refusal) = refused (number refusal)

-- the version, which ends with byte 4, or the refusal
abbrev pub start_read : List ℕ → Result ℕ Refusal → Outcome ℕ
start_read bytes (Ok version) = read version (drop 5 bytes)
start_read bytes (Err refusal) = refused (number refusal)

-- the method, the last of the head, or its refusal
abbrev pub method_read : List ℕ → ℕ → Result Method Refusal → Outcome Method
method_read bytes version (Ok method) = read method (drop (head_length version) bytes)
method_read bytes version (Err refusal) = refused (number refusal)

-- the head, or its refusal
abbrev pub head_read : List ℕ → Result Head Refusal → Outcome Head
head_read bytes (Ok head) = read head (drop (head_length head.version) bytes)
head_read bytes (Err refusal) = refused (number refusal)

-- how many requests or entries were read, and the place behind them
abbrev pub reached : List ℕ → Result Reached Refusal → Outcome ℕ
reached bytes (Ok place) = read place.count (drop place.next bytes)
reached bytes (Err refusal) = refused (number refusal)

-- what was read lies within the bytes, and each thing counted took a byte or more
abbrev pub Ahead : List ℕ → Result Reached Refusal → Type 0
Ahead bytes r = IfOk r (λ place. (place.count ≤ place.next) × (place.next ≤ length bytes))

-- an outcome of which only a number is kept
abbrev pub tallied : {A : Type 0} → (A → ℕ) → Outcome A → Outcome ℕ
tallied tally (refused refusal) = refused refusal
tallied tally (read a rest) = read (tally a) rest

-- a tally of its own
abbrev pub same : ℕ → ℕ
same n = n

-- each counts 1
abbrev pub single : {A : Type 0} → A → ℕ
single a = 1

-- the end of the bytes, or 12
abbrev pub end_as : Head → ℕ → ℕ → List ℕ → Result Judged ℕ
end_as head requests entries [] = Ok (record { head = head; requests = requests; entries = entries })
end_as head requests entries (b ∷ rest) = Err 12

-- what is judged from the schedule on, and from the rows on
abbrev pub schedule_as : Head → ℕ → Outcome ℕ → Result Judged ℕ
schedule_as head requests (refused refusal) = Err refusal
schedule_as head requests (read entries rest) = end_as head requests entries rest

abbrev pub rows_as : Head → Outcome ℕ → Result Judged ℕ
rows_as head (refused refusal) = Err refusal
rows_as head (read requests rest) = schedule_as head requests (tallied length (schedule_reader head.n rest))
