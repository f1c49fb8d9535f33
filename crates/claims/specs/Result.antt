-- The result of a file's run, from its bytes: refusal, counts and records. What becomes of it with too few bytes lent is in bench/specs/Run.antt.
use Rattle.std.specs.Prelude.{ℕ, cond, List, []}
use Rattle.bench_file.specs.Layout.{Judgement, accepted, refused_by, judge_of}
use Rattle.state.specs.declared.Counts.{Counts}
use Rattle.history.specs.Terms.{records_of, counts_of}
use Rattle.claims.specs.Entries.{history_of, clear_of}

-- the result of a file: its refusal, 0 for none; the five counts; the bytes of each record, in Swap order
pub record Result : Type 0 where
  pub refusal : ℕ
  pub counts : Counts
  pub records : List (List ℕ)

-- records, turns, blanks, spins and remote references
abbrev pub counted : ℕ → ℕ → ℕ → ℕ → ℕ → Counts
counted records turns blanks spins remote = record { records = records; turns = turns; blanks = blanks; spins = spins; remote = remote }

-- a refusal has its number, with all counts 0 and no record
abbrev pub refused_result : ℕ → Result
refused_result number = record { refusal = number; counts = counted 0 0 0 0 0; records = [] }

-- a file that is accepted is run by its method; a run in which an entry meets null is 14
abbrev pub result_as : Judgement → Result
result_as (accepted f) =
    let history = history_of f in cond (clear_of f) (record { refusal = 0; counts = counts_of history; records = records_of history }) (refused_result 14)
result_as (refused_by number) = refused_result number

abbrev pub result_of : List ℕ → Result
result_of bytes = result_as (judge_of bytes)
