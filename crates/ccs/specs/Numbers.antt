-- The services' answers as numbers: a refusal, 0 for none, beside the numbers that are lent to the function.
use Rattle.std.specs.Prelude.{ℕ, ◌≡◌, List, [], ◌∷◌, get_or, replicate, take, Result, Ok, Err}
use Rattle.object.specs.Paper.{kind_number}
use Rattle.machine.specs.Methods.{method_number}
use Rattle.bench_file.specs.declared.Judged.{Judged}
use Rattle.bench_file.specs.Layout.{judge_of}
use Rattle.bench_file.specs.Promise.{judged_as, judged_refusal, Judges}
use Rattle.bench_writer.specs.Writer.{Written}
use Rattle.bench_writer.specs.Convert.{Converts}
use Rattle.bench.specs.Answer.{RunAnswer}
use Rattle.bench.specs.Run.{result_in}
use Rattle.cells.specs.Promise.{Printed}

-- of a file that is accepted: version, object, n, h, capacity, method, requests in all, schedule entries
abbrev pub judged_numbers : Result Judged ℕ → List ℕ
judged_numbers (Ok judged) =
    let head = judged.head in
    head.version ∷ kind_number head.object ∷ head.n ∷ head.h ∷ head.capacity ∷ method_number head.method ∷ judged.requests ∷ judged.entries ∷ []
judged_numbers (Err refusal) = replicate 8 0

-- what judging a file's bytes answers, and the numbers after it
pub record JudgedIn (bytes numbers : List ℕ) (r : ℕ) : Type 0 where
  pub refusal : r ≡ judged_refusal (judged_as (judge_of bytes))
  pub told : numbers ≡ judged_numbers (judged_as (judge_of bytes))
  pub judges : Judges bytes (judged_as (judge_of bytes))

-- a run's refusal and its five counts
abbrev pub answer_in : ℕ → List ℕ → RunAnswer
answer_in refusal numbers = record {
  refusal = refusal;
  counts = record {
    records = get_or numbers 0 0;
    turns = get_or numbers 1 0;
    blanks = get_or numbers 2 0;
    spins = get_or numbers 3 0;
    remote = get_or numbers 4 0;
  };
}

-- a refusal and the length written
abbrev pub written_in : ℕ → ℕ → Written
written_in refusal count = record { refusal = refusal; length = count }

-- what converting a file's bytes answers, and the lent buffer before and after it
pub record ConvertsAlike (bytes : List ℕ) (wanted : ℕ) (answer : Written) (before after : List ℕ) : Type 0 where
  pub converts : Converts bytes wanted answer before after
  -- what is written gives, run with as many bytes lent, what the file gives: the same refusal, or the same records and counts
  pub runs_alike : answer.refusal ≡ 0 → (lent : ℕ) → result_in lent (judge_of (take answer.length after)) ≡ result_in lent (judge_of bytes)

abbrev pub printed_in : ℕ → ℕ → Printed
printed_in refusal count = record { refusal = refusal; length = count }
