-- The promise of the service that runs a file: its answer and every byte of the lent buffer, for every input, and demand 3 of the run, by the file's method.
use Rattle.std.specs.Prelude.{ℕ, ◌*◌, ◌<◌, ◌≡◌, true, List, [], length, get_or, take, drop}
use Rattle.bench_file.specs.Layout.{Fields, accepted, judge_of}
use Rattle.machine.specs.declared.Event.TheVariants.{Swaps}
use Rattle.history.specs.Entries.{how_many}
use Rattle.history.specs.Terms.{record_length, records_of}
use Rattle.claims.specs.Entries.{history_of, clear_of}
use Rattle.claims.specs.Claims.{Claimed, Demand3Of}
use Rattle.claims.specs.Result.{Result}
use Rattle.bench.specs.Answer.{RunAnswer}
use Rattle.bench.specs.Run.{result_in, written}

-- a result without its records, which the buffer has
abbrev pub answer_of : Result → RunAnswer
answer_of result = record { refusal = result.refusal; counts = result.counts }

-- the file's bytes, the buffer before and after, and the answer
pub record Runs (bytes old new : List ℕ) (r : RunAnswer) : Type 0 where
  -- the refusal and the counts are those of the file's result, with so many bytes lent
  pub answer : r ≡ answer_of (result_in (length old) (judge_of bytes))
  -- the buffer has the result's records; a refusal has none and leaves it
  pub buffer : new ≡ written old (result_in (length old) (judge_of bytes)).records
  -- demand 3 of a file that is accepted: after every entry, up to one that meets null
  pub demand_3 : (f : Fields) → judge_of bytes ≡ accepted f → Demand3Of f
  -- and the claim for the whole run, if no entry meets null; else the run is refused, and what is claimed of it is demand 3, of its cuts
  pub whole : (f : Fields) → judge_of bytes ≡ accepted f → clear_of f ≡ true → Claimed f (history_of f)
  -- where the run is not refused, record i of that claim is what stands in its place in the buffer
  pub in_place : (f : Fields) → judge_of bytes ≡ accepted f → r.refusal ≡ 0 → (i : ℕ) → i < how_many Swaps (history_of f)
      → take record_length (drop (record_length * i) new) ≡ get_or (records_of (history_of f)) i []
