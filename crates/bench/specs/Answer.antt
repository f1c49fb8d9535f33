-- What the service that runs a file answers.
use Rattle.std.specs.Prelude.{ℕ, Result, Ok, Err}
use Rattle.refusal.specs.declared.Refusal.{Refusal}
use Rattle.refusal.specs.Numbers.{number}
use Rattle.state.specs.declared.Counts.{Counts}
use Rattle.claims.specs.Result.{counted}

-- refusal 0 with the five counts, or a refusal's number with all counts 0
pub record RunAnswer : Type 0 where
  pub refusal : ℕ
  pub counts : Counts

-- the answer, by its number
abbrev pub as_run : Result Counts Refusal → RunAnswer
as_run (Ok counts) = record { refusal = 0; counts = counts }
as_run (Err refusal) = record { refusal = number refusal; counts = counted 0 0 0 0 0 }
