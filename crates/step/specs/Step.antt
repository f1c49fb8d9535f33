-- The single step, by the state's method: 14 for the state, then 11, then 14 for the outcome, and the state after it.
use Rattle.std.specs.Prelude.{ℕ, Bool, cond, not, ◌&&◌, nat_le, Result, Ok, Err}
use Rattle.refusal.specs.declared.Refusal.{Refusal}
use Rattle.refusal.specs.Numbers.{number}
use Rattle.machine.specs.declared.Method.{Method}
use Rattle.machine.specs.declared.ThreadId.{ThreadId}
use Rattle.state.specs.declared.State.{State}
use Rattle.state.specs.Range.{in_range_by}
use Rattle.step.specs.ByMethod.{misses_by, entered_by}

-- refusal 0 with the state after the entry, or a refusal's number with the state as it was
pub record Stepped : Type 0 where
  pub refusal : ℕ
  pub state : State

-- what the single step of a state answers
abbrev pub as_stepped : State → Result State Refusal → Stepped
as_stepped s (Ok after) = record { refusal = 0; state = after }
as_stepped s (Err refusal) = record { refusal = number refusal; state = s }

-- a refusal has its number, and the state as it was
abbrev pub refused : ℕ → State → Stepped
refused number s = record { refusal = number; state = s }

-- the step uses no empty req or ret, follows no null and takes no number out of its range
abbrev pub goes_through_by : Method → State → ThreadId → Bool
goes_through_by m s t = not (misses_by m s t) && in_range_by m (entered_by m s t)

abbrev pub outcome_by : Method → State → ThreadId → Stepped
outcome_by m s t = cond (goes_through_by m s t) (record { refusal = 0; state = entered_by m s t }) (refused 14 s)

abbrev pub step_by : Method → State → ThreadId → Stepped
step_by m s t = cond (in_range_by m s) (cond (nat_le s.n t.0) (refused 11 s) (outcome_by m s t)) (refused 14 s)

abbrev pub step_of : State → ThreadId → Stepped
step_of s t = step_by s.method s t
