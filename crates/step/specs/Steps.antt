-- The step repeated over a schedule.
use Rattle.std.specs.Prelude.{ℕ, cond, List, [], ◌∷◌, ◌==◌}
use Rattle.state.specs.declared.State.{State}
use Rattle.step.specs.Step.{Stepped, step_of}

-- a step after those before it, unless one was refused
abbrev pub onward : Stepped → ℕ → Stepped
onward r t = cond (r.refusal == 0) (step_of r.state (record { 0 = t })) r

unfoldable pub onward_over : Stepped → List ℕ → Stepped
onward_over r [] = r
onward_over r (t ∷ schedule) = onward_over (onward r t) schedule

-- the steps of a schedule, from a state
abbrev pub steps_of : State → List ℕ → Stepped
steps_of s schedule = onward_over (record { refusal = 0; state = s }) schedule
