-- A refused step has the state as it was, and what a step hands back is what is promised of a lent state. Assumes nothing.
use mathlib.Core.Path.{◌≡◌, refl, ap, ◌∙◌}
use Rattle.std.specs.Prelude.{Result}
use Rattle.refusal.specs.declared.Refusal.{Refusal}
use mathlib.Core.Bool.{Bool, true, false, cond}
use lib.Dec.{leb}
use Rattle.machine.specs.declared.ThreadId.{ThreadId}
use Rattle.state.specs.declared.State.{State}
use Rattle.state.specs.Range.{in_range}
use Rattle.step.specs.ByMethod.{entered_by}
use Rattle.step.specs.Step.{Stepped, as_stepped, refused, goes_through_by, step_of}
use Rattle.lent.specs.Promise.{StepsLent}

refused_stays : (s : State) (t : ThreadId) → ((step_of s t).refusal ≡ 0 → ⊥) → (step_of s t).state ≡ s
refused_stays s t = by_tests (in_range s) (leb s.n t.0) (goes_through_by s.method s t)
  where
    after : (fits past through : Bool) → Stepped
    after fits past through = cond fits (cond past (refused 11 s) (cond through (record { refusal = 0; state = entered_by s.method s t }) (refused 14 s))) (refused 14 s)

    by_tests : (fits past through : Bool) → ((after fits past through).refusal ≡ 0 → ⊥) → (after fits past through).state ≡ s
    by_tests false past through refusal = refl
    by_tests true true through refusal = refl
    by_tests true false false refusal = refl
    by_tests true false true refusal = absurd (refusal refl)

pub steps_lent : (s : State) (t : ThreadId) (r : Result State Refusal) → as_stepped s r ≡ step_of s t → StepsLent s (as_stepped s r).state t (as_stepped s r).refusal
steps_lent s t r e = record { answer = answer; lent = lent; as_it_was = λ refusal. lent ∙ refused_stays s t (λ none. refusal (answer ∙ none)) }
  where
    answer : (as_stepped s r).refusal ≡ (step_of s t).refusal
    answer = ap (λ (x : Stepped). x.refusal) e

    lent : (as_stepped s r).state ≡ (step_of s t).state
    lent = ap (λ (x : Stepped). x.state) e
