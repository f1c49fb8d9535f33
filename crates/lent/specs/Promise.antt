-- The promise of the step on a lent state: its answer and the state behind the reference, for every state and every thread.
use Rattle.std.specs.Prelude.{ℕ, ◌≡◌}
use Rattle.machine.specs.declared.ThreadId.{ThreadId}
use Rattle.state.specs.declared.State.{State}
use Rattle.step.specs.Step.{step_of}

-- the state behind the reference before and after, the thread, and the answer
pub record StepsLent (before after : State) (thread : ThreadId) (r : ℕ) : Type 0 where
  -- the answer is the single step's refusal, 0 for none
  pub answer : r ≡ (step_of before thread).refusal
  -- the state behind the reference is the single step's
  pub lent : after ≡ (step_of before thread).state
  -- a refusal leaves it as it was
  pub as_it_was : (r ≡ 0 → ⊥) → after ≡ before
