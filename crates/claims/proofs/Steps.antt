-- Where a line is not 14 for a cause of its own, its entry's step goes through, by either method; so the steps of a schedule are the states of the run. Assumes what
-- the laws' premises say.
use Prim.Native.Nat.{ℕ, ◌+◌, ◌≤◌, ◌<◌}
use native.Mathlib.Omega.{arith}
use mathlib.Core.Path.{◌≡◌, refl, ap, ◌∙◌}
use mathlib.Core.Bool.{true, false}
use mathlib.Core.List.{List, [], ◌∷◌}
use lib.ListN.{length}
use borrow.Author.Tests.{lt-leb}
use Rattle.object.specs.Each.{Each}
use Rattle.machine.specs.declared.Method.{Method}
use Rattle.machine.specs.declared.ThreadId.{ThreadId}
use Rattle.state.specs.declared.State.{State}
use Rattle.state.specs.Range.{counts_in_range}
use Rattle.step.specs.ByMethod.{counts_after_by, entered_by, out_by}
use Rattle.step.specs.Step.{Stepped, goes_through_by, step_by, step_of}
use Rattle.step.specs.Steps.{onward_over, steps_of}
use Rattle.step.proofs.Outcome.{goes_through_exactly}
use Rattle.step.proofs.Soundness.{Sound, stays_sound}
use Rattle.history.specs.Entries.{Entry, thread_id}
use Rattle.claims.specs.Entries.{entry_by, state_after}
use Rattle.claims.proofs.Cut.{AllOk, Keeps}

abbrev pub through : State → Stepped
through s = record { refusal = 0; state = s }

-- one entry
module _ (m : Method) (s : State) (t : ThreadId) (by : s.method ≡ m) (sound : Sound m s) (below : t.0 < s.n)
    (stays : out_by m s t ≡ false) (fit : counts_in_range (counts_after_by m s t) ≡ true) where
  goes : step_by m s t ≡ through (entered_by m s t)
  goes =
      let goes : goes_through_by m s t ≡ true = goes_through_exactly m s t sound.shape sound.range below ∙ rw (stays, fit) in
      rw (sound.range, lt-leb s.n t.0 below, goes)

  pub one_step : step_of s t ≡ through (entered_by m s t)
  one_step = ap (λ (k : Method). step_by k s t) by ∙ goes

  pub one_sound : Sound m (entered_by m s t)
  one_sound = rw goes at (stays_sound m s t sound)

-- what holds of a state and of the entries before it, and of the next entry, gives that its step goes through, and every such entry keeps it
module _ (m : Method) (n most : ℕ) (Ok : State → ThreadId → Type 0) (P : State → List Entry → Type 0)
    (goes : (s : State) (past : List Entry) (t : ThreadId) → t.0 < n → length past < most → Ok s t → P s past → step_of s t ≡ through (entered_by m s t))
    (keeps : Keeps m n most Ok P) where
  pub steps_fold : (s : State) (past : List Entry) (schedule : List ℕ) → Each (λ t. t < n) schedule → length past + length schedule ≤ most
      → AllOk m Ok s schedule → P s past → steps_of s schedule ≡ through (state_after m s schedule)
  unfolding onward_over state_after
  steps_fold s past [] each few ok p = refl
  steps_fold s past (t ∷ schedule) each few ok p =
      let now : ThreadId = thread_id t in
      ap (λ (r : Stepped). onward_over r schedule) (goes s past now each.0 (omega arith) ok.0 p)
      ∙ steps_fold (entered_by m s now) (entry_by m s now ∷ past) schedule each.1 (omega arith) ok.1 (keeps s past now each.0 (omega arith) ok.0 p)
