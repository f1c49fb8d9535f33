-- The calls that have returned are those that the machine has left. Assumes a chronicle of the state and its entries.
use Prim.Native.Nat.{ℕ, ◌-◌, ◌<◌}
use native.Mathlib.Omega.{arith}
use mathlib.Core.Path.{◌≡◌, sym, ap, ◌∙◌}
use mathlib.Core.Bool.{Bool, true, not}
use mathlib.Core.List.{List}
use lib.ListN.{get_or}
use lib.Dec.{ltb}
use borrow.Author.Tests.{lt-ltb, le-ltb, eq-eqb, ne_eqb}
use Rattle.object.proofs.Choice.{by_equal, by_order, by_test}
use Rattle.bench_file.specs.Layout.{Fields}
use Rattle.machine.specs.declared.Method.{Method}
use Rattle.machine.specs.declared.Thread.{Thread}
use Rattle.state.specs.declared.State.{State}
use Rattle.step.specs.Entry.{one_if, zero_thread}
use Rattle.history.specs.Entries.{Entry}
use Rattle.history.specs.Terms.{Call, returned}
use Rattle.history.specs.Method.{idle}
use Rattle.claims.specs.Claims.{left_by}
use Rattle.claims.proofs.Chronicled.{Chronicled}

module _ (Paid : Bool → ℕ → ℕ → Type 0) (m : Method) (f : Fields) (s : State) (history : List Entry) (now : Chronicled Paid m f s history) (c : Call)
    (below : c.thread.0 < f.head.n) where
  abbrev thread : Thread
  thread = get_or s.threads c.thread.0 zero_thread

  abbrev phase : ℕ
  phase = now.phase thread.line

  -- a thread that is not idle has an open call, its last
  left_open : 0 < phase → left_by s c.thread ≡ thread.begun - 1
  left_open on =
      ap (λ (b : Bool). thread.begun - one_if (not b)) (ne_eqb thread.line 0 (λ e. omega (arith, ap now.phase e, now.idle_phase)))

  left_idle : phase ≡ idle → left_by s c.thread ≡ thread.begun
  left_idle off =
      ap (λ (b : Bool). thread.begun - one_if (not b)) (eq-eqb thread.line 0 (now.idle_line c.thread.0 below off)) ∙ omega arith

  by_phase : {P : Type 0} → (phase ≡ idle → P) → (0 < phase → P) → P
  by_phase off on = by_equal phase idle off (λ z. on (omega arith))

  -- a call has returned exactly if it is one of those left
  pub closed : returned c history ≡ ltb c.request (left_by s c.thread)
  closed =
      by_order c.request (left_by s c.thread)
      (λ less.
      let returns : returned c history ≡ true =
      by_phase
      (λ off. now.chronicle.times.closed c below (omega (arith, left_idle off)) (λ on. absurd (omega (arith, off))))
      (λ on. now.chronicle.times.closed c below (omega (arith, left_open on)) (λ _. omega (arith, left_open on))) in
      returns ∙ sym (lt-ltb c.request (left_by s c.thread) less))
      (λ most.
      by_test (returned c history)
      (λ z.
      let o = now.chronicle.calls.settled c z in
      absurd (by_phase (λ off. omega (arith, o.begun, left_idle off)) (λ on. omega (arith, o.closed on, left_open on))))
      (λ z. z ∙ sym (le-ltb c.request (left_by s c.thread) most)))
