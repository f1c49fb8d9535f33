-- What a line writes into the ledger: the counts that it raises, and the positions that it leaves. Assumes nothing.
use Prim.Native.Nat.{ℕ, ◌+◌, ◌<◌}
use native.Mathlib.Omega.{arith}
use mathlib.Core.Path.{◌≡◌, refl, ◌∙◌, ap₂}
use mathlib.Core.Bool.{Bool, true, false, cond, ◌||◌, ◌&&◌}
use lib.Dec.{eqb}
use borrow.Author.Tests.{eqb-true, ne_eqb}
use mathlib.Core.List.{◌∷◌}
use Rattle.object.specs.Each.{Each}
use Rattle.object.proofs.Choice.{by_equal, either}
use Rattle.machine.specs.Fields.{is_null}
use Rattle.dsm_lines.specs.Lines.{Line, printed, number, L0}
use Rattle.dsm_lines.proofs.Numbers.{each_line, by_line}
use Rattle.step.specs.Entry.{one_if}
use Rattle.invariant.specs.View.{View}
use Rattle.invariant.proofs.Upd.{upd_same, upd_if}
use Rattle.dsm_invariant.specs.View.{emptied}
use Rattle.dsm_invariant.specs.Ledger.{Ledger, node_number, node_at, counting, swapped, joining, noted}

-- whether thread t's line k ends its turn: 26, and a 23 that sets Tail to null
abbrev pub ending : View → ℕ → ℕ → Bool
ending v t k = eqb k 26 || eqb k 23 && emptied v t

module _ (v : View) (t : ℕ) (g : Ledger) where
  -- what holds of the ledger after every line: 8 and 23 write by a test
  each_noted : (P : ℕ → Ledger → Type 0)
      → Each (λ (l : Line). cond (eqb (number l) 8 || eqb (number l) 23) Unit (P (number l) (noted v t g l))) (L0 ∷ printed)
      → P 8 g
      × P 8 (joining v t g)
      × (emptied v t ≡ true → P 23 (counting g g.a g.d g.r g.a g.a false))
      × (emptied v t ≡ false → P 23 g)
      → (l : Line) → P (number l) (noted v t g l)
  each_noted P each tested l =
      let At : Line → Type 0 = λ l. P (number l) (noted v t g l) in
      by_equal (number l) 8 (λ q. by_line At l q (either (P 8) (is_null (v.thread t).pred) (λ _. tested.1) (λ _. tested.0))) λ p.
      by_equal (number l) 23 (λ q. by_line At l q (either (P 23) (emptied v t) tested.2 tested.3)) λ q.
      rw (ne_eqb (number l) 8 p, ne_eqb (number l) 23 q) at (each_line (λ (l : Line). cond (eqb (number l) 8 || eqb (number l) 23) Unit (At l)) each l)

-- thread t's line makes g into g': it raises counts, and positions change at a Swap alone
pub record Notes (v : View) (t : ℕ) (g : Ledger) (line : ℕ) (g' : Ledger) : Type 0 where
  pub s : g'.s ≡ g.s + one_if (eqb line 7)
  pub a : g'.a ≡ g.a + one_if (eqb line 16)
  pub b : g'.b ≡ cond (ending v t line) g.a g.b
  pub k : g'.k ≡ cond (ending v t line) g.a (g.k + one_if (eqb line 21))
  pub who : (i : ℕ) → g'.who i ≡ cond (eqb line 7) ((swapped v t g).who i) (g.who i)
  pub bit : (i : ℕ) → g'.bit i ≡ cond (eqb line 7) ((swapped v t g).bit i) (g.bit i)
  pub at : (u : ℕ) → g'.at u ≡ cond (eqb line 7) ((swapped v t g).at u) (g.at u)

pub notes : (v : View) (t : ℕ) (g : Ledger) (l : Line) → Notes v t g (number l) (noted v t g l)
notes v t g l = record {
  s = each_noted v t g (λ k g'. g'.s ≡ g.s + one_if (eqb k 7)) (omega arith) (omega arith) l;
  a = each_noted v t g (λ k g'. g'.a ≡ g.a + one_if (eqb k 16)) (omega arith) (omega arith) l;
  b = each_noted v t g (λ k g'. g'.b ≡ cond (ending v t k) g.a g.b) (omega arith) (refl, refl, λ e. rw e, λ e. rw e) l;
  k = each_noted v t g (λ k g'. g'.k ≡ cond (ending v t k) g.a (g.k + one_if (eqb k 21))) (omega arith) (omega arith, omega arith, λ e. rw e, λ e. rw e (omega arith)) l;
  who = λ i. each_noted v t g (λ k g'. g'.who i ≡ cond (eqb k 7) ((swapped v t g).who i) (g.who i)) (omega arith) (omega arith) l;
  bit = λ i. each_noted v t g (λ k g'. g'.bit i ≡ cond (eqb k 7) ((swapped v t g).bit i) (g.bit i)) (omega arith) (omega arith) l;
  at = λ u. each_noted v t g (λ k g'. g'.at u ≡ cond (eqb k 7) ((swapped v t g).at u) (g.at u)) (omega arith) (omega arith) l;
}

module _ (v : View) (t : ℕ) (g : Ledger) (l : Line) where
  -- a thread's position: a Swap gives it the last, and the others keep theirs
  pub at_swap : number l ≡ 7 → (noted v t g l).at t ≡ g.s
  at_swap q = (notes v t g l).at t ∙ rw q (upd_same g.at t _)

  pub at_kept : (u : ℕ) → (u ≡ t → number l ≡ 7 → ⊥) → (noted v t g l).at u ≡ g.at u
  at_kept u apart = (notes v t g l).at u ∙ upd_if (eqb (number l) 7) g.at t _ u (λ q e. apart e (eqb-true (number l) 7 q))

  -- the nodes of the positions so far stay, and a Swap's is the one that its thread toggled to
  pub node_kept : (i : ℕ) → i < g.s → node_at (noted v t g l) i ≡ node_at g i
  node_kept i low =
      ap₂ node_number
      ((notes v t g l).who i ∙ upd_if (eqb (number l) 7) g.who g.s _ i (λ q e. omega arith))
      ((notes v t g l).bit i ∙ upd_if (eqb (number l) 7) g.bit g.s _ i (λ q e. omega arith))

  pub node_new : number l ≡ 7 → node_at (noted v t g l) g.s ≡ node_number t (v.thread t).toggle
  node_new q =
      ap₂ node_number ((notes v t g l).who g.s ∙ rw q (upd_same g.who g.s _)) ((notes v t g l).bit g.s ∙ rw q (upd_same g.bit g.s _))

  -- the turn stays where it is until it ends
  pub turn_kept : ending v t (number l) ≡ false → (noted v t g l).b ≡ g.b
  turn_kept q = (notes v t g l).b ∙ rw q
