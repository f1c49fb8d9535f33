-- What a line writes into the ledger: the counts that it raises, and the positions that it leaves. Assumes nothing.
use Prim.Native.Nat.{ℕ, suc, ◌+◌, ◌≤◌, ◌<◌}
use native.Mathlib.Omega.{arith}
use mathlib.Core.Path.{◌≡◌, ◌∙◌}
use mathlib.Core.Bool.{cond}
use lib.Dec.{eqb}
use borrow.Author.Tests.{ne_eqb}
use Rattle.cc_lines.specs.Lines.{Line, number}
use Rattle.step.specs.Entry.{one_if}
use Rattle.cc_lines.proofs.Numbers.{each_line}
use Rattle.invariant.specs.Ledger.{Ledger, swapped, noted}
use Rattle.object.proofs.Choice.{by_equal}
use Rattle.invariant.proofs.Upd.{upd_same, upd_other, upd_if}

-- thread t's line k makes g into g': it raises counts, and positions change at a Swap alone
pub record Notes (n t own : ℕ) (g : Ledger) (k : ℕ) (g' : Ledger) : Type 0 where
  pub s : g'.s ≡ g.s + one_if (eqb k 5)
  pub a : g'.a ≡ g.a + one_if (eqb k 16)
  pub d : g'.d ≡ g.d + one_if (eqb k 17)
  pub r : g'.r ≡ g.r + one_if (eqb k 18)
  pub b : g'.b ≡ cond (eqb k 20) g.a g.b
  pub node : (i : ℕ) → g'.node i ≡ cond (eqb k 5) ((swapped n t own g).node i) (g.node i)
  pub at : (u : ℕ) → g'.at u ≡ cond (eqb k 5) ((swapped n t own g).at u) (g.at u)

pub notes : (n t own : ℕ) (g : Ledger) (l : Line) → Notes n t own g (number l) (noted n t own g l)
notes n t own g l =
    let after = noted n t own g in
    record {
      s = each_line (λ (l : Line). (after l).s ≡ g.s + one_if (eqb (number l) 5)) (omega arith) l;
      a = each_line (λ (l : Line). (after l).a ≡ g.a + one_if (eqb (number l) 16)) (omega arith) l;
      d = each_line (λ (l : Line). (after l).d ≡ g.d + one_if (eqb (number l) 17)) (omega arith) l;
      r = each_line (λ (l : Line). (after l).r ≡ g.r + one_if (eqb (number l) 18)) (omega arith) l;
      b = each_line (λ (l : Line). (after l).b ≡ cond (eqb (number l) 20) g.a g.b) (omega arith) l;
      node = λ i. each_line (λ (l : Line). (after l).node i ≡ cond (eqb (number l) 5) ((swapped n t own g).node i) (g.node i)) (omega arith) l;
      at = λ u. each_line (λ (l : Line). (after l).at u ≡ cond (eqb (number l) 5) ((swapped n t own g).at u) (g.at u)) (omega arith) l;
    }

module _ (n t own : ℕ) (g : Ledger) (l : Line) where
  -- a slot's position: a Swap gives its thread the last, and the other threads keep theirs
  pub at_swap : number l ≡ 5 → t < n → (noted n t own g l).at t ≡ g.s
  at_swap q below = (notes n t own g l).at t ∙ rw q (upd_other _ n _ t (λ e. omega arith) ∙ upd_same g.at t _)

  pub at_kept : (u : ℕ) → u < n → (u ≡ t → number l ≡ 5 → ⊥) → (noted n t own g l).at u ≡ g.at u
  at_kept u below apart =
      (notes n t own g l).at u
      ∙ by_equal (number l) 5 (λ q. rw q (upd_other _ n _ u (λ e. omega arith) ∙ upd_other g.at t _ u (λ e. apart e q)))
      (λ q. rw (ne_eqb (number l) 5 q))

  -- the nodes of the positions so far stay
  pub node_kept : (i : ℕ) → i ≤ g.s → (noted n t own g l).node i ≡ g.node i
  node_kept i low = (notes n t own g l).node i ∙ upd_if (eqb (number l) 5) g.node (suc g.s) _ i (λ q e. omega arith)
