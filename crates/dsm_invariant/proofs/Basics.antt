-- The numbers of threads' nodes, toggles, and tests of stages. Assumes nothing.
use Prim.Native.Nat.{ℕ, ◌-◌, ◌*◌, ◌≤◌, ◌<◌}
use native.Mathlib.Omega.{arith}
use mathlib.Core.Path.{◌≡◌}
use mathlib.Core.Bool.{Bool, true, not, ◌||◌}
use lib.Dec.{T}
use lib.Ieee.Bits.{is_true}
use Rattle.object.specs.Each.{every}
use Rattle.object.proofs.Each.{each_get_or_default, every_each}
use Rattle.dsm_invariant.specs.Stages.{Stage, nowhere, stages, stage_of}
use Rattle.dsm_invariant.specs.Ledger.{node_number}

-- a node tells its thread and its toggle
module _ (u w : ℕ) {x y : ℕ} (one : x ≤ 1) (other : y ≤ 1) where
  pub thread_told : node_number u x ≡ node_number w y → u ≡ w
  unfolding node_number
  thread_told e = omega arith

  pub toggle_told : node_number u x ≡ node_number w y → x ≡ y
  unfolding node_number
  toggle_told e = omega arith

-- the nodes of n threads are the numbers below 2n, and none is null
pub number_range : (n u : ℕ) {x : ℕ} → u < n → x ≤ 1 → node_number u x < 2 * n
unfolding node_number
number_range n u k one = omega arith

-- a toggle set twice, and once
pub toggled_twice : {x : ℕ} → x ≤ 1 → 1 - (1 - x) ≡ x
toggled_twice one = omega arith

pub toggled_other : {x : ℕ} → x ≤ 1 → x ≡ 1 - x → ⊥
toggled_other one e = omega arith

-- where one test of a stage passes another does, if that is so of all stages
module _ (p q : Stage → Bool) where
  abbrev pub follows : Stage → Bool
  follows s = not (p s) || q s

  pub implied : every follows stages ≡ true → (k : ℕ) → T (p (stage_of k)) → T (q (stage_of k))
  implied all k t =
      let each = every_each follows stages all in
      rw (rw (is_true (p (stage_of k)) t) at (each_get_or_default (λ s. follows s ≡ true) stages k nowhere each each.1.0)) tt
