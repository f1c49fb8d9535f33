-- Numbers that name no printed line, of either method: those past a list of its lines, a blank first. Assumes what the laws' premises say.
use Prim.Native.Nat.{ℕ, zero, suc, ◌≤◌}
use native.Mathlib.Omega.{arith}
use mathlib.Core.Path.{◌≡◌, sym}
use mathlib.Core.List.{List}
use lib.ListN.{length, get_or, get_or-eq_default}

-- none of the numbers below k
abbrev pub NoneBelow : ℕ → ℕ → Type 0
NoneBelow zero n = Unit
NoneBelow (suc k) n = NoneBelow k n × (n ≡ k → ⊥)

past : (k n : ℕ) → NoneBelow k n → k ≤ n
past zero n r = omega arith
past (suc k) n r =
    let below : k ≤ n = past k n r.0 in
    let other : n ≡ k → ⊥ = r.1 in
    omega arith

module _ {Line : Type 0} (blank : Line) (lines : List Line) (n : ℕ) where
  pub none_above : length lines ≤ n → blank ≡ get_or lines n blank
  none_above h = sym (get_or-eq_default lines blank {n = n} h)

  -- nor is there a line among what is left when the numbers of all are taken out
  pub none_left : NoneBelow (length lines) n → blank ≡ get_or lines n blank
  none_left r = none_above (past (length lines) n r)
