-- What the shifts of the code give. Assumes nothing.
use Prim.Native.Nat.{ℕ, ◌+◌, ◌*◌, ◌/◌, ◌%◌, ◌^◌, ◌<◌, ◌≤◌}
use native.Mathlib.Omega.{arith}
use native.Mathlib.Nat.{one-le-pow, zero-div, mod-eq_of_lt, div-mul-le_self}
use mathlib.Core.Path.{◌≡◌, ap, ap₂, ◌∙◌}
use Rattle.copies.proofs.Bits.{cleared, set_fits}
use Rattle.copies.proofs.Valid.{cleared_fits}

-- 1 shifted to a bit of a number of k bits
pub one_shifted : (t k : ℕ) → t < k → 1 * 2 ^ t % 2 ^ k ≡ 2 ^ t
one_shifted t k h =
    let below : 0 + 2 ^ t < 2 ^ k = set_fits 0 t k h (one-le-pow k 2 (omega arith)) (ap (λ (v : ℕ). v % 2) (zero-div (2 ^ t))) in
    mod-eq_of_lt (omega arith) ∙ omega arith

-- what a write computes in 32 bits, and that 16 hold it
module _ (n w t : ℕ) (f : w < 2 ^ 16) (h : t < n) (k : n ≤ 16) where
  pub written : w / 2 ^ n * 2 ^ n % 2 ^ 32 + 1 * 2 ^ t % 2 ^ 32 ≡ cleared n w + 2 ^ t
  written = ap₂ ◌+◌ (mod-eq_of_lt (omega (arith, div-mul-le_self w (2 ^ n)))) (one_shifted t 32 (omega arith))

  pub written_fits : w / 2 ^ n * 2 ^ n % 2 ^ 32 + 1 * 2 ^ t % 2 ^ 32 < 2 ^ 16
  written_fits = omega (arith, written, cleared_fits n w t f h k)
