-- A choice by two numbers or by a test, what a test takes, and two tests of which neither passes. Assumes nothing.
use Rattle.std.proofs.Common.{◌≡◌, ℕ, ◌<◌, ◌≤◌, Bool, true, false, cond, ◌&&◌, ◌||◌, ltb, sym, refl, ltb-false, ltb-true}
use native.Mathlib.Decide.{ℕ_discrete}
use mathlib.Core.Bool.{false≢true}

-- two numbers are equal or not
pub by_equal : {P : Type 0} (j k : ℕ) → (j ≡ k → P) → ((j ≡ k → ⊥) → P) → P
by_equal {P} j k same other = go (ℕ_discrete j k)
  where
    go : Dec (j ≡ k) → P
    go (yes e) = same e
    go (no e) = other e

pub by_order : {P : Type 0} (j k : ℕ) → (j < k → P) → (k ≤ j → P) → P
by_order {P} j k under over = go (ltb j k) refl
  where
    go : (b : Bool) → ltb j k ≡ b → P
    go true e = under (ltb-true j k e)
    go false e = over (ltb-false j k e)

-- a test passes or fails
pub by_test : {P : Type 0} (b : Bool) → (b ≡ true → P) → (b ≡ false → P) → P
by_test true on off = on refl
by_test false on off = off refl

-- what holds of both of two values holds of the one that a test takes: the library's `cond_both`, which would have the two values written out at each use
pub either : {A : Type 0} (P : A → Type 0) {a b : A} (t : Bool) → (t ≡ true → P a) → (t ≡ false → P b) → P (cond t a b)
either P true on off = on refl
either P false on off = off refl

-- a second test that fails where the first passes
pub unless : (a b : Bool) → (a ≡ true → b ≡ false) → (a && b) ≡ false
unless true b f = f refl
unless false b f = refl

-- two tests of which neither passes
pub both_fail : (a b : Bool) → (a || b) ≡ false → (a ≡ false) × (b ≡ false)
both_fail true b e = absurd (false≢true (sym e))
both_fail false b e = (refl, e)
