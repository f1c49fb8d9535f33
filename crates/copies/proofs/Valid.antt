-- Valid copies of one location: what a read and a write leave, and that what they add stays in 16 bits. Assumes nothing.
use Prim.Native.Nat.{ℕ, ◌+◌, ◌/◌, ◌^◌, ◌<◌, ◌≤◌}
use native.Mathlib.Omega.{arith}
use native.Mathlib.Decide.{dec_le}
use native.Mathlib.Nat.{add-zero, zero-div, div-mul-le_self, lt_of_not-le}
use mathlib.Core.Path.{◌≡◌, refl, ap, subst, ◌∙◌}
use mathlib.Core.Bool.{Bool, true, false, ◌&&◌, and-false}
use borrow.Author.Tests.{lt-ltb, le-ltb, le-leb, lt-leb, eqb-false}
use lib.Dec.{ltb, eqb}
use Rattle.copies.specs.Copies.{has_copy, after_read, after_write}
use Rattle.copies.proofs.Bits.{bit, cleared, bit_set, bit_other, set_fits, bit_cleared, past_set, past_cleared}

-- the number 0 has no copies
pub none_held : (t : ℕ) → has_copy 0 t ≡ false
none_held t = rw (zero-div (2 ^ t)) (and-false (ltb t 16))

-- a copy is a bit
module _ (w t : ℕ) where
  held : t < 16 → bit w t ≡ 1 → has_copy w t ≡ true
  held h e = rw (lt-ltb t 16 h, e)

  unheld : bit w t ≡ 0 → has_copy w t ≡ false
  unheld e = rw e (and-false (ltb t 16))

  bit_unheld : t < 16 → has_copy w t ≡ false → bit w t ≡ 0
  bit_unheld h e =
      let not_one : bit w t ≡ 1 → ⊥ = eqb-false (bit w t) 1 (rw (lt-ltb t 16 h) at e) in
      omega arith

same_held : (v w u : ℕ) → bit v u ≡ bit w u → has_copy v u ≡ has_copy w u
same_held v w u e = ap (λ (b : ℕ). ltb u 16 && eqb b 1) e

-- after a read the number is as it was, or has one bit more
module _ (w t : ℕ) (P : ℕ → Type 0) where
  by_held : (b : Bool) → has_copy w t ≡ b → t < 16 → (has_copy w t ≡ true → P w) → (has_copy w t ≡ false → P (w + 2 ^ t)) → P (after_read w t)
  by_held true e h kept added = subst P (rw e) (kept e)
  by_held false e h kept added = subst P (rw (e, lt-ltb t 16 h)) (added e)

  read_cases : (16 ≤ t → P w) → (t < 16 → has_copy w t ≡ true → P w) → (t < 16 → has_copy w t ≡ false → P (w + 2 ^ t)) → P (after_read w t)
  read_cases out kept added =
      elim (dec_le 16 t) [
        | yes h ↦ subst P (simp (le-ltb t 16 h, add-zero)) (out h)
        | no h ↦ let h : t < 16 = lt_of_not-le h in by_held (has_copy w t) refl h (kept h) (added h)
      ]

-- after a write it is as it was, or the lowest n bits are cleared and one is set
module _ (n w t : ℕ) (P : ℕ → Type 0) where
  write_cases : P w → (t < n → n ≤ 16 → P (cleared n w + 2 ^ t)) → P (after_write n w t)
  write_cases kept done =
      elim (dec_le n t) [
        | yes h ↦ subst P (simp (le-ltb t n h)) kept
        | no h ↦ elim (dec_le n 16) [
          | yes k ↦ let h : t < n = lt_of_not-le h in subst P (rw (lt-ltb t n h, le-leb n 16 k)) (done h k)
          | no k ↦ subst P (simp (lt-leb n 16 (lt_of_not-le k), and-false)) kept
        ]
      ]

module _ (w t : ℕ) where
  -- after a read the thread has a copy
  pub read_holds : t < 16 → has_copy (after_read w t) t ≡ true
  read_holds h =
      read_cases w t (λ v. has_copy v t ≡ true)
      (λ k. absurd (omega arith))
      (λ k e. e)
      (λ k e. held (w + 2 ^ t) t h (bit_set w t (bit_unheld w t h e)))

  -- and the others have what they had
  pub read_keeps : (u : ℕ) → (u ≡ t → ⊥) → has_copy (after_read w t) u ≡ has_copy w u
  read_keeps u d =
      read_cases w t (λ v. has_copy v u ≡ has_copy w u)
      (λ k. refl)
      (λ k e. refl)
      (λ k e. same_held (w + 2 ^ t) w u (bit_other w t u (bit_unheld w t k e) d))

  -- those from n on too, where its thread is below n
  pub read_past : (n : ℕ) → t < n → after_read w t / 2 ^ n ≡ w / 2 ^ n
  read_past n h =
      read_cases w t (λ v. v / 2 ^ n ≡ w / 2 ^ n)
      (λ k. refl)
      (λ k e. refl)
      (λ k e. past_set n w t h (bit_unheld w t k e))

  pub added_fits : w < 2 ^ 16 → t < 16 → has_copy w t ≡ false → w + 2 ^ t < 2 ^ 16
  added_fits f h e = set_fits w t 16 h f (bit_unheld w t h e)

module _ (n w t : ℕ) where
  -- after a write the threads from n on have what they had, as one number
  pub write_past : after_write n w t / 2 ^ n ≡ w / 2 ^ n
  write_past =
      write_cases n w t (λ v. v / 2 ^ n ≡ w / 2 ^ n)
      refl
      (λ h m. past_set n (cleared n w) t h (bit_cleared n w t h) ∙ past_cleared n w)

  pub cleared_fits : w < 2 ^ 16 → t < n → n ≤ 16 → cleared n w + 2 ^ t < 2 ^ 16
  cleared_fits f h k =
      set_fits (cleared n w) t 16 (omega arith) (omega (arith, div-mul-le_self w (2 ^ n))) (bit_cleared n w t h)

  module _ (h : t < n) (k : n ≤ 16) where
    -- after a write of one of n threads it has a copy
    pub write_holds : has_copy (after_write n w t) t ≡ true
    write_holds =
        rw (lt-ltb t n h, le-leb n 16 k)
        (held (cleared n w + 2 ^ t) t (omega arith) (bit_set (cleared n w) t (bit_cleared n w t h)))

    -- and no other of the n has
    pub write_ends : (u : ℕ) → u < n → (u ≡ t → ⊥) → has_copy (after_write n w t) u ≡ false
    write_ends u m d =
        rw (lt-ltb t n h, le-leb n 16 k)
        (unheld (cleared n w + 2 ^ t) u (bit_other (cleared n w) t u (bit_cleared n w t h) d ∙ bit_cleared n w u m))
