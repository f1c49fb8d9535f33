-- Bits of a number: one that is 0 may be set, and the lowest n may be cleared; the other bits stay. Assumes nothing.
use Prim.Native.Nat.{ℕ, zero, suc, ◌+◌, ◌*◌, ◌/◌, ◌%◌, ◌^◌, ◌<◌, ◌≤◌}
use native.Mathlib.Omega.{arith, pow_step}
use native.Mathlib.Nat.{div-div-eq-div-mul, div-one, mul_left_comm, mul-div_cancel, one-le-pow}
use mathlib.Core.Path.{◌≡◌, refl, sym, ap, ap₂, ◌∙◌}

-- bit t of w
abbrev pub bit : ℕ → ℕ → ℕ
bit w t = w / 2 ^ t % 2

-- w with its lowest n bits 0
abbrev pub cleared : ℕ → ℕ → ℕ
cleared n w = w / 2 ^ n * 2 ^ n

halved : (w t : ℕ) → w / 2 ^ suc t ≡ w / 2 / 2 ^ t
halved w t = ap (λ (k : ℕ). w / k) (pow_step 2 t) ∙ sym (div-div-eq-div-mul w 2 (2 ^ t))

bit_half : (w t : ℕ) → bit w (suc t) ≡ bit (w / 2) t
bit_half w t = ap (λ (k : ℕ). k % 2) (halved w t)

bit_zero : (w : ℕ) → bit w 0 ≡ w % 2
bit_zero w = ap (λ (k : ℕ). k % 2) (div-one w)

cleared_half : (n w : ℕ) → cleared (suc n) w ≡ 2 * cleared n (w / 2)
cleared_half n w = ap₂ ◌*◌ (halved w n) (pow_step 2 n) ∙ mul_left_comm (w / 2 / 2 ^ n) 2 (2 ^ n)

-- half of w with bit t + 1 added is half of w with bit t added
half_set : (w t : ℕ) → (w + 2 ^ suc t) / 2 ≡ w / 2 + 2 ^ t
half_set w t = omega arith

pub bit_set : (w t : ℕ) → bit w t ≡ 0 → bit (w + 2 ^ t) t ≡ 1
bit_set w zero e = omega (arith, bit_zero w, bit_zero (w + 1))
bit_set w (suc t) e =
    bit_half (w + 2 ^ suc t) t ∙ ap (λ (v : ℕ). bit v t) (half_set w t) ∙ bit_set (w / 2) t (sym (bit_half w t) ∙ e)

pub bit_other : (w t u : ℕ) → bit w t ≡ 0 → (u ≡ t → ⊥) → bit (w + 2 ^ t) u ≡ bit w u
bit_other w zero zero e d = absurd (d refl)
bit_other w zero (suc u) e d =
    let half : (w + 1) / 2 ≡ w / 2 = omega (arith, bit_zero w) in
    bit_half (w + 1) u ∙ ap (λ (v : ℕ). bit v u) half ∙ sym (bit_half w u)
bit_other w (suc t) zero e d = omega (arith, bit_zero w, bit_zero (w + 2 ^ suc t))
bit_other w (suc t) (suc u) e d =
    bit_half (w + 2 ^ suc t) u
    ∙ ap (λ (v : ℕ). bit v u) (half_set w t)
    ∙ bit_other (w / 2) t u (sym (bit_half w t) ∙ e) (λ q. d (ap suc q))
    ∙ sym (bit_half w u)

pub set_fits : (w t k : ℕ) → t < k → w < 2 ^ k → bit w t ≡ 0 → w + 2 ^ t < 2 ^ k
set_fits w t zero h f e = absurd (omega arith)
set_fits w zero (suc k) h f e = omega (arith, bit_zero w)
set_fits w (suc t) (suc k) h f e =
    omega (arith, set_fits (w / 2) t k (omega arith) (omega arith) (sym (bit_half w t) ∙ e))

pub bit_cleared : (n w u : ℕ) → u < n → bit (cleared n w) u ≡ 0
bit_cleared zero w u h = absurd (omega arith)
bit_cleared (suc n) w zero h = omega (arith, bit_zero (cleared (suc n) w), cleared_half n w)
bit_cleared (suc n) w (suc u) h =
    let half : cleared (suc n) w / 2 ≡ cleared n (w / 2) = omega (arith, cleared_half n w) in
    bit_half (cleared (suc n) w) u ∙ ap (λ (v : ℕ). bit v u) half ∙ bit_cleared n (w / 2) u (omega arith)

pub bit_past : (n w u : ℕ) → n ≤ u → bit (cleared n w) u ≡ bit w u
bit_past zero w u h = ap (λ (v : ℕ). bit v u) (omega (arith, div-one w))
bit_past (suc n) w zero h = absurd (omega arith)
bit_past (suc n) w (suc u) h =
    let half : cleared (suc n) w / 2 ≡ cleared n (w / 2) = omega (arith, cleared_half n w) in
    bit_half (cleared (suc n) w) u
    ∙ ap (λ (v : ℕ). bit v u) half
    ∙ bit_past n (w / 2) u (omega arith)
    ∙ sym (bit_half w u)

-- the bits from n on, as a number, where one below n is set or the lowest n are cleared
pub past_set : (n w t : ℕ) → t < n → bit w t ≡ 0 → (w + 2 ^ t) / 2 ^ n ≡ w / 2 ^ n
past_set zero w t h e = absurd (omega arith)
past_set (suc n) w zero h e =
    let half : (w + 1) / 2 ≡ w / 2 = omega (arith, bit_zero w) in
    halved (w + 1) n ∙ ap (λ (v : ℕ). v / 2 ^ n) half ∙ sym (halved w n)
past_set (suc n) w (suc t) h e =
    halved (w + 2 ^ suc t) n
    ∙ ap (λ (v : ℕ). v / 2 ^ n) (half_set w t)
    ∙ past_set n (w / 2) t (omega arith) (sym (bit_half w t) ∙ e)
    ∙ sym (halved w n)

pub past_cleared : (n w : ℕ) → cleared n w / 2 ^ n ≡ w / 2 ^ n
past_cleared n w = mul-div_cancel (w / 2 ^ n) (one-le-pow n 2 (omega arith))
