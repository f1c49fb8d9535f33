-- Laws of the bytes of a list and of the bytes of a number, of specs/Bytes.antt. Assumes nothing.
use Prim.Native.Nat.{ℕ, zero, suc, ◌+◌, ◌*◌, ◌/◌, ◌%◌, ◌≤◌, ◌<◌, ◌^◌}
use native.Mathlib.Nat.{div-lt_iff_lt-mul, pow-suc, mul-zero, mul-suc}
use native.Mathlib.Omega.{arith}
use mathlib.Core.Path.{◌≡◌, refl, sym, ap, ◌∙◌}
use mathlib.Core.List.{List, [], ◌∷◌, ◌++◌, append_assoc}
use lib.ListN.{length, get_or, take, drop, length-append, take-append-drop}
use lib.Dec.{lit<}
use lib.Seq.{length-take-le, take_at, drop_at}
use Rattle.object.specs.Each.{Each}
use Rattle.object.proofs.Each.{each_append, each_there}
use Rattle.bench_file.specs.Reading.{little_endian}
use Rattle.bench_file.specs.Bytes.{low_first, each_bytes, Byte}

-- what is a byte at each place are bytes
pub each_at : (l : List ℕ) → ((i : ℕ) → Byte (get_or l i 0)) → Each Byte l
each_at l f = each_there Byte 0 l (λ i h. f i)

-- the bytes of a list, one after the other
module _ {A : Type 0} (bytes : A → List ℕ) where
  pub each_bytes_append : (s t : List A) → each_bytes bytes (s ++ t) ≡ each_bytes bytes s ++ each_bytes bytes t
  unfolding each_bytes
  each_bytes_append [] t = refl
  each_bytes_append (a ∷ s) t = rw (each_bytes_append s t, append_assoc)

  pub each_bytes_split : (k : ℕ) (l : List A) → each_bytes bytes l ≡ each_bytes bytes (take k l) ++ each_bytes bytes (drop k l)
  each_bytes_split k l = ap (each_bytes bytes) (sym (take-append-drop k l)) ∙ each_bytes_append (take k l) (drop k l)

  pub each_bytes_bytes : {P : A → Type 0} → ((a : A) → P a → Each Byte (bytes a)) → (l : List A) → Each P l → Each Byte (each_bytes bytes l)
  unfolding each_bytes
  each_bytes_bytes f [] p = tt
  each_bytes_bytes f (a ∷ l) p = each_append Byte (bytes a) (each_bytes bytes l) (f a p.0) (each_bytes_bytes f l p.1)

  -- where each takes so many
  module _ (width : ℕ) (e : (a : A) → length (bytes a) ≡ width) where
    pub each_bytes_length : (l : List A) → length (each_bytes bytes l) ≡ width * length l
    unfolding each_bytes
    each_bytes_length [] = sym (mul-zero width)
    each_bytes_length (a ∷ l) = rw (length-append, mul-suc) (omega (arith, e a, each_bytes_length l))

    pub each_bytes_take : (k : ℕ) (l : List A) → k ≤ length l → take (width * k) (each_bytes bytes l) ≡ each_bytes bytes (take k l)
    each_bytes_take k l h = rw (each_bytes_split k l) (take_at _ _ _ (each_bytes_length (take k l) ∙ ap (λ (n : ℕ). width * n) (length-take-le k l h)))

    pub each_bytes_drop : (k : ℕ) (l : List A) → k ≤ length l → drop (width * k) (each_bytes bytes l) ≡ each_bytes bytes (drop k l)
    each_bytes_drop k l h = rw (each_bytes_split k l) (drop_at (each_bytes bytes (take k l)) _ _ (each_bytes_length (take k l) ∙ ap (λ (n : ℕ). width * n) (length-take-le k l h)))

-- a number as bytes, the lowest first
pub low_length : (width number : ℕ) → length (low_first width number) ≡ width
unfolding low_first
low_length zero number = refl
low_length (suc width) number = ap suc (low_length width (number / 256))

pub low_bytes : (width number : ℕ) → Each Byte (low_first width number)
unfolding low_first
low_bytes zero number = tt
low_bytes (suc width) number = (omega arith, low_bytes width (number / 256))

pub low_value : (width number : ℕ) → number < 256 ^ width → little_endian (low_first width number) ≡ number
unfolding low_first little_endian
low_value zero number h = omega arith
low_value (suc width) number h =
    let e = low_value width (number / 256) ((div-lt_iff_lt-mul (lit< tt)).1 (rw pow-suc at h)) in
    omega arith

pub value_low : (bs : List ℕ) → Each Byte bs → low_first (length bs) (little_endian bs) ≡ bs
unfolding low_first little_endian
value_low [] p = refl
value_low (b ∷ bs) p =
    let low : (b + 256 * little_endian bs) % 256 ≡ b = omega (arith, p.0) in
    let high : (b + 256 * little_endian bs) / 256 ≡ little_endian bs = omega (arith, p.0) in
    rw (low, high, value_low bs p.1)

pub value_bound : (bs : List ℕ) → Each Byte bs → little_endian bs < 256 ^ length bs
unfolding little_endian
value_bound [] p = omega arith
value_bound (b ∷ bs) p = rw pow-suc (omega (arith, p.0, value_bound bs p.1))
