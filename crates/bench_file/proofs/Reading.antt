-- Laws of the readers of specs/Reading.antt at a place of a file: what a field finds there. Assumes nothing.
use Prim.Native.Nat.{ℕ, zero, suc, ◌+◌, ◌*◌, ◌≤◌, ◌<◌}
use native.Mathlib.Nat.{le_of_suc-le-suc, not-suc-le-zero}
use native.Mathlib.Numerals.{add-one, add-two, add-three}
use native.Mathlib.Omega.{arith}
use mathlib.Core.Path.{◌≡◌, refl, sym, ◌∙◌}
use mathlib.Core.Bool.{Bool, true, false}
use mathlib.Core.List.{List, [], ◌∷◌}
use lib.ListN.{length, get_or, take, drop, drop_of_length-le, length-drop}
use lib.Seq.{take-nil, drop-cons, drop-drop}
use borrow.Author.Tests.{ne_eqb}
use Rattle.std.specs.Int.{w16, w32, from_le_bytes}
use Rattle.bench_file.specs.Cursor.{number_read}
use Rattle.bench_file.specs.Reading.{Outcome, refused, read, Reader, after, rule, field, little_endian, byte, ruled_byte}

-- what follows a value that was read, and a refusal
pub after_read_lem : {A B : Type 0} {o : Outcome A} {a : A} {rest : List ℕ} (next : A → Reader B) → o ≡ read a rest → after o next ≡ next a rest
after_read_lem next e = rw e

pub after_refused : {A B : Type 0} {o : Outcome A} {refusal : ℕ} (next : A → Reader B) → o ≡ refused refusal → after o next ≡ refused refusal
after_refused next e = rw e

pub rule_kept : {B : Type 0} (refusal : ℕ) {b : Bool} (bs : List ℕ) (next : Unit → Reader B) → b ≡ true → after (rule refusal b bs) next ≡ next tt bs
rule_kept refusal bs next e = rw e

pub rule_broken : {B : Type 0} (refusal : ℕ) {b : Bool} (bs : List ℕ) (next : Unit → Reader B) → b ≡ false → after (rule refusal b bs) next ≡ refused refusal
rule_broken refusal bs next e = rw e

-- a field of any width
pub field_whole : (width : ℕ) (bs : List ℕ) → width ≤ length bs → field width bs ≡ read (take width bs) (drop width bs)
unfolding field
field_whole zero bs h = refl
field_whole (suc width) [] h = absurd (not-suc-le-zero h)
field_whole (suc width) (b ∷ bs) h = after_read_lem (λ l rest. read (b ∷ l) rest) (field_whole width bs (le_of_suc-le-suc h))

pub field_cut : (width : ℕ) (bs : List ℕ) → length bs < width → field width bs ≡ refused 1
unfolding field
field_cut zero bs h = absurd (not-suc-le-zero h)
field_cut (suc width) [] h = refl
field_cut (suc width) (b ∷ bs) h = after_refused (λ l rest. read (b ∷ l) rest) (field_cut width bs (le_of_suc-le-suc h))

module _ (s : List ℕ) (at : ℕ) where
  pub field_at : (width : ℕ) → at + width ≤ length s → field width (drop at s) ≡ read (take width (drop at s)) (drop (at + width) s)
  field_at width h = rw (← drop-drop width at s) (field_whole width (drop at s) (rw length-drop (omega arith)))

  pub field_cut_at : (width : ℕ) → at ≤ length s → length s < at + width → field width (drop at s) ≡ refused 1
  field_cut_at width g h = field_cut width (drop at s) (rw length-drop (omega arith))

  pub cons_at : at < length s → drop at s ≡ get_or s at 0 ∷ drop (at + 1) s
  cons_at h = rw (add-one, drop-cons s at 0)

  pub byte_at : at < length s → byte (drop at s) ≡ read (get_or s at 0) (drop (at + 1) s)
  unfolding byte
  byte_at h = rw cons_at

  pub byte_cut : length s ≤ at → byte (drop at s) ≡ refused 1
  unfolding byte
  byte_cut h = rw drop_of_length-le

  -- a field of one byte with its own rule
  module _ (refusal : ℕ) (test : ℕ → Bool) where
    pub ruled_cut : length s ≤ at → ruled_byte refusal test (drop at s) ≡ refused 1
    unfolding ruled_byte
    ruled_cut h = after_refused _ (byte_cut h)

    pub ruled_is : at < length s → test (get_or s at 0) ≡ true → ruled_byte refusal test (drop at s) ≡ read (get_or s at 0) (drop (at + 1) s)
    unfolding ruled_byte
    ruled_is h e = after_read_lem _ (byte_at h) ∙ rule_kept refusal (drop (at + 1) s) _ e

    pub ruled_out : at < length s → test (get_or s at 0) ≡ false → ruled_byte refusal test (drop at s) ≡ refused refusal
    unfolding ruled_byte
    ruled_out h e = after_read_lem _ (byte_at h) ∙ rule_broken refusal (drop (at + 1) s) _ e

-- a number of bytes at a place has its lowest byte first; bytes past the end count as 0
low_at : (s : List ℕ) (at width : ℕ) → little_endian (take (suc width) (drop at s)) ≡ get_or s at 0 + 256 * little_endian (take width (drop (suc at) s))
unfolding little_endian
low_at [] zero width = rw (take-nil width)
low_at [] (suc at) width = rw (take-nil width)
low_at (b ∷ s) zero width = refl
low_at (b ∷ s) (suc at) width = low_at s at width

-- the numbers of two and of four bytes, and that they are those that std reads
module _ (s : List ℕ) (at : ℕ) where
  pub two_at : little_endian (take 2 (drop at s)) ≡ get_or s at 0 + 256 * get_or s (at + 1) 0
  unfolding little_endian
  two_at = rw add-one (omega (arith, low_at s at 1, low_at s (suc at) 0))

  pub four_at : little_endian (take 4 (drop at s)) ≡ little_endian (take 2 (drop at s)) + 65536 * little_endian (take 2 (drop (at + 2) s))
  unfolding little_endian
  four_at = rw add-two (omega (arith, low_at s at 3, low_at s (suc at) 2, low_at s at 1, low_at s (suc at) 0))

  pub two_read : from_le_bytes w16 (get_or s at 0 ∷ get_or s (at + 1) 0 ∷ []) ≡ little_endian (take 2 (drop at s))
  two_read = omega (arith, two_at)

  pub four_read : from_le_bytes w32 (get_or s at 0 ∷ get_or s (at + 1) 0 ∷ get_or s (at + 2) 0 ∷ get_or s (at + 3) 0 ∷ []) ≡ little_endian (take 4 (drop at s))
  unfolding little_endian
  four_read = rw (add-one, add-two, add-three) (omega (arith, low_at s at 3, low_at s (suc at) 2, low_at s (suc (suc at)) 1, low_at s (suc (suc (suc at))) 0))

-- what a refusal's number says of the outcome that it stands for
pub went_on : (s : List ℕ) (next : ℕ) {refusal : ℕ} {o : Outcome Unit} → number_read s next refusal ≡ o → refusal ≡ 0 → o ≡ read tt (drop next s)
went_on s next e z = sym e ∙ rw z

pub stopped : (s : List ℕ) (next : ℕ) {refusal : ℕ} {o : Outcome Unit} → number_read s next refusal ≡ o → (refusal ≡ 0 → ⊥) → o ≡ refused refusal
stopped s next e z = sym e ∙ rw (ne_eqb _ _ z)
