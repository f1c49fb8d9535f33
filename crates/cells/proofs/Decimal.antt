-- Laws of numbers in decimal: one digit, one digit more, how many there are, the first is no zero, and the number is read back. Assumes a number of at most ten digits.
use Prim.Native.Nat.{ℕ, zero, suc, ◌+◌, ◌-◌, ◌*◌, ◌/◌, ◌%◌, ◌^◌, ◌≤◌, ◌<◌}
use native.Mathlib.Nat.{pow-suc}
use native.Mathlib.Decide.{dec_le}
use native.Mathlib.Omega.{arith}
use mathlib.Core.Path.{◌≡◌, refl, ◌∙◌}
use mathlib.Core.List.{List, [], ◌∷◌, ◌++◌}
use lib.ListN.{length, get_or, length-append, get_or-append}
use borrow.Author.Tests.{lt-ltb, le-ltb}
use Rattle.object.specs.Each.{Each}
use Rattle.object.proofs.Each.{each_append}
use Rattle.cells.specs.Text.{digit, digits, decimal}

-- a number below ten is its one digit, any other has the digits of its tenth before its last
pub one_digit : (before n : ℕ) → n < 10 → digits before n ≡ digit n
unfolding digits
one_digit zero n h = refl
one_digit (suc before) n h = rw (lt-ltb n 10 h)

more_digits : (before n : ℕ) → 10 ≤ n → digits (suc before) n ≡ digits before (n / 10) ++ digit (n % 10)
unfolding digits
more_digits before n h = rw (le-ltb n 10 h)

tenth : (k n : ℕ) → n < 10 ^ suc k → n / 10 < 10 ^ k
tenth k n h = omega (arith, rw pow-suc at h)

-- what holds of one digit, and of one digit more, holds of all digits
by_digits
    : (P : ℕ → List ℕ → Type 0) → ((n : ℕ) → n < 10 → P n (digit n))
    → ((n : ℕ) (l : List ℕ) → 10 ≤ n → P (n / 10) l → P n (l ++ digit (n % 10)))
    → (before n : ℕ) → n < 10 ^ suc before → P n (digits before n)
by_digits P one more zero n h = rw (one_digit 0 n h) (one n h)
by_digits P one more (suc before) n h =
    elim (dec_le 10 n) [
      | yes large ↦ rw (more_digits before n large) (more n (digits before (n / 10)) large (by_digits P one more before (n / 10) (tenth (suc before) n h)))
      | no small ↦ let s : n < 10 = omega arith in rw (one_digit (suc before) n s) (one n s)
    ]

-- a place that is not needed changes nothing
spare_place : (before n : ℕ) → n < 10 ^ suc before → digits (suc before) n ≡ digits before n
spare_place zero n h = one_digit 1 n h ∙ rw (one_digit 0 n h)
spare_place (suc before) n h =
    elim (dec_le 10 n) [
      | yes large ↦ rw (more_digits (suc before) n large, more_digits before n large, spare_place before (n / 10) (tenth (suc before) n h))
      | no small ↦ let s : n < 10 = omega arith in rw (one_digit (suc (suc before)) n s, one_digit (suc before) n s)
    ]

pub at_most : (before n : ℕ) → length (digits before n) ≤ suc before
unfolding digits
at_most zero n = omega arith
at_most (suc before) n =
    elim (dec_le 10 n) [
      | yes large ↦ rw (more_digits before n large, length-append) (omega (arith, at_most before (n / 10)))
      | no small ↦ rw (one_digit (suc before) n (omega arith)) (omega arith)
    ]

-- no more than its size asks
pub no_longer : (before width n : ℕ) → n < 10 ^ suc width → length (digits before n) ≤ suc width
unfolding digits
no_longer zero width n h = omega arith
no_longer (suc before) zero n h = rw (one_digit (suc before) n (omega arith)) (omega arith)
no_longer (suc before) (suc width) n h =
    elim (dec_le 10 n) [
      | yes large ↦ rw (more_digits before n large, length-append) (omega (arith, no_longer before width (n / 10) (tenth (suc width) n h)))
      | no small ↦ rw (one_digit (suc before) n (omega arith)) (omega arith)
    ]

-- each digit is one
abbrev pub IsDigit : ℕ → Type 0
IsDigit d = (48 ≤ d) × (d ≤ 57)

-- the number that digits say, read behind a number
abbrev pub said : ℕ → List ℕ → ℕ
said number [] = number
said number (d ∷ l) = said (10 * number + (d - 48)) l

said_behind : (number : ℕ) (a b : List ℕ) → said number (a ++ b) ≡ said (said number a) b
said_behind number [] b = refl
said_behind number (d ∷ a) b = said_behind (10 * number + (d - 48)) a b

-- there is a digit, and the first is 0 only if the number is
abbrev Begins : ℕ → List ℕ → Type 0
Begins n l = (1 ≤ length l) × (get_or l 0 0 ≡ 48 → n ≡ 0)

begins : (before n : ℕ) → n < 10 ^ suc before → Begins n (digits before n)
begins =
    by_digits Begins (λ n h. (omega arith, λ e. omega arith))
    (λ n l h p. (
      rw length-append (omega (arith, p.0)),
      λ e. let z = p.1 (rw (get_or-append l (digit (n % 10)) 0 0 p.0) at e) in omega arith,
    ))

abbrev AllDigits : ℕ → List ℕ → Type 0
AllDigits n l = Each IsDigit l

all_digits : (before n : ℕ) → n < 10 ^ suc before → AllDigits n (digits before n)
all_digits = by_digits AllDigits (λ n h. (omega arith, tt)) (λ n l h p. each_append IsDigit l (digit (n % 10)) p (omega arith, tt))

-- the laws of a number of at most ten digits
module _ (n : ℕ) (h : n < 10 ^ 10) where
  pub decimal_more : 10 ≤ n → decimal n ≡ decimal (n / 10) ++ digit (n % 10)
  decimal_more large = more_digits 8 n large ∙ rw (spare_place 8 (n / 10) (tenth 9 n h))

  pub decimal_digits : Each IsDigit (decimal n)
  decimal_digits = all_digits 9 n h

  pub decimal_length : (1 ≤ length (decimal n)) × (length (decimal n) ≤ 10)
  decimal_length = ((begins 9 n h).0, at_most 9 n)

  -- the first digit is 0 only of the number 0, and then the only one
  pub no_leading_zero : get_or (decimal n) 0 0 ≡ 48 → (n ≡ 0) × (decimal n ≡ digit 0)
  no_leading_zero e = let z = (begins 9 n h).1 e in (z, rw (z, one_digit 9 0 (omega arith)))

  pub read_back : said 0 (decimal n) ≡ n
  read_back =
      by_digits (λ n l. said 0 l ≡ n) (λ n h. omega arith) (λ n l h e. said_behind 0 l (digit (n % 10)) ∙ omega arith) 9 n h
