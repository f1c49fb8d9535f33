-- Laws of CC-Synch's lines and their numbers. Assumes nothing.
use Prim.Native.Nat.{ℕ, ◌≤◌}
use native.Mathlib.Omega.{arith}
use mathlib.Core.Path.{◌≡◌, refl}
use mathlib.Core.Bool.{true, ◌||◌}
use mathlib.Core.List.{◌∷◌, map}
use lib.Dec.{eqb}
use borrow.Author.Tests.{eqb-true, ne_eqb}
use Rattle.object.specs.Each.{Each}
use Rattle.object.proofs.Choice.{by_equal}
use Rattle.machine.proofs.Lines.{number_at, each_of, agree_on, by_number}
use Rattle.cc_lines.specs.Lines.{Line, printed, line_of, number, L0, L1, L2, L3, L4, L5, L6, L7, L8, L9, L10, L11, L12, L13, L14, L15, L16, L17, L18, L19, L20, L21}

pub number_of : (k : ℕ) → k ≤ 21 → number (line_of k) ≡ k
number_of k h = omega (arith, number_at number L0 0 (L0 ∷ printed) k (omega arith) (omega arith))

-- a line is the one of its number
pub line_at : (l : Line) → line_of (number l) ≡ l
line_at L0 = refl
line_at L1 = refl
line_at L2 = refl
line_at L3 = refl
line_at L4 = refl
line_at L5 = refl
line_at L6 = refl
line_at L7 = refl
line_at L8 = refl
line_at L9 = refl
line_at L10 = refl
line_at L11 = refl
line_at L12 = refl
line_at L13 = refl
line_at L14 = refl
line_at L15 = refl
line_at L16 = refl
line_at L17 = refl
line_at L18 = refl
line_at L19 = refl
line_at L20 = refl
line_at L21 = refl

-- what holds of a blank and of each printed line holds of every line
pub each_line : (P : Line → Type 0) → Each P (L0 ∷ printed) → (l : Line) → P l
each_line P each = each_of number L0 (L0 ∷ printed) line_at P each each.0

pub number_most : (l : Line) → number l ≤ 21
number_most = each_line (λ (l : Line). number l ≤ 21) (omega arith)

-- two functions of a line that give the same list of all lines agree on every line
pub agree : {A : Type 0} (f g : Line → A) → map f (L0 ∷ printed) ≡ map g (L0 ∷ printed) → f L0 ≡ g L0 → (l : Line) → f l ≡ g l
agree = agree_on number L0 (L0 ∷ printed) line_at

-- a line whose number is known
pub by_line : (P : Line → Type 0) (l : Line) {k : ℕ} → number l ≡ k → P (line_of k) → P l
by_line = by_number number L0 (L0 ∷ printed) line_at

-- a call's last line is 11 or 21
pub by_last : {P : Type 0} (k : ℕ) → (eqb k 11 || eqb k 21) ≡ true → (k ≡ 11 → P) → (k ≡ 21 → P) → P
by_last k last answered leaves = by_equal k 11 answered (λ p. leaves (eqb-true k 21 (rw (ne_eqb k 11 p) at last)))
