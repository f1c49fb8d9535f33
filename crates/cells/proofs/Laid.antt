-- Laws of text laid behind text: nothing, two texts one behind the other, a text that equals another, and one that fits. Assumes nothing.
use Prim.Native.Nat.{ℕ, ◌+◌, ◌-◌, ◌≤◌}
use native.Mathlib.Omega.{arith}
use mathlib.Core.Path.{◌≡◌, sym, ap, subst, ◌∙◌}
use mathlib.Core.List.{List, [], ◌++◌, append-nil, append_assoc}
use lib.ListN.{length, take, length-append}
use lib.Seq.{length-take-le, take-nil, take_all, take-append-le, take-append-add}
use Rattle.object.proofs.Choice.{by_order}
use Rattle.cells.specs.Laid.{Laid}

pub nothing_laid : (room : ℕ) (old : List ℕ) → Laid room old [] old
nothing_laid room old = record { is = sym (ap (λ (l : List ℕ). old ++ l) (take-nil (room - length old)) ∙ append-nil old) }

-- of two texts as much fits as of the one behind the other
two_fit : (room : ℕ) (a b : List ℕ) → take room a ++ take (room - length (take room a)) b ≡ take room (a ++ b)
two_fit room a b =
    by_order room (length a)
    (λ h.
    let none : room - length (take room a) ≡ 0 = omega (arith, length-take-le room a (omega arith)) in
    rw (none, append-nil) (sym (take-append-le room a b (omega arith))))
    (λ h.
    let all : room ≡ length a + (room - length a) = omega arith in
    rw (take_all room a h) (sym (ap (λ (k : ℕ). take k (a ++ b)) all ∙ take-append-add a b (room - length a))))

infixr 20 ◌&◌
-- and then
pub ◌&◌ : {room : ℕ} {old mid new a b : List ℕ} → Laid room old a mid → Laid room mid b new → Laid room old (a ++ b) new
◌&◌ {room} {old} {mid} {new} {a} {b} first second =
    let left : room - length mid ≡ room - length old - length (take (room - length old) a) =
    omega (arith, ap length first.is, length-append old (take (room - length old) a)) in
    record {
      is = second.is
          ∙ ap (λ (k : ℕ). mid ++ take k b) left
          ∙ ap (λ (l : List ℕ). l ++ take (room - length old - length (take (room - length old) a)) b) first.is
          ∙ append_assoc old (take (room - length old) a) _
          ∙ ap (λ (l : List ℕ). old ++ l) (two_fit (room - length old) a b);
    }

-- what was laid for a value was laid for an equal value
pub told : {A : Type 0} (words : A → List ℕ) {a b : A} {room : ℕ} {old new : List ℕ} → a ≡ b → Laid room old (words a) new → Laid room old (words b) new
told words {a} {b} {room} {old} {new} e l = subst (λ x. Laid room old (words x) new) e l

-- what fits in a text of its own is that text
pub front : {room : ℕ} {empty words new : List ℕ} → empty ≡ [] → Laid room empty words new → length words ≤ room → new ≡ words
front {room} {empty} {words} none l h =
    l.is
    ∙ ap (λ (l : List ℕ). l ++ take (room - length l) words) none
    ∙ take_all (room - 0) words (omega arith)
