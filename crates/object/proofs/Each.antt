-- Laws of `Each` of specs/Each.antt: over two lists in turn, over a part of a list, at each place, from one property to another, and of what is mapped;
-- and of `every`, the test of it. Assumes nothing.
use Rattle.std.proofs.Common.{◌≡◌, ℕ, zero, suc, ◌<◌, Bool, true, List, [], ◌∷◌, ◌++◌, map, length, get_or, take, drop, refl, ap, ap₂, arith, take-append-drop}
use mathlib.Core.Bool.{and-eq-true_iff}
use Rattle.object.specs.Each.{Each, every}

module _ {A : Type 0} (P : A → Type 0) where
  pub each_append : (s t : List A) → Each P s → Each P t → Each P (s ++ t)
  each_append [] t p q = q
  each_append (a ∷ s) t p q = (p.0, each_append s t p.1 q)

  pub each_left : (s t : List A) → Each P (s ++ t) → Each P s
  each_left [] t p = tt
  each_left (a ∷ s) t p = (p.0, each_left s t p.1)

  pub each_right : (s t : List A) → Each P (s ++ t) → Each P t
  each_right [] t p = p
  each_right (a ∷ s) t p = each_right s t p.1

  pub each_take : (k : ℕ) (l : List A) → Each P l → Each P (take k l)
  each_take k l p = each_left (take k l) (drop k l) (rw take-append-drop p)

  pub each_drop : (k : ℕ) (l : List A) → Each P l → Each P (drop k l)
  each_drop k l p = each_right (take k l) (drop k l) (rw take-append-drop p)

-- what holds at each place of a list holds of each element
pub each_there : {A : Type 0} (P : A → Type 0) (d : A) (l : List A) → ((i : ℕ) → i < length l → P (get_or l i d)) → Each P l
each_there P d [] h = tt
each_there P d (a ∷ l) h = (h 0 (omega arith), each_there P d l (λ i b. h (suc i) (omega arith)))

-- and the other way round
pub each_get_or : {A : Type 0} (P : A → Type 0) (l : List A) (i : ℕ) (d : A) → Each P l → i < length l → P (get_or l i d)
each_get_or P [] i d e h = absurd (omega arith)
each_get_or P (x ∷ l) zero d e h = e.0
each_get_or P (x ∷ l) (suc i) d e h = each_get_or P l i d e.1 (omega arith)

-- past the end it is the default, which has it too
pub each_get_or_default : {A : Type 0} (P : A → Type 0) (l : List A) (i : ℕ) (d : A) → Each P l → P d → P (get_or l i d)
each_get_or_default P [] i d e h = h
each_get_or_default P (x ∷ l) zero d e h = e.0
each_get_or_default P (x ∷ l) (suc i) d e h = each_get_or_default P l i d e.1 h

pub each_map : {A : Type 0} {P Q : A → Type 0} → ((a : A) → P a → Q a) → (l : List A) → Each P l → Each Q l
each_map f [] p = tt
each_map f (a ∷ l) p = (f a p.0, each_map f l p.1)

-- what holds of all holds of each
pub each_all : {A : Type 0} {P : A → Type 0} → ((a : A) → P a) → (l : List A) → Each P l
each_all f [] = tt
each_all f (a ∷ l) = (f a, each_all f l)

-- what is mapped
module _ {A B : Type 0} (P : B → Type 0) (of : A → B) where
  pub each_mapped : (l : List A) → Each (λ a. P (of a)) l → Each P (map of l)
  each_mapped [] p = tt
  each_mapped (a ∷ l) p = (p.0, each_mapped l p.1)

  pub each_unmapped : (l : List A) → Each P (map of l) → Each (λ a. P (of a)) l
  each_unmapped [] p = tt
  each_unmapped (a ∷ l) p = (p.0, each_unmapped l p.1)

-- two functions that agree on each element give one list
pub map_each : {A B : Type 0} (g h : A → B) (l : List A) → Each (λ a. g a ≡ h a) l → map g l ≡ map h l
map_each g h [] e = refl
map_each g h (a ∷ l) e = ap₂ ◌∷◌ e.0 (map_each g h l e.1)

-- and where the results are the same, each gives the same by both
pub each_same : {A B : Type 0} (g h : A → B) (l : List A) → map g l ≡ map h l → Each (λ a. g a ≡ h a) l
each_same g h [] e = tt
each_same g h (a ∷ l) e = (ap (λ (s : List _). get_or s 0 (g a)) e, each_same g h l (ap (drop 1) e))

-- a test that each passes, said either way
module _ {A : Type 0} (test : A → Bool) where
  pub every_each : (l : List A) → every test l ≡ true → Each (λ a. test a ≡ true) l
  every_each [] e = tt
  every_each (a ∷ l) e = let p = (and-eq-true_iff (test a) (every test l)).0 e in (p.0, every_each l p.1)

  pub each_every : (l : List A) → Each (λ a. test a ≡ true) l → every test l ≡ true
  each_every [] p = refl
  each_every (a ∷ l) p = rw (p.0, each_every l p.1)

-- two tests that agree
pub every_same : {A : Type 0} (f g : A → Bool) (l : List A) → ((a : A) → f a ≡ g a) → every f l ≡ every g l
every_same f g [] e = refl
every_same f g (a ∷ l) e = rw (e a, every_same f g l e)
