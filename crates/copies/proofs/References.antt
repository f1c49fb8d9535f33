-- Remote references of two lists of accesses in turn, and a row's accesses in turn. Assumes nothing.
use Prim.Native.Nat.{ℕ, ◌+◌, ◌≤◌}
use native.Mathlib.Nat.{zero-add, add_assoc}
use native.Mathlib.Omega.{arith}
use mathlib.Core.Path.{◌≡◌, refl, sym, ap, ap₂, ◌∙◌}
use mathlib.Core.Bool.{Bool, true, false, cond, not, ◌&&◌, false≢true}
use mathlib.Core.List.{List, [], ◌∷◌, ◌++◌}
use Rattle.machine.specs.declared.Method.{Method}
use Rattle.machine.specs.declared.Method.TheVariants.{DsmSynch}
use Rattle.machine.specs.declared.NodeId.{NodeId}
use Rattle.machine.specs.declared.Row.{Row}
use Rattle.machine.specs.declared.SharedAccess.{SharedAccess}
use Rattle.machine.specs.declared.SharedAccess.TheVariants.{NoAccess, Read, Write, Swap, Cas, ReadBehind, WriteBehind}
use Rattle.machine.specs.Fields.{is_null}
use Rattle.machine.specs.Accesses.{Access, is_none, access_to, accesses_of}
use Rattle.copies.specs.Remote.{remote_by, left_copies, referred_by}
use Rattle.copies.specs.Places.{only_first}

-- an access is one remote reference at most
pub access_most : (b : Bool) → cond b 0 1 ≤ 1
access_most true = omega arith
access_most false = omega arith

-- an access that is none
none_made : (node behind : NodeId) (a : SharedAccess) → is_none a ≡ true → access_to node behind a ≡ []
none_made node behind NoAccess e = refl
none_made node behind (Read field) e = absurd (false≢true e)
none_made node behind (Write field) e = absurd (false≢true e)
none_made node behind Swap e = absurd (false≢true e)
none_made node behind Cas e = absurd (false≢true e)
none_made node behind (ReadBehind field) e = absurd (false≢true e)
none_made node behind (WriteBehind field) e = absurd (false≢true e)

module _ (m : Method) (n t : ℕ) where
  -- r and l' are the remote references of a list of accesses, and the copies after it
  abbrev pub Made : List ℕ → List Access → ℕ → List ℕ → Type 0
  Made l xs r l' = (r ≡ (referred_by m n t l xs).remote) × (l' ≡ (referred_by m n t l xs).copies)

  -- two lists of accesses in turn
  remote_append : (l : List ℕ) (xs ys : List Access)
      → (referred_by m n t l (xs ++ ys)).remote ≡ (referred_by m n t l xs).remote + (referred_by m n t (referred_by m n t l xs).copies ys).remote
  remote_append l [] ys = sym (zero-add (referred_by m n t l ys).remote)
  remote_append l (x ∷ xs) ys = ap (λ (k : ℕ). remote_by m l t x + k) (remote_append (left_copies m n t x l) xs ys) ∙ sym (add_assoc _ _ _)

  copies_append : (l : List ℕ) (xs ys : List Access) → (referred_by m n t l (xs ++ ys)).copies ≡ (referred_by m n t (referred_by m n t l xs).copies ys).copies
  copies_append l [] ys = refl
  copies_append l (x ∷ xs) ys = copies_append (left_copies m n t x l) xs ys

  pub two_referred : {r r' : ℕ} {l' l'' : List ℕ} (l : List ℕ) (xs ys : List Access) → Made l xs r l' → Made l' ys r' l'' → Made l (xs ++ ys) (r + r') l''
  two_referred l xs ys p q = (
    ap₂ ◌+◌ p.0 (q.0 ∙ ap (λ (k : List ℕ). (referred_by m n t k ys).remote) p.1) ∙ sym (remote_append l xs ys),
    q.1 ∙ ap (λ (k : List ℕ). (referred_by m n t k ys).copies) p.1 ∙ sym (copies_append l xs ys),
  )

-- where the accesses after the first are left out
left_out : (no_third no_second null : Bool) (rest : List Access) → (no_third ≡ true → no_second ≡ true → rest ≡ [])
    → cond (not no_third && null) [] rest ≡ cond (cond no_third no_second null) [] rest
left_out true true null rest none = none refl refl
left_out true false null rest none = refl
left_out false no_second null rest none = refl

-- a row's accesses: the first alone where the line stops there, else all three in turn
module _ (row : Row) (node behind : NodeId) where
  abbrev to : SharedAccess → List Access
  to = access_to node behind

  rest_made : accesses_of row node behind ≡ to row.first ++ cond (only_first row.second row.third behind) [] (to row.second ++ to row.third)
  rest_made =
      ap (λ (rest : List Access). to row.first ++ rest)
      (left_out (is_none row.third) (is_none row.second) (is_null behind) (to row.second ++ to row.third)
      (λ third second. ap₂ ◌++◌ (none_made node behind row.second second) (none_made node behind row.third third)))

  pub all_made : only_first row.second row.third behind ≡ false → accesses_of row node behind ≡ to row.first ++ (to row.second ++ to row.third)
  all_made e = rest_made ∙ rw e

-- DSM-Synch leaves the copies as they are
pub copies_stay : (n t : ℕ) (l : List ℕ) (xs : List Access) → (referred_by DsmSynch n t l xs).copies ≡ l
copies_stay n t l [] = refl
copies_stay n t l (x ∷ xs) = copies_stay n t l xs
