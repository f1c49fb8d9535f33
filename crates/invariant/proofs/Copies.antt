-- A list of accesses: what a node costs a thread after it, and how many of it are remote. Assumes a thread below n, n at most 16 and full copies where a law says so.
use Prim.Native.Nat.{ℕ, ◌+◌, ◌≤◌, ◌<◌}
use native.Mathlib.Omega.{arith}
use mathlib.Core.Path.{◌≡◌, refl, sym, ◌∙◌, ap}
use mathlib.Core.Bool.{Bool, true, false, cond, ◌&&◌, ◌||◌}
use mathlib.Core.List.{List, [], ◌∷◌}
use lib.Dec.{eqb}
use lib.ListN.{length, length-set}
use borrow.Author.Tests.{eqb-false}
use Rattle.object.specs.Each.{Each}
use Rattle.machine.specs.Accesses.{Access, Location, same_location, located}
use Rattle.machine.proofs.Locations.{same_exactly}
use Rattle.machine.specs.Sizes.{most_locations}
use Rattle.copies.specs.Remote.{place, has_copy_of, remote_of, ends, copies_after, referred}
use Rattle.copies.proofs.Holding.{own_held, copy_after_lem}
use Rattle.copies.proofs.References.{access_most}
use Rattle.invariant.specs.Remote.{whole_of, fetch}

-- an access of node m, one of a place among the copies, and one that does not end the copies of node m
abbrev pub Of : ℕ → Access → Type 0
Of m a = located a ≡ whole_of m

abbrev pub Fits : Access → Type 0
Fits a = place (located a) < most_locations

abbrev pub Misses : ℕ → Access → Type 0
Misses m a = ends a ≡ true → Of m a → ⊥

-- what a test for a copy gives
abbrev price : Bool → ℕ
price b = cond b 0 1

pub fetch_most : (copies : List ℕ) (u m : ℕ) → fetch copies u m ≤ 1
fetch_most copies u m = access_most (has_copy_of copies u (whole_of m))

-- an access of node m costs what the node does
at_node : (copies : List ℕ) (u m : ℕ) (a : Access) → Of m a → remote_of copies u a ≡ fetch copies u m
at_node copies u m a e = ap (λ (l : Location). price (has_copy_of copies u l)) e

module _ (n t : ℕ) (k : t < n) (small : n ≤ 16) where
  -- after an access of node m the thread has it
  pub fetched : (copies : List ℕ) → length copies ≡ most_locations → (a : Access) → Fits a → (m : ℕ) → Of m a → fetch (copies_after n t a copies) t m ≡ 0
  fetched copies len a fits m e =
      sym (at_node (copies_after n t a copies) t m a e) ∙ ap price (own_held n t copies k small a (omega arith))

  -- after one access a node costs no more than before, but for a thread whose copy it ends
  kept_one : (copies : List ℕ) → length copies ≡ most_locations → (a : Access) → Fits a → (u m : ℕ) → u < n → ((u ≡ t → ⊥) → Misses m a)
      → fetch (copies_after n t a copies) u m ≤ fetch copies u m
  kept_one copies len a fits u m exists miss =
      rw (copy_after_lem n t copies k small a (omega arith) u exists (whole_of m)) (by_tests _ _ _ refl refl refl)
    where
      by_tests : (same mine ended : Bool) → same_location (located a) (whole_of m) ≡ same → eqb t u ≡ mine → ends a ≡ ended
          → price (cond (same && (mine || ended)) mine (has_copy_of copies u (whole_of m))) ≤ fetch copies u m
      by_tests false mine ended e f g = omega arith
      by_tests true true ended e f g = omega arith
      by_tests true false false e f g = omega arith
      by_tests true false true e f g = absurd (miss (λ q. eqb-false t u f (sym q)) g ((same_exactly (located a) (whole_of m)).0 e))

  -- nor after several
  pub kept : (accesses : List Access) (copies : List ℕ) → length copies ≡ most_locations → Each Fits accesses → (u m : ℕ) → u < n
      → ((u ≡ t → ⊥) → Each (Misses m) accesses) → fetch (referred n t copies accesses).copies u m ≤ fetch copies u m
  kept [] copies len fits u m exists miss = omega arith
  kept (a ∷ rest) copies len fits u m exists miss =
      omega (
        arith,
        kept rest (copies_after n t a copies) (length-set copies _ _ ∙ len) fits.1 u m exists (λ d. (miss d).1),
        kept_one copies len a fits.0 u m exists (λ d. (miss d).0),
      )

  -- accesses of one node cost what it does, once
  pub paid : (accesses : List Access) (copies : List ℕ) → length copies ≡ most_locations → Each Fits accesses → (m : ℕ) → Each (Of m) accesses
      → (referred n t copies accesses).remote + fetch (referred n t copies accesses).copies t m ≤ fetch copies t m
  paid [] copies len fits m of = omega arith
  paid (a ∷ rest) copies len fits m of =
      omega (
        arith,
        paid rest (copies_after n t a copies) (length-set copies _ _ ∙ len) fits.1 m of.1,
        fetched copies len a fits.0 m of.0,
        at_node copies t m a of.0,
      )
