-- Valid copies of all locations after one access. Assumes nothing.
use Prim.Native.Nat.{ℕ, ◌<◌, ◌≤◌}
use native.Mathlib.Nat.{add-zero}
use native.Mathlib.Omega.{arith}
use mathlib.Core.Path.{◌≡◌, refl, sym, ap, ◌∙◌}
use mathlib.Core.Bool.{Bool, true, false, cond, ◌&&◌, ◌||◌, false≢true}
use mathlib.Core.List.{List, [], ◌∷◌}
use lib.ListN.{get_or, length}
use lib.Dec.{eqb}
use lib.Seq.{get_or-set_same, get_or-set_other}
use borrow.Author.Tests.{eqb-true, eqb-false}
use Rattle.machine.specs.declared.Field.{Field}
use Rattle.machine.specs.declared.NodeId.{NodeId}
use Rattle.machine.specs.Accesses.{Access, read, write, swap, cas, Location, tail, whole, same_location, located}
use Rattle.machine.proofs.Locations.{same_exactly}
use Rattle.copies.specs.Copies.{has_copy}
use Rattle.copies.specs.Remote.{place, has_copy_of, remote_of, ends, word_after, copies_after, referred}
use Rattle.copies.proofs.Valid.{read_holds, read_keeps, write_holds, write_ends}

-- two locations at one place are one
pub place_injective : (l l' : Location) → place l ≡ place l' → l ≡ l'
place_injective tail tail e = refl
place_injective tail (whole m) e = absurd (omega arith)
place_injective (whole m) tail e = absurd (omega arith)
place_injective (whole m) (whole m') e = ap (λ (k : ℕ). whole (record { 0 = k })) (omega arith)

-- the accesses that end the other threads' copies, in document 01's words: a write or Swap; a CAS, which CC-Synch has none of, counts with them
abbrev pub Ends : Access → Type 0
Ends (read node field) = ⊥
Ends (write node field) = Unit
Ends swap = Unit
Ends cas = Unit

-- `ends` is true of no other
ends_told : (a : Access) → ends a ≡ true → Ends a
ends_told (read node field) e = false≢true e
ends_told (write node field) e = tt
ends_told swap e = tt
ends_told cas e = tt

-- an access whose location has a place among the copies
abbrev pub Inside : List ℕ → Access → Type 0
Inside copies a = place (located a) < length copies

module _ (n t : ℕ) (copies : List ℕ) where
  -- the copies of another location are as they were
  pub elsewhere_kept : (a : Access) (u : ℕ) (l : Location) → (l ≡ located a → ⊥) → has_copy_of (copies_after n t a copies) u l ≡ has_copy_of copies u l
  elsewhere_kept a u l d =
      ap (λ (w : ℕ). has_copy w u) (get_or-set_other copies (place (located a)) (place l) _ 0 (λ e. d (place_injective l (located a) e)))

  here : (a : Access) (u : ℕ) → Inside copies a
      → has_copy_of (copies_after n t a copies) u (located a) ≡ has_copy (word_after n t a (get_or copies (place (located a)) 0)) u
  here a u h = ap (λ (w : ℕ). has_copy w u) (get_or-set_same copies (place (located a)) _ 0 h)

  -- a read keeps the other threads' copies of its location
  pub read_kept : (m : NodeId) (f : Field) → let l = located (read m f) in (u : ℕ) → Inside copies (read m f) → (u ≡ t → ⊥)
      → has_copy_of (copies_after n t (read m f) copies) u l ≡ has_copy_of copies u l
  read_kept m f u h d = here (read m f) u h ∙ read_keeps _ t u d

  module _ (k : t < n) (m : n ≤ 16) where
    -- the thread has a copy of the location of its access
    pub own_held : (a : Access) → Inside copies a → has_copy_of (copies_after n t a copies) t (located a) ≡ true
    own_held (read node f) h = here (read node f) t h ∙ read_holds _ t (omega arith)
    own_held (write node f) h = here (write node f) t h ∙ write_holds n _ t k m
    own_held swap h = here swap t h ∙ write_holds n _ t k m
    own_held cas h = here cas t h ∙ write_holds n _ t k m

    -- two accesses of one location are remote once, if the thread has no copy, and else not: the second finds the copy that the first made
    pub second_held : (a b : Access) → Inside copies a → located b ≡ located a
        → (referred n t copies (a ∷ b ∷ [])).remote ≡ cond (has_copy_of copies t (located a)) 0 1
    second_held a b h e = rw (e, own_held a h) (add-zero (remote_of copies t a))

    -- a write or Swap ends the copy of each other thread of the n
    pub others_ended : (a : Access) → Ends a → (u : ℕ) → Inside copies a → u < n → (u ≡ t → ⊥) → has_copy_of (copies_after n t a copies) u (located a) ≡ false
    others_ended (read node f) r u h b d = absurd r
    others_ended (write node f) r u h b d = here (write node f) u h ∙ write_ends n _ t k m u b d
    others_ended swap r u h b d = here swap u h ∙ write_ends n _ t k m u b d
    others_ended cas r u h b d = here cas u h ∙ write_ends n _ t k m u b d

    -- what thread u of the n has of a location after thread t's access: of the access's own, t has a copy, and no other has one that the access ends; of any
    -- other it has what it had
    module _ (a : Access) (inside : Inside copies a) (u : ℕ) (exists : u < n) where
      other : eqb t u ≡ false → u ≡ t → ⊥
      other e q = eqb-false t u e (sym q)

      by_thread : (mine ended : Bool) → eqb t u ≡ mine → ends a ≡ ended
          → has_copy_of (copies_after n t a copies) u (located a) ≡ cond (mine || ended) mine (has_copy_of copies u (located a))
      by_thread true ended e f = rw (sym (eqb-true t u e)) (own_held a inside)
      by_thread false true e f = others_ended a (ends_told a f) u inside exists (other e)
      by_thread false false e f = left a inside f
        where
          left : (a : Access) → Inside copies a → ends a ≡ false → has_copy_of (copies_after n t a copies) u (located a) ≡ has_copy_of copies u (located a)
          left (read node f) inside f' = read_kept node f u inside (other e)
          left (write node f) inside f' = absurd (false≢true (sym f'))
          left swap inside f' = absurd (false≢true (sym f'))
          left cas inside f' = absurd (false≢true (sym f'))

      by_location : (l : Location) (same : Bool) → same_location (located a) l ≡ same
          → has_copy_of (copies_after n t a copies) u l ≡ cond (same && (eqb t u || ends a)) (eqb t u) (has_copy_of copies u l)
      by_location l true e = rw (sym ((same_exactly (located a) l).0 e)) (by_thread _ _ refl refl)
      by_location l false e = elsewhere_kept a u l (λ q. false≢true (sym e ∙ (same_exactly (located a) l).1 (sym q)))

      pub copy_after_lem : (l : Location)
          → has_copy_of (copies_after n t a copies) u l ≡ cond (same_location (located a) l && (eqb t u || ends a)) (eqb t u) (has_copy_of copies u l)
      copy_after_lem l = by_location l _ refl
