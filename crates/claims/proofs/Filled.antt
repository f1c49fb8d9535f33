-- Laws of a list that is filled up, `filled` of specs/Entries.antt: its length, what stands at each place, and values stored at its free places. Assumes nothing.
use Prim.Native.Nat.{ℕ, zero, suc, ◌+◌, ◌-◌, ◌≤◌, ◌<◌}
use native.Mathlib.Nat.{sub-zero, zero-sub}
use native.Mathlib.Omega.{arith}
use mathlib.Core.Path.{◌≡◌, refl, ◌∙◌}
use mathlib.Core.List.{List, [], ◌∷◌, ◌++◌, append_assoc}
use lib.ListN.{length, get_or, drop, set, replicate, length-append, length-replicate, replicate-append-replicate}
use lib.Seq.{sets, sets-eq, take-append_seam, drop-append-add}
use Rattle.claims.specs.Entries.{filled}

module _ {A : Type 0} (a : A) where
  pub length_filled : (k : ℕ) (l : List A) → length l ≤ k → length (filled k a l) ≡ k
  length_filled k l h = rw (length-append, length-replicate) (omega arith)

  -- past the end too, where it is the default
  pub padded : (m i : ℕ) → get_or (replicate m a) i a ≡ a
  padded zero i = refl
  padded (suc m) zero = refl
  padded (suc m) (suc i) = padded m i

  pub filled_at : (m : ℕ) (l : List A) (i : ℕ) → get_or (l ++ replicate m a) i a ≡ get_or l i a
  filled_at m [] i = padded m i
  filled_at m (x ∷ l) zero = refl
  filled_at m (x ∷ l) (suc i) = filled_at m l i

  drop_replicate : (m k : ℕ) → drop m (replicate k a) ≡ replicate (k - m) a
  drop_replicate zero k = rw sub-zero
  drop_replicate (suc m) zero = rw zero-sub
  drop_replicate (suc m) (suc k) = let e : suc k - suc m ≡ k - m = omega arith in rw e (drop_replicate m k)

  -- stored behind the list, the values stand behind the list, with m more places
  pub sets_filled : (k i : ℕ) (l vs : List A) (m : ℕ) → length l ≡ i → i + (length vs + m) ≤ k
      → sets (filled k a l) i vs ≡ filled k a (l ++ (vs ++ replicate m a))
  sets_filled k i l vs m z h =
      let e : m + (k - length (l ++ (vs ++ replicate m a))) ≡ k - length l - length vs = simp (length-append, length-replicate) (omega arith) in
      rw (← z)
      (sets-eq vs (filled k a l) (length l) (simp (length-append, length-replicate) (omega arith))
      ∙ rw (take-append_seam, drop-append-add, drop_replicate, ← e, ← replicate-append-replicate) (simp append_assoc))

  -- one value at the first free place
  pub set_filled : (k i : ℕ) (l : List A) (x : A) → length l ≡ i → i < k → set (filled k a l) i x ≡ filled k a (l ++ x ∷ [])
  set_filled k i l x z h = sets_filled k i l (x ∷ []) 0 z (omega arith)
