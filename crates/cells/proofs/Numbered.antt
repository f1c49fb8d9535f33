-- Laws of texts one behind the other, `numbered`: one more, two lists in turn; and of a loop that lays them, one a pass. Assumes nothing.
use Prim.Native.Nat.{ℕ, suc, ◌+◌, ◌*◌, ◌≤◌, ◌<◌}
use native.Mathlib.Nat.{zero-add, add-zero, mul-suc}
use native.Mathlib.Numerals.{add-one}
use native.Mathlib.Omega.{arith}
use mathlib.Core.Path.{◌≡◌}
use mathlib.Core.List.{List, [], ◌∷◌, ◌++◌, append-nil, append_assoc}
use lib.ListN.{length, get_or, take, length-append}
use lib.Seq.{length-take-le, take-suc, take_all}
use Rattle.cells.specs.Text.{numbered}
use Rattle.cells.specs.Laid.{Laid}
use Rattle.cells.proofs.Laid.{nothing_laid, ◌&◌, told}

module _ {A : Type 0} (shown : ℕ → A → List ℕ) where
  pub numbered_append : (i : ℕ) (s t : List A) → numbered shown i (s ++ t) ≡ numbered shown i s ++ numbered shown (i + length s) t
  unfolding numbered
  numbered_append i [] t = rw add-zero
  numbered_append i (a ∷ s) t =
      let e : suc i + length s ≡ i + suc (length s) = omega arith in
      rw (numbered_append (suc i) s t, e, append_assoc)

  pub numbered_one : (i : ℕ) (a : A) → numbered shown i (a ∷ []) ≡ shown i a
  unfolding numbered
  numbered_one i a = append-nil (shown i a)

  pub numbered_most : (most : ℕ) → ((i : ℕ) (a : A) → length (shown i a) ≤ most) → (i : ℕ) (l : List A) → length (numbered shown i l) ≤ most * length l
  unfolding numbered
  numbered_most most each i [] = omega arith
  numbered_most most each i (a ∷ l) = rw (length-append, mul-suc) (omega (arith, each i a, numbered_most most each (suc i) l))

  module _ (l : List A) (d : A) where
    one_more : (i : ℕ) → i < length l → numbered shown 0 (take i l) ++ shown i (get_or l i d) ≡ numbered shown 0 (take (i + 1) l)
    one_more i b =
        rw (add-one, take-suc l i d b, numbered_append 0 (take i l) (get_or l i d ∷ []), length-take-le i l (omega arith), zero-add, numbered_one)

    -- a loop that lays them: none, one more, all
    pub lays_none : (room : ℕ) (old : List ℕ) → Laid room old (numbered shown 0 (take 0 l)) old
    unfolding numbered
    lays_none room old = nothing_laid room old

    pub lays_more : {room : ℕ} {old mid new : List ℕ} (i : ℕ) → i < length l
        → Laid room old (numbered shown 0 (take i l)) mid → Laid room mid (shown i (get_or l i d)) new → Laid room old (numbered shown 0 (take (i + 1) l)) new
    lays_more i b before one = told (λ words. words) (one_more i b) (before & one)

    pub lays_all : {room : ℕ} {old new : List ℕ} (i : ℕ) → length l ≤ i → Laid room old (numbered shown 0 (take i l)) new → Laid room old (numbered shown 0 l) new
    lays_all i b l' = told (numbered shown 0) (take_all i l b) l'
