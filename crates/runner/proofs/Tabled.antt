-- A list of values by their places: its length, and what stands at each. Assumes nothing.
use Prim.Native.Nat.{ℕ, zero, suc, ◌+◌, ◌<◌}
use native.Mathlib.Omega.{arith}
use mathlib.Core.Path.{◌≡◌, refl, ap, ◌∙◌}
use mathlib.Core.List.{List}
use lib.ListN.{length, get_or}
use lib.Seq.{ext_get_or}
use Rattle.runner.specs.Played.{tabled}

module _ {A : Type 0} (value : ℕ → A) where
  length_tabled : (from k : ℕ) → length (tabled value from k) ≡ k
  unfolding tabled
  length_tabled from zero = refl
  length_tabled from (suc k) = ap suc (length_tabled (from + 1) k)

  tabled_from : (from k i : ℕ) (a : A) → i < k → get_or (tabled value from k) i a ≡ value (from + i)
  unfolding tabled
  tabled_from from zero i a h = absurd (omega arith)
  tabled_from from (suc k) zero a h = ap value (omega arith)
  tabled_from from (suc k) (suc i) a h = tabled_from (from + 1) k i a (omega arith) ∙ ap value (omega arith)

  pub tabled_at : (k i : ℕ) (a : A) → i < k → get_or (tabled value 0 k) i a ≡ value i
  tabled_at k i a h = tabled_from 0 k i a h ∙ ap value (omega arith)

  -- a list with those values is the table
  pub is_tabled : (l : List A) (k : ℕ) (a : A) → length l ≡ k → ((i : ℕ) → i < k → get_or l i a ≡ value i) → l ≡ tabled value 0 k
  is_tabled l k a long each =
      ext_get_or a l (tabled value 0 k) (rw (length_tabled 0 k) long) (λ i h. rw (tabled_at k i a (omega (arith, long))) (each i (omega (arith, long))))
