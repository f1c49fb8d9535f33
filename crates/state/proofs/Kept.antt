-- Tests over the first places of a list, before and after one place is set; and the rows of requests. Assumes nothing.
use Prim.Native.Nat.{ℕ, zero, suc, ◌+◌, ◌*◌, ◌≤◌, ◌<◌}
use native.Mathlib.Omega.{arith}
use native.Mathlib.Nat.{zero-add, add-zero}
use mathlib.Core.Path.{◌≡◌, refl, sym, ◌∙◌}
use mathlib.Core.Bool.{Bool, true, and-true, and-eq-true_iff}
use mathlib.Core.List.{List, [], ◌∷◌}
use lib.ListN.{length, get_or, take, drop, set, length-drop}
use lib.Seq.{length-take-le, take-set-lt, get_or-take, get_or-drop, set-get_or}
use Rattle.object.specs.declared.Kind.{Kind}
use Rattle.object.specs.declared.Request.{Request}
use Rattle.object.specs.Each.{every}
use Rattle.object.specs.Apply.{knows}
use Rattle.machine.specs.declared.Thread.{Thread}
use Rattle.state.specs.Range.{row_of_thread, rows_in_range}

module _ {A : Type 0} (p : A → Bool) where
  -- where all pass, they pass after a place is set exactly if the new one does
  every_set : (xs : List A) (k : ℕ) (y : A) → every p xs ≡ true → k < length xs → every p (set xs k y) ≡ p y
  every_set [] k y e h = absurd (omega arith)
  every_set (x ∷ xs) zero y e h = rw (simp and-eq-true_iff at e).1 (and-true (p y))
  every_set (x ∷ xs) (suc k) y e h =
      let both = simp and-eq-true_iff at e in
      rw both.0 (every_set xs k y both.1 (omega arith))

  -- the same over the first n places, and each of these passes
  module _ (n : ℕ) (xs : List A) (k : ℕ) (all : every p (take n xs) ≡ true) (below : k < n) (long : n ≤ length xs) where
    pub first_set : (y : A) → every p (take n (set xs k y)) ≡ p y
    first_set y = rw take-set-lt (every_set (take n xs) k y all (rw length-take-le below))

    pub first_at : (d : A) → p (get_or xs k d) ≡ true
    first_at d = sym (first_set (get_or xs k d)) ∙ rw set-get_or all

module _ (kind : Kind) (requests : List Request) where
  -- the rows hang on the threads' counts alone
  rows_set : (i : ℕ) (ths : List Thread) (k : ℕ) (th d : Thread) → th.count ≡ (get_or ths k d).count
      → rows_in_range kind requests i (set ths k th) ≡ rows_in_range kind requests i ths
  rows_set i [] k th d e = refl
  rows_set i (x ∷ ths) zero th d e = rw e
  rows_set i (x ∷ ths) (suc k) th d e = rw (rows_set (i + 1) ths k th d e)

  -- the row of each thread passes
  row_at : (i : ℕ) (ths : List Thread) (k : ℕ) (d : Thread) → rows_in_range kind requests i ths ≡ true → k < length ths
      → every (knows kind) (row_of_thread requests (i + k) (get_or ths k d).count) ≡ true
  row_at i [] k d e h = absurd (omega arith)
  row_at i (x ∷ ths) zero d e h = rw add-zero (simp and-eq-true_iff at e).0
  row_at i (x ∷ ths) (suc k) d e h =
      let next : i + suc k ≡ i + 1 + k = omega arith in
      rw next (row_at (i + 1) ths k d (simp and-eq-true_iff at e).1 (omega arith))

  module _ (n : ℕ) (ths : List Thread) (k : ℕ) (below : k < n) where
    pub rows_stay : (th d : Thread) → th.count ≡ (get_or ths k d).count
        → rows_in_range kind requests 0 (take n (set ths k th)) ≡ rows_in_range kind requests 0 (take n ths)
    rows_stay th d e = rw take-set-lt (rows_set 0 (take n ths) k th d (rw get_or-take e))

    -- each request that a thread's count covers is known
    pub known_at : rows_in_range kind requests 0 (take n ths) ≡ true → n ≤ length ths → (d : Thread) (i : ℕ) (none : Request)
        → i < (get_or ths k d).count → 16 * k + (get_or ths k d).count ≤ length requests
        → knows kind (get_or requests (16 * k + i) none) ≡ true
    known_at all long d i none h room =
        rw get_or-drop at
        (first_at (knows kind) (get_or ths k d).count (drop (16 * k) requests) i
        (rw (get_or-take, zero-add) at (row_at 0 (take n ths) k d all (rw length-take-le below))) h
        (rw length-drop (omega arith)) none)

-- a test that holds at each of the first n places holds of the first n
pub every_first : {A : Type 0} (p : A → Bool) (d : A) (n : ℕ) (l : List A) → ((i : ℕ) → i < n → p (get_or l i d) ≡ true) → every p (take n l) ≡ true
every_first p d zero l f = refl
every_first p d (suc n) [] f = refl
every_first p d (suc n) (x ∷ l) f = rw (f 0 (omega arith)) (every_first p d n l (λ i h. f (suc i) (omega arith)))

-- the rows of the first n threads pass if each does
pub rows_first : (kind : Kind) (requests : List Request) (d : Thread) (i n : ℕ) (ths : List Thread)
    → ((k : ℕ) → k < n → every (knows kind) (row_of_thread requests (i + k) (get_or ths k d).count) ≡ true)
    → rows_in_range kind requests i (take n ths) ≡ true
rows_first kind requests d i zero ths f = refl
rows_first kind requests d i (suc n) [] f = refl
rows_first kind requests d i (suc n) (th ∷ ths) f =
    let next : (k : ℕ) → i + suc k ≡ i + 1 + k = λ k. omega arith in
    rw (rw add-zero at (f 0 (omega arith)))
    (rows_first kind requests d (i + 1) n ths (λ k h. rw (← next k) (f (suc k) (omega arith))))
