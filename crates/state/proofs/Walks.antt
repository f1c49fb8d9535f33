-- A loop that tests the first places of a list, one a pass, keeps what is left to test: laws for a pass, a test that fails and the loop's end.
-- Assumes nothing.
use Prim.Native.Nat.{ℕ, ◌+◌, ◌≤◌, ◌<◌}
use native.Mathlib.Numerals.{add-one}
use native.Mathlib.Decide.{dec_le}
use native.Mathlib.Omega.{arith}
use mathlib.Core.Path.{◌≡◌, refl, sym, ap, ◌∙◌}
use mathlib.Core.Bool.{Bool, true, false, ◌&&◌, and-eq-true_iff}
use mathlib.Core.List.{List, [], ◌∷◌}
use lib.ListN.{length, get_or, take, drop, length-take, drop_of_length-le}
use lib.Seq.{drop-cons, get_or-take, take-add, drop_at, length-take-le}
use lib.Dec.{ltb}
use borrow.Author.Tests.{lt-ltb, ltb-true, ltb-false}
use Rattle.object.specs.declared.Kind.{Kind}
use Rattle.object.specs.declared.Request.{Request}
use Rattle.object.specs.Each.{every}
use Rattle.object.specs.Apply.{knows}
use Rattle.machine.specs.declared.Thread.{Thread}
use Rattle.state.specs.Range.{row_of_thread, rows_in_range}

-- a test of a list's elements, each with its place; `from` is the whole test of a list whose first element has the given place
pub record Walk (A : Type 0) : Type 0 where
  pub test : ℕ → A → Bool
  pub from : ℕ → List A → Bool
  pub none : (i : ℕ) → from i [] ≡ true
  pub more : (i : ℕ) (x : A) (xs : List A) → from i (x ∷ xs) ≡ test i x && from (i + 1) xs

abbrev pub every_walk : {A : Type 0} → (A → Bool) → Walk A
every_walk p = record { test = λ i. p; from = λ i. every p; none = λ i. refl; more = λ i x xs. refl }

abbrev pub rows_walk : Kind → List Request → Walk Thread
rows_walk kind requests = record {
  test = λ i th. every (knows kind) (row_of_thread requests i th.count);
  from = rows_in_range kind requests;
  none = λ i. refl;
  more = λ i th ths. refl;
}

-- the test of the first n places of a list, from place i on
abbrev pub rest : {A : Type 0} → Walk A → List A → ℕ → ℕ → Bool
rest w l n i = w.from i (drop i (take n l))

-- what such a loop keeps at place i: what is left decides the whole
pub record Left {A : Type 0} (w : Walk A) (l : List A) (n : ℕ) (whole : Bool) (i : ℕ) : Type 0 where
  pub same : whole ≡ rest w l n i

module _ {A : Type 0} {w : Walk A} {l : List A} {n : ℕ} {whole : Bool} {i : ℕ} (left : Left w l n whole i) where
  module _ {b : Bool} (d : A) (h : i < n) (k : i < length l) (e : b ≡ w.test i (get_or l i d)) where
    next : whole ≡ b && rest w l n (i + 1)
    next =
        let inside : i < length (take n l) = rw length-take (omega arith) in
        let step : drop i (take n l) ≡ get_or l i d ∷ drop (i + 1) (take n l) = rw (← get_or-take n l i d h, add-one) (drop-cons (take n l) i d inside) in
        left.same ∙ ap (w.from i) step ∙ w.more i _ _ ∙ rw e

    pub goes_on : b ≡ true → Left w l n whole (i + 1)
    goes_on t = record { same = next ∙ rw t }

    pub fails : b ≡ false → false ≡ whole
    fails t = sym (next ∙ rw t)

  ends : length (take n l) ≤ i → true ≡ whole
  ends h = sym (left.same ∙ ap (w.from i) (drop_of_length-le (take n l) h) ∙ w.none i)

  pub ends_full : n ≤ i → true ≡ whole
  ends_full h = ends (rw length-take (omega arith))

  pub ends_either : (m : ℕ) → length l ≤ m → ltb i n && ltb i m ≡ false → true ≡ whole
  ends_either m k t = elim (dec_le n i) [
    | yes h ↦ ends_full h
    | no h ↦
        let e : ltb i n ≡ true = lt-ltb i n (omega (arith, h)) in
        let g : m ≤ i = ltb-false i m (rw e at t) in
        ends (rw length-take (omega arith))
  ]

-- a loop's test of two bounds
pub below_both : (i n m : ℕ) → ltb i n && ltb i m ≡ true → (i < n) × (i < m)
below_both i n m t = let (h, k) = (and-eq-true_iff (ltb i n) (ltb i m)).0 t in (ltb-true i n h, ltb-true i m k)

-- so many places from place a on, either way
pub drop_take : {A : Type 0} (l : List A) (a c : ℕ) → a ≤ length l → drop a (take (a + c) l) ≡ take c (drop a l)
drop_take l a c h = rw take-add (drop_at (take a l) (take c (drop a l)) a (length-take-le a l h))
