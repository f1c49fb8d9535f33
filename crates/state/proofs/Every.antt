-- What `all` answers is `every`; and the rows of the threads from one on. Assumes nothing.
use Prim.Native.Nat.{ℕ, ◌+◌, ◌*◌, ◌<◌, ◌≤◌}
use native.Mathlib.Omega.{arith}
use mathlib.Core.Path.{◌≡◌, refl, sym, ◌∙◌}
use mathlib.Core.Bool.{Bool, true, false, ◌&&◌}
use mathlib.Core.List.{List}
use lib.ListN.{length, get_or, take, drop, length-drop}
use lib.Seq.{take-length}
use Rattle.std.specs.List.{list_all}
use Rattle.std.proofs.lemmas.List.{take_all}
use Rattle.std.proofs.lemmas.List.Recursion.{same_from_clauses}
use Rattle.object.specs.declared.Kind.{Kind}
use Rattle.object.specs.declared.Request.{Request}
use Rattle.object.specs.Each.{every}
use Rattle.object.specs.Apply.{knows}
use Rattle.machine.specs.declared.Thread.{Thread}
use Rattle.state.specs.Range.{row_of_thread, rows_in_range}
use Rattle.state.proofs.Walks.{Left, rows_walk, goes_on, fails}

pub all_is_every : {A : Type 0} (test : A → Bool) (l : List A) → list_all test l ≡ every test l
all_is_every test = same_from_clauses (list_all test) (every test) (λ x rest. test x && rest) refl (λ x l. refl) (λ x l. refl)

-- the rows of thread i and those after it, of which the whole hangs, and what is found of its own among the n places from its first on
module _ (kind : Kind) (requests : List Request) (threads : List Thread) {whole : Bool} (i n : ℕ) (d : Thread) (h : i < length threads)
    (left : rows_in_range kind requests i (drop i threads) ≡ whole) (room : length requests ≤ 16 * i + n) {b : Bool}
    (e : b ≡ every (knows kind) (take (get_or threads i d).count (take n (drop (16 * i) requests)))) where
  walk : Left (rows_walk kind requests) threads (length threads) whole i
  walk = record { same = rw take-length (sym left) }

  own : b ≡ every (knows kind) (row_of_thread requests i (get_or threads i d).count)
  own = e ∙ rw (take_all n (drop (16 * i) requests) (rw length-drop (omega arith)))

  pub row_fails : b ≡ false → false ≡ whole
  row_fails = fails walk d h h own

  pub rows_left : b ≡ true → rows_in_range kind requests (i + 1) (drop (i + 1) threads) ≡ whole
  rows_left t = let rest = sym (goes_on walk d h h own t).same in rw take-length at rest
