-- Laws of a row of counts, `total`: that it is std's sum, what a loop that walks the row has left of it, and how large it is. Assumes nothing.
use Prim.Native.Nat.{ℕ, ◌+◌, ◌*◌, ◌≤◌, ◌<◌}
use native.Mathlib.Nat.{mul-suc}
use native.Mathlib.Omega.{arith}
use mathlib.Core.Path.{◌≡◌, refl, ap, ◌∙◌}
use mathlib.Core.List.{List, [], ◌∷◌}
use lib.ListN.{length, get_or, drop}
use Rattle.std.specs.Prelude.{sum}
use Rattle.std.proofs.lemmas.List.Sums.{sum_by-cons}
use Rattle.object.specs.Each.{Each, sum_of}
use Rattle.bench_writer.specs.Writer.{total}
use Rattle.bench_file.proofs.Reading.{cons_at}

pub total_sum : (row : List ℕ) → sum row ≡ total row
unfolding sum_of
total_sum [] = refl
total_sum (count ∷ row) = sum_by-cons (λ x. x) count row ∙ ap (λ (rest : ℕ). count + rest) (total_sum row)

pub total_more : (row : List ℕ) (i : ℕ) → i < length row → total (drop i row) ≡ get_or row i 0 + total (drop (i + 1) row)
unfolding sum_of
total_more row i h = rw cons_at

pub total_bound : (most : ℕ) (row : List ℕ) → Each (λ count. count ≤ most) row → total row ≤ most * length row
unfolding sum_of
total_bound most [] p = omega arith
total_bound most (count ∷ row) p = rw mul-suc (omega (arith, p.0, total_bound most row p.1))
