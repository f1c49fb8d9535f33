-- The rows of the lines so far stand in their places.
use Rattle.std.proofs.Common.{◌≡◌, ℕ, ◌<◌, length, get_or}
use Rattle.methods.specs.Methods.{row_by}
use Rattle.methods.proofs.all_rows.Given as goal

abbrev pub invariant-loop-line : goal.invariant-loop-line
invariant-loop-line l = (length l.rows ≡ 29) × ((k : ℕ) → k < l.line → get_or l.rows k (row_by l.method 0) ≡ row_by l.method k)
