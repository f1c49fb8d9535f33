-- The rows of the threads that are left decide. Assumes nothing.
use Rattle.std.proofs.Common.{◌≡◌, drop}
use Rattle.state.specs.Range.{rows_in_range}
use Rattle.state.proofs.rows_in_range.Given as goal

abbrev pub invariant-loop-i : goal.invariant-loop-i
invariant-loop-i l = rows_in_range l.kind l.requests l.i (drop l.i l.threads) ≡ rows_in_range l.kind l.requests 0 l.threads
