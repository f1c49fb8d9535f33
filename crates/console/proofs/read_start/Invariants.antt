-- So many bytes have been read, and no more than the buffer holds. Assumes nothing.
use Rattle.std.proofs.Common.{◌≤◌, length}
use Rattle.console.proofs.read_start.Given as goal

abbrev pub invariant-loop : goal.invariant-loop
invariant-loop g l = l.read ≤ length l.start
