-- at byte `at` row i begins, and the rows before it are laid
use Rattle.loader.proofs.Walk.{Walk}
use Rattle.loader.proofs.machine_of.Given as goal

abbrev pub invariant-loop-i : goal.invariant-loop-i
invariant-loop-i l = Walk l.file l.head l.i l.at l.counts l.requests
