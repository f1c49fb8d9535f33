-- The loop of `from_start` keeps `Looping` of Running.antt. Assumes nothing.
use Rattle.runner.proofs.Running.{Looping}
use Rattle.runner.proofs.from_start.Given as goal

abbrev pub invariant-loop-i : goal.invariant-loop-i
invariant-loop-i l =
    Looping l.schedule l.fn.start l.method l.rows l.spin_line l.n l.h l.kind l.capacity l.i l.state l.kept l.notes.order l.notes.given l.notes.turns
