-- The bits below n are cleared and one of them is set, so the sum has 16 bits. Assumes nothing.
use Rattle.std.proofs.Common.{arith}
use Rattle.copies.proofs.Shifts.{written_fits}
use Rattle.copies.proofs.after_write.Goals as goal

pub overflow_cast-result-then-t-n : goal.overflow_cast-result-then-t-n
overflow_cast-result-then-t-n c =
    omega (arith, written_fits c.args.n c.args.word c.args.thread.0 c.ranges.word.fits c.if-t-n.true c.if-n-le16.true)
