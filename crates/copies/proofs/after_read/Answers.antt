-- The bit that is added was not there, so the sum has 16 bits. Assumes nothing.
use Rattle.std.proofs.Common.{sym, ◌∙◌, arith}
use Rattle.copies.proofs.Shifts.{one_shifted}
use Rattle.copies.proofs.Valid.{added_fits}
use Rattle.copies.proofs.after_read.Goals as goal

pub overflow_add-result : goal.overflow_add-result
overflow_add-result c =
    let t = c.args.thread.0 in
    let none = sym c.has_copy.ensures ∙ c.if-has_copy.false in
    omega (arith, one_shifted t 16 c.if-t-lt16.true, added_fits c.args.word t c.ranges.word.fits c.if-t-lt16.true none)
