-- A row that is not in range decides, and the others leave those after them. Assumes nothing.
use Rattle.std.proofs.Common.{arith}
use Rattle.state.proofs.Every.{row_fails, rows_left}
use Rattle.state.proofs.rows_in_range.Goals as goal

pub returns-then-not-row_in_range : goal.returns-then-not-row_in_range
returns-then-not-row_in_range c =
    row_fails _ _ _ c.loop-i.i _ _ c.loop-i-test.true c.loop-i.invariant (omega (arith, c.told-requests)) c.row_in_range.ensures c.if-not-row_in_range.true

pub loop-i-preserved : goal.loop-i-preserved
loop-i-preserved c =
    rows_left _ _ _ c.loop-i.i _ _ c.loop-i-test.true c.loop-i.invariant (omega (arith, c.told-requests)) c.row_in_range.ensures c.if-not-row_in_range.false
