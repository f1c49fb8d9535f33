-- A pass lays one row more, and after the last all rows are laid. Assumes nothing.
use Rattle.std.proofs.Common.{arith}
use Rattle.bench_writer.proofs.Laying.{inside, room, passes, ends}
use Rattle.bench_writer.proofs.put_rows.Goals as goal

pub split_at-requires : goal.split_at-requires
split_at-requires c = omega (arith, c.from.ensures, inside _ _ _ _ c.loop-count.invariant c.requires.1 c.loop-count-test.true)

pub put_row-requires : goal.put_row-requires
put_row-requires c =
    let l = c.loop-count.invariant in
    omega (arith, c.from.ensures, c.split_at.ensures.front_len, room _ _ _ _ l c.requires.1 c.loop-count-test.true, l.size)

pub loop-count-preserved : goal.loop-count-preserved
loop-count-preserved c =
    let s = c.split_at.ensures in
    rw (s.back, s.front_len, c.from.ensures)
    (passes _ _ _ _ c.loop-count.invariant c.requires.1 c.loop-count-test.true (rw (s.front, c.from.ensures) at c.put_row.ensures))

pub returns-clause-value : goal.returns-clause-value
returns-clause-value c = (ends _ _ _ _ c.loop-count.invariant c.loop-count-test.false).0

pub returns-clause-out_after : goal.returns-clause-out_after
returns-clause-out_after c = (ends _ _ _ _ c.loop-count.invariant c.loop-count-test.false).1
