-- A loop that lays the rows, one a pass.
use Rattle.bench_writer.proofs.Laying.{Laying}
use Rattle.bench_writer.proofs.put_rows.Given as goal

abbrev pub invariant-loop-count : goal.invariant-loop-count
invariant-loop-count l = Laying l.counts l.fn.requests l.fn.out l.at l.out l.next l.left l.count-index
