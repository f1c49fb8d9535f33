-- One that is read is one pass more, one that is refused ends the reading. Assumes nothing.
use Rattle.std.proofs.Common.{arith}
use Rattle.std.proofs.lemmas.Slice.{between_to_end}
use Rattle.refusal.proofs.Numbers.{passed_on}
use Rattle.bench_file.proofs.Passes.{passes, refuses, ends}
use Rattle.bench_file.proofs.read_several.Goals as goal

pub returns-in_err-more-clause-result_value : goal.returns-in_err-more-clause-result_value
returns-in_err-more-clause-result_value g c reader reads =
    rw (passed_on c.from_residual.result c.from_residual.ensures)
    (refuses _ _ _ c.loop.invariant c.loop-test.true (between_to_end c.args.s.now c.loop.next _ (omega arith)) c.read.ensures c.in_err-more.was reader reads)

pub loop-preserved : goal.loop-preserved
loop-preserved g c =
    passes _ _ _ c.loop.invariant c.loop-test.true (between_to_end c.args.s.now c.loop.next _ (omega arith)) c.read.ensures c.in_ok-more.was
    (c.requires.goes_ahead _ _ c.read.ensures)

pub returns-clause-result_value : goal.returns-clause-result_value
returns-clause-result_value g c reader reads = ends _ _ _ c.loop.invariant c.loop-test.false reader reads
