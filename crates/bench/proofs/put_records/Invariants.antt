-- A loop that lays a run's records, one a pass.
use Rattle.bench.proofs.Putting.{RecordsLaid}
use Rattle.bench.proofs.put_records.Given as goal

abbrev pub invariant-loop-i : goal.invariant-loop-i
invariant-loop-i l = RecordsLaid l.played.kept l.played.order l.fn.out l.played.counts.records l.out l.i
