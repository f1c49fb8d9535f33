-- A loop that reads so many of a kind, one a pass.
use Rattle.bench_file.proofs.Passes.{Passing}
use Rattle.bench_file.proofs.read_several.Given as goal

abbrev pub invariant-loop : goal.invariant-loop
invariant-loop g l = Passing (goal.F-post g l.read) l.s l.count l.next l.done l.counter
