-- The fields before a return were read, and the one that it stops at was refused. Assumes nothing.
use Rattle.std.proofs.Common.{sym, ◌∙◌}
use Rattle.refusal.proofs.Numbers.{passed_on}
use Rattle.bench_file.specs.Layout.{head_reader}
use Rattle.bench_file.proofs.read_head.Goals as goal

pub returns-in_err-version-clause-result_value : goal.returns-in_err-version-clause-result_value
unfolding head_reader
returns-in_err-version-clause-result_value c =
    rw (passed_on c.from_residual.result c.from_residual.ensures) (simp (sym c.in_err-version.ensures))

pub returns-in_err-b-clause-result_value : goal.returns-in_err-b-clause-result_value
unfolding head_reader
returns-in_err-b-clause-result_value c =
    rw (passed_on c.from_residual-in_err-b.result c.from_residual-in_err-b.ensures) (simp (sym c.in_ok-version.ensures, sym c.in_err-b.ensures.result_value))

pub returns-clause-result_value : goal.returns-clause-result_value
unfolding head_reader
returns-clause-result_value c =
    c.read_limits.ensures.result_value
    ∙ simp (sym c.in_ok-version.ensures, sym c.in_ok-b.ensures.result_value, ← c.kind_of.ensures)
