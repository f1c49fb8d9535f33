-- A call of the closure reads one row. Assumes nothing.
use Rattle.std.proofs.Common.{◌∙◌, length, rules}
use Rattle.bench_file.specs.Layout.{row_reader}
use Rattle.bench_file.specs.Cursor.{tallied}
use Rattle.bench_file.proofs.Passes.{several_tallied}
use Rattle.bench_file.proofs.read_rows.Goals as goal

pub returns-clause-result_value : goal.returns-clause-result_value
returns-clause-result_value c =
    c.read_several.ensures.result_value (λ bytes. tallied length (row_reader c.args.object bytes)) (λ part r called. search rules)
    ∙ several_tallied (row_reader c.args.object) length c.args.n c.args.s.now
