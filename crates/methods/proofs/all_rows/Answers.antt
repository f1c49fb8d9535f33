-- Each pass puts the row of one more line, and after the last all rows stand in their places. Assumes nothing.
use Rattle.std.proofs.Common.{rules}
use Rattle.std.proofs.lemmas.List.FromFn.{fill_by_all}
use Rattle.std.proofs.lemmas.List.Edits.{fill_by_more}
use Rattle.methods.specs.Methods.{row_by}
use Rattle.methods.proofs.all_rows.Goals as goal

pub loop-line-preserved : goal.loop-line-preserved
loop-line-preserved c = search (rules, fill_by_more)

pub returns : goal.returns
returns c = fill_by_all (row_by c.args.method) c.loop-line.rows 29 (row_by c.args.method 0) c.loop-line.invariant.0 (search rules)
