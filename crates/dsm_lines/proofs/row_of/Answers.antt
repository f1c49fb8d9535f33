-- The const table is the list of the printed lines, by computation, and a row is that of its line. Assumes nothing.
use Rattle.std.proofs.Common.{◌∙◌, ap}
use Rattle.machine.specs.Accesses.{row_from}
use Rattle.machine.proofs.Lines.{table_with_blank}
use Rattle.dsm_lines.specs.Lines.{L0, printed}
use Rattle.dsm_lines.specs.Rows.{printed_line}
use Rattle.dsm_lines.proofs.row_of.Goals as goal

pub returns : goal.returns
returns c = c.row_in.ensures ∙ ap row_from (table_with_blank printed_line L0 printed c.args.line)
