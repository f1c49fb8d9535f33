-- so many columns are laid, each behind its gap
use Rattle.std.proofs.Common.{length, take}
use Rattle.cells.specs.Laid.{Laid}
use Rattle.cells.specs.Rows.{columns}
use Rattle.cells.specs.Text.{numbered}
use Rattle.cells.proofs.Rows.{spaced}
use Rattle.cells.proofs.Text.row.Given as goal

abbrev pub invariant-loop-i : goal.invariant-loop-i
invariant-loop-i g l = Laid g.row.N l.initial.self (numbered spaced 0 (take (length l.yielded) (columns l.widths l.cells))) l.self
