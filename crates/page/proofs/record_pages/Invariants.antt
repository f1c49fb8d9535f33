-- i rows are laid, each behind its heading
use Rattle.std.proofs.Common.{take}
use Rattle.bench.specs.Run.{records_laid}
use Rattle.cells.specs.Laid.{Laid}
use Rattle.cells.specs.Text.{numbered}
use Rattle.page.specs.Promise.{enough_for_pages}
use Rattle.page.proofs.Printing.{record_headed}
use Rattle.page.proofs.record_pages.Given as goal

abbrev pub invariant-loop-i : goal.invariant-loop-i
invariant-loop-i l = Laid enough_for_pages l.initial.pages (numbered record_headed 0 (take l.i (records_laid l.count l.records))) l.pages
