-- The head row's bytes, or nothing. Assumes nothing.
use mathlib.Core.List.{zip_with}
use Rattle.std.proofs.Common.{Bool, cond, [], sym}
use Rattle.cells.proofs.Laid.{nothing_laid, told}
use Rattle.page.specs.Pages.{head_row}
use Rattle.page.proofs.head_row.Goals as goal

pub returns-then-there : goal.returns-then-there
unfolding head_row zip_with
returns-then-there c = told (λ (there : Bool). cond there head_row []) (sym c.if-there.true) c.text.ensures

pub returns-else-there : goal.returns-else-there
returns-else-there c = told (λ (there : Bool). cond there head_row []) (sym c.if-there.false) (nothing_laid _ _)
