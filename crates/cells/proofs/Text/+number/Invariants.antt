-- a tenth is less
use Rattle.cells.proofs.Text.+number.Given as goal

abbrev pub decreases-number : goal.decreases-number
decreases-number g l = l.number
