-- The first of a row of spaces are so many spaces. Assumes nothing.
use Rattle.std.proofs.lemmas.List.{take-replicate}
use Rattle.cells.proofs.Laid.{told}
use Rattle.cells.proofs.Text.spaces.Goals as goal

pub returns : goal.returns
returns g c = told (λ words. words) (take-replicate c.args.count 255 32 c.requires) c.text.ensures
