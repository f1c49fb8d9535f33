-- The name, and the number behind it. Assumes nothing.
use Rattle.cells.proofs.Laid.{◌&◌}
use Rattle.listing.proofs.named.Goals as goal

pub returns : goal.returns
returns c = c.text.ensures & c.number.ensures
