-- Five numbers behind their names, and the end of the line. Assumes nothing.
use Rattle.cells.proofs.Laid.{◌&◌}
use Rattle.listing.proofs.counts_end.Goals as goal

pub returns : goal.returns
returns c =
    c.named.ensures
    & c.named-2.ensures
    & c.named-3.ensures
    & c.named-4.ensures
    & c.named-5.ensures
    & c.text.ensures
