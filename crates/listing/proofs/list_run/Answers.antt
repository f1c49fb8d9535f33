-- The listing of a run is laid in a text that has room for it, and given. Assumes nothing.
use Rattle.std.proofs.Common.{arith}
use Rattle.bench.specs.Run.{records_laid}
use Rattle.bench.proofs.InPlace.{laid_count}
use Rattle.cells.proofs.Giving.{given}
use Rattle.cells.proofs.Laid.{◌&◌}
use Rattle.listing.proofs.Lengths.{listing_length}
use Rattle.listing.proofs.list_run.Goals as goal

pub returns : goal.returns
returns c =
    let a = c.args in
    given c.new-listing.ensures (c.head_line.ensures & c.record_lines.ensures)
    (listing_length a.head a.counts (records_laid a.count a.records.now) c.requires.2 (omega (arith, laid_count a.count a.records.now, c.requires.1))) c.bytes.ensures c.give.ensures
