-- Each pass lays one line more. Assumes nothing.
use Rattle.std.proofs.Common.{[], ap, ◌∙◌, arith}
use Rattle.bench.specs.Run.{records_laid}
use Rattle.bench.proofs.InPlace.{laid_count, laid_slice}
use Rattle.cells.proofs.Laid.{told}
use Rattle.cells.proofs.Numbered.{lays_none, lays_more, lays_all}
use Rattle.listing.specs.Listing.{record_line}
use Rattle.listing.proofs.Records.{line_set}
use Rattle.listing.proofs.record_lines.Goals as goal

pub loop-i-init : goal.loop-i-init
loop-i-init c = lays_none record_line (records_laid c.args.count c.args.records.now) [] _ _

pub loop-i-preserved : goal.loop-i-preserved
loop-i-preserved c =
    let records = c.args.records.now in
    let count = c.args.count in
    let i = c.loop-i.i in
    let below = c.loop-i-test.true in
    lays_more record_line (records_laid count records) [] i (omega (arith, laid_count count records, below)) c.loop-i.invariant
    (told (λ line. line) (line_set i _ ∙ ap (record_line i) (laid_slice count i records below)) c.record.ensures)

pub returns : goal.returns
returns c =
    let records = c.args.records.now in
    let count = c.args.count in
    lays_all record_line (records_laid count records) [] c.loop-i.i (omega (arith, laid_count count records, c.loop-i-test.false)) c.loop-i.invariant
