-- Each pass lays one row more, behind its heading; no records have the head row alone. Assumes nothing.
use Rattle.std.proofs.Common.{ℕ, List, [], ◌++◌, sym, ap, ◌∙◌, arith}
use Rattle.bench.specs.Run.{records_laid}
use Rattle.bench.proofs.InPlace.{laid_count, laid_slice}
use Rattle.cells.specs.Cells.{row_in}
use Rattle.cells.proofs.Laid.{◌&◌, told}
use Rattle.cells.proofs.Numbered.{lays_none, lays_more, lays_all}
use Rattle.page.specs.Pages.{page_row}
use Rattle.page.proofs.Printing.{heading, alone, record_headed, records_headed, row_set}
use Rattle.page.proofs.record_pages.Goals as goal

pub loop-i-init : goal.loop-i-init
loop-i-init c = lays_none record_headed (records_laid c.args.count c.args.records.now) [] _ _

pub loop-i-preserved : goal.loop-i-preserved
loop-i-preserved c =
    let records = c.args.records.now in
    let count = c.args.count in
    let i = c.loop-i.i in
    let below = c.loop-i-test.true in
    lays_more record_headed (records_laid count records) [] i (omega (arith, laid_count count records, below)) c.loop-i.invariant
    (told (λ row. heading i ++ row) (row_set i _ ∙ ap (λ (bytes : List ℕ). page_row (row_in i bytes)) (laid_slice count i records below))
    (c.head_row.ensures & c.record.ensures))

pub returns : goal.returns
returns c =
    let records = c.args.records.now in
    let count = c.args.count in
    let many = laid_count count records in
    told (λ words. words) (records_headed (records_laid count records))
    (lays_all record_headed (records_laid count records) [] c.loop-i.i (omega (arith, many, c.loop-i-test.false)) c.loop-i.invariant
    & told alone (sym many) c.head_row-2.ensures)
