-- i lines are laid
use Rattle.std.proofs.Common.{take}
use Rattle.bench.specs.Run.{records_laid}
use Rattle.cells.specs.Laid.{Laid}
use Rattle.cells.specs.Text.{numbered}
use Rattle.listing.specs.Listing.{record_line}
use Rattle.listing.specs.Promise.{enough_bytes}
use Rattle.listing.proofs.record_lines.Given as goal

abbrev pub invariant-loop-i : goal.invariant-loop-i
invariant-loop-i l = Laid enough_bytes l.initial.listing (numbered record_line 0 (take l.i (records_laid l.count l.records))) l.listing
