-- The lower byte stands first. Assumes nothing.
use Rattle.std.proofs.Common.{◌∙◌}
use Rattle.bench_file.proofs.Reading.{two_read}
use Rattle.cells.proofs.number2.Goals as goal

pub returns : goal.returns
returns c = c.from_le_bytes.ensures ∙ rw (c.byte.ensures, c.byte-2.ensures) (two_read c.args.bytes.now c.args.i)
