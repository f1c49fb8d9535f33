-- The lower bytes stand first. Assumes nothing.
use Rattle.std.proofs.Common.{◌∙◌}
use Rattle.bench_file.proofs.Reading.{four_read}
use Rattle.cells.proofs.number4.Goals as goal

pub returns : goal.returns
returns c = c.from_le_bytes.ensures ∙ rw (c.byte.ensures, c.byte-2.ensures, c.byte-3.ensures, c.byte-4.ensures) (four_read c.args.bytes.now c.args.i)
