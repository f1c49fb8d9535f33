-- Code and value stand there. Assumes nothing.
use Rattle.std.proofs.Common.{◌∙◌}
use Rattle.bench_file.proofs.Reading.{four_read}
use Rattle.loader.proofs.request_in.Goals as goal

pub returns : goal.returns
returns c = c.request_of.ensures ∙ rw (c.from_le_bytes-value.ensures, four_read c.args.bytes.now 1)
