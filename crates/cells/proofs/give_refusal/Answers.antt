-- Two words and the end of the line are laid in a text that has room for them, and then given. Assumes nothing.
use Rattle.cells.proofs.Giving.{given}
use Rattle.cells.proofs.Laid.{◌&◌}
use Rattle.cells.proofs.Words.{refusal_length}
use Rattle.cells.specs.Promise.{refusal_line}
use Rattle.cells.proofs.give_refusal.Goals as goal

pub returns : goal.returns
unfolding refusal_line
returns c =
    given c.new-line.ensures (c.text.ensures & c.number.ensures & c.text-2.ensures) (refusal_length c.args.number) c.bytes.ensures c.give.ensures
