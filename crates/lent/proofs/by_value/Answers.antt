-- What the single step hands back is what is promised. Assumes nothing.
use Rattle.std.proofs.Common.{rules}
use Rattle.lent.proofs.Lent.{steps_lent}
use Rattle.lent.proofs.by_value.Goals as goal

pub returns : goal.returns
returns c = search (rules, steps_lent)
