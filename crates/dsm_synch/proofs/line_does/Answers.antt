-- Past 28 there is no line. Assumes nothing.
use Rattle.dsm_lines.proofs.Table.{no_line}
use Rattle.dsm_synch.proofs.line_does.Goals as goal

pub returns-in_default : goal.returns-in_default
returns-in_default c = simp (← no_line _ c.in_default.in_default-own.rest)
