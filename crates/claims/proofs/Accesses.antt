-- How many accesses an entry makes: at most three, by either method. Assumes nothing.
use Prim.Native.Nat.{◌≤◌}
use native.Mathlib.Omega.{arith}
use lib.ListN.{length}
use Rattle.machine.specs.declared.Method.{Method}
use Rattle.machine.specs.declared.Method.TheVariants.{CcSynch, DsmSynch}
use Rattle.machine.specs.declared.ThreadId.{ThreadId}
use Rattle.cc_lines.specs.Lines.{Line, line_of, accesses_by}
use Rattle.cc_lines.proofs.Numbers.{each_line}
use Rattle.dsm_lines.proofs.Table.{few}
use Rattle.state.specs.declared.State.{State}
use Rattle.step.specs.Entry.{named, line}
use Rattle.step.specs.DsmEntry as dsm
use Rattle.claims.specs.Entries.{entry_by}

pub accesses_few : (m : Method) (s : State) (t : ThreadId) → length (entry_by m s t).accesses ≤ 3
accesses_few CcSynch s t = each_line (λ (l : Line). length (accesses_by (named s t) l) ≤ 3) (omega arith) (line_of (line s t))
accesses_few DsmSynch s t = few (named s t) (dsm.node s t) (dsm.runs s t)
