-- What goes by a machine's method: a line's row, what a line does, the node that a Swap assigns, and where a thread waits for its turn.
use Rattle.std.specs.Prelude.{ℕ}
use Rattle.object.specs.declared.Request.{Request}
use Rattle.object.specs.declared.Answer.{Answer}
use Rattle.machine.specs.declared.Method.{Method}
use Rattle.machine.specs.declared.Method.TheVariants.{CcSynch, DsmSynch}
use Rattle.machine.specs.declared.NodeId.{NodeId}
use Rattle.machine.specs.declared.Node.{Node}
use Rattle.machine.specs.declared.Thread.{Thread}
use Rattle.machine.specs.declared.Row.{Row}
use Rattle.machine.specs.Effect.{Effect}
use Rattle.machine.specs.Fields.{null}
use Rattle.cc_lines.specs.Lines as cc
use Rattle.cc_synch.specs.Effect as CcEffect
use Rattle.dsm_lines.specs.Lines as dsm
use Rattle.dsm_lines.specs.Rows as DsmRows
use Rattle.dsm_synch.specs.Effect as DsmEffect

-- the row of a line by its number; 0 is a blank, and past the last printed line there is none
abbrev pub row_by : Method → ℕ → Row
row_by CcSynch k = cc.row_of (cc.line_of k)
row_by DsmSynch k = DsmRows.row_of (dsm.line_of k)

-- the node behind that a line may look at, from the next of the one that it points to: CC-Synch looks at none, null
abbrev pub behind_by : Method → NodeId → NodeId
behind_by CcSynch next = null
behind_by DsmSynch next = next

-- what the next line of thread t, th, does; x is the node that it points to, y the one behind it, which CC-Synch does not look at
abbrev pub effect_by : Method → ℕ → Thread → Node → Node → NodeId → ℕ → Request → Answer → Effect
effect_by CcSynch t th x y tail h request answer = CcEffect.effect_of th x tail h request answer
effect_by DsmSynch t th x y tail h request answer = DsmEffect.effect_of t th x y tail h request answer

-- the node that a Swap assigns to its call: in CC-Synch the one that it gives, Tail's, in DSM-Synch the one that it puts in, myNode
abbrev pub assigned_by : Method → NodeId → NodeId → NodeId
assigned_by CcSynch tail my = tail
assigned_by DsmSynch tail my = my

-- the line at which a thread waits for its turn, and the node whose wait it reads there: curNode or myNode
abbrev pub spin_line : Method → ℕ
spin_line CcSynch = 9
spin_line DsmSynch = 10

abbrev pub spin_node : Method → NodeId → NodeId → NodeId
spin_node CcSynch cur my = cur
spin_node DsmSynch cur my = my
