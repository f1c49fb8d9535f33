-- What one schedule entry does to a state by its method: Entry.antt's definitions where that is CC-Synch, DsmEntry.antt's where it is DSM-Synch.
use Rattle.std.specs.Prelude.{ℕ, Bool, false, ◌||◌, List, slice_index_or}
use Rattle.object.specs.declared.Request.{Request}
use Rattle.object.specs.declared.Answer.{Answer}
use Rattle.object.specs.Apply.{Applied}
use Rattle.machine.specs.declared.Method.{Method}
use Rattle.machine.specs.declared.Method.TheVariants.{CcSynch, DsmSynch}
use Rattle.machine.specs.declared.ThreadId.{ThreadId}
use Rattle.machine.specs.declared.NodeId.{NodeId}
use Rattle.machine.specs.declared.Node.{Node}
use Rattle.machine.specs.declared.Thread.{Thread}
use Rattle.machine.specs.declared.Event.{Event}
use Rattle.machine.specs.Effect.{Effect}
use Rattle.machine.specs.Accesses.{Access, to_null, pointed}
use Rattle.cc_lines.specs.Lines as CcLines
use Rattle.cc_synch.specs.Effect as CcEffect
use Rattle.dsm_lines.specs.Lines as DsmLines
use Rattle.dsm_synch.specs.Effect as DsmEffect
use Rattle.copies.specs.Remote.{Referred, referred_by}
use Rattle.state.specs.declared.Counts.{Counts}
use Rattle.state.specs.declared.State.{State}
use Rattle.step.specs.Entry.{zero_node, applied_at, more_of, plus, state_with, named, line, request}

-- line k of a method, run by a thread: the node that it points to, x in the rest
abbrev pub line_points : Method → Thread → ℕ → NodeId
line_points CcSynch th k = pointed (CcLines.row_of (CcLines.line_of k)).node th
line_points DsmSynch th k = DsmLines.pointed th (DsmLines.line_of k)

-- the node that it writes, if it writes one
abbrev pub line_writes : Method → Thread → Node → ℕ → NodeId
line_writes CcSynch th x k = line_points CcSynch th k
line_writes DsmSynch th x k = DsmLines.target th x (DsmLines.line_of k)

-- its accesses, in order
abbrev pub line_accesses : Method → Thread → Node → ℕ → List Access
line_accesses CcSynch th x k = CcLines.accesses_by th (CcLines.line_of k)
line_accesses DsmSynch th x k = DsmLines.accesses th x (DsmLines.line_of k)

-- what an entry of it is, where Tail is this
abbrev pub line_event : Method → Thread → Node → NodeId → ℕ → Event
line_event CcSynch th x tail k = CcLines.event_in (CcLines.row_of (CcLines.line_of k)).event x
line_event DsmSynch th x tail k = DsmLines.event_in x (DsmLines.empties tail th.tmp) (DsmLines.line_of k)

-- what it does, as thread t, with y the node behind x
abbrev pub line_done : Method → ℕ → Thread → Node → Node → NodeId → ℕ → Request → Answer → ℕ → Effect
line_done CcSynch t th x y tail h request answer k = CcEffect.executed th x tail h request answer (CcLines.line_of k)
line_done DsmSynch t th x y tail h request answer k = DsmEffect.executed t th x y tail h request answer (DsmLines.line_of k)

-- whether it would use what is not there: an empty req or ret, and in DSM-Synch null, where it follows it
abbrev pub line_misses : Method → Thread → Node → ℕ → Bool
line_misses CcSynch th x k = CcEffect.uses_empty x k
line_misses DsmSynch th x k = DsmEffect.uses_empty x k || to_null (line_accesses DsmSynch th x k)

-- whether it is 14 for a cause of its own, and whether because it meets null; what ranges and counts of a state add belongs to the single step
abbrev pub line_out : Method → Thread → Node → ℕ → ℕ → Bool
line_out CcSynch th x h k = CcEffect.takes_out th x h k
line_out DsmSynch th x h k = DsmEffect.takes_out th x h k

abbrev pub line_meets_null : Method → Thread → Node → ℕ → Bool
line_meets_null CcSynch th x k = false
line_meets_null DsmSynch th x k = DsmEffect.meets_null th x k

-- the entry of a thread in a state
module _ (m : Method) (s : State) (t : ThreadId) where
  -- the node that the line points to, and the one behind it
  abbrev pub points_to_by : NodeId
  points_to_by = line_points m (named s t) (line s t)

  abbrev pub node_by : Node
  node_by = slice_index_or s.nodes points_to_by.0 zero_node

  abbrev pub behind_by : Node
  behind_by = slice_index_or s.nodes node_by.next.0 zero_node

  -- the node that it writes, if it writes one
  abbrev pub written_by : NodeId
  written_by = line_writes m (named s t) node_by (line s t)

  -- what the entry is
  abbrev pub event_by : Event
  event_by = line_event m (named s t) node_by s.tail (line s t)

  abbrev pub applied_by : Applied
  applied_by = applied_at event_by s.kind s.capacity s.object node_by.req

  -- what the line does
  abbrev pub effect_by : Effect
  effect_by = line_done m t.0 (named s t) node_by behind_by s.tail s.h (request s t) applied_by.answer (line s t)

  -- the accesses that it makes, in order, and which of them are remote
  abbrev pub accesses_by : List Access
  accesses_by = line_accesses m (named s t) node_by (line s t)

  abbrev pub references_by : Referred
  references_by = referred_by m s.n t.0 s.copies accesses_by

  abbrev pub counts_after_by : Counts
  counts_after_by = plus s.counts (more_of event_by references_by.remote)

  -- the state after the entry
  abbrev pub entered_by : State
  entered_by = state_with s t written_by effect_by applied_by references_by.copies counts_after_by

  -- what the line misses, and whether it is 14 for a cause of its own
  abbrev pub misses_by : Bool
  misses_by = line_misses m (named s t) node_by (line s t)

  abbrev pub out_by : Bool
  out_by = line_out m (named s t) node_by s.h (line s t)

  abbrev pub null_met_by : Bool
  null_met_by = line_meets_null m (named s t) node_by (line s t)
