-- What one schedule entry does to a state by DSM-Synch: document 02, No. 6. As Entry.antt has it of CC-Synch.
use Rattle.std.specs.Prelude.{Bool, List, slice_index_or}
use Rattle.object.specs.Apply.{Applied}
use Rattle.machine.specs.declared.Method.TheVariants.{DsmSynch}
use Rattle.machine.specs.declared.ThreadId.{ThreadId}
use Rattle.machine.specs.declared.NodeId.{NodeId}
use Rattle.machine.specs.declared.Node.{Node}
use Rattle.machine.specs.declared.Event.{Event}
use Rattle.machine.specs.Effect.{Effect}
use Rattle.machine.specs.Accesses.{Access}
use Rattle.dsm_lines.specs.Lines.{Line, line_of, empties, pointed, target, event_in}
use Rattle.dsm_lines.specs.Lines as lines
use Rattle.dsm_synch.specs.Effect.{meets_null, takes_out, executed}
use Rattle.copies.specs.Remote.{Referred, referred_by}
use Rattle.state.specs.declared.Counts.{Counts}
use Rattle.state.specs.declared.State.{State}
use Rattle.step.specs.Entry.{zero_node, applied_at, more_of, plus, state_with, named, line, request}

module _ (s : State) (t : ThreadId) where
  abbrev pub runs : Line
  runs = line_of (line s t)

  -- the node that the line points to, and the one behind it
  abbrev pub points_to : NodeId
  points_to = pointed (named s t) runs

  abbrev pub node : Node
  node = slice_index_or s.nodes points_to.0 zero_node

  abbrev pub behind : Node
  behind = slice_index_or s.nodes node.next.0 zero_node

  -- the node that it writes, if it writes one
  abbrev pub written : NodeId
  written = target (named s t) node runs

  -- what the entry is
  abbrev pub event : Event
  event = event_in node (empties s.tail (named s t).tmp) runs

  abbrev pub applied : Applied
  applied = applied_at event s.kind s.capacity s.object node.req

  -- what the line does, by Algorithm 2
  abbrev pub effect : Effect
  effect = executed t.0 (named s t) node behind s.tail s.h (request s t) applied.answer runs

  -- the accesses that it makes, in order
  abbrev pub accesses : List Access
  accesses = lines.accesses (named s t) node runs

  -- and which of them are remote
  abbrev pub references : Referred
  references = referred_by DsmSynch s.n t.0 s.copies accesses

  abbrev pub counts_after : Counts
  counts_after = plus s.counts (more_of event references.remote)

  -- the state after the entry
  abbrev pub entered : State
  entered = state_with s t written effect applied references.copies counts_after

  -- whether the entry gives 14 because its line meets null, and whether for that or another of the line's own causes; what ranges and counts of a state add belongs
  -- to the single step
  abbrev pub null_met : Bool
  null_met = meets_null (named s t) node (line s t)

  abbrev pub out : Bool
  out = takes_out (named s t) node s.h (line s t)
