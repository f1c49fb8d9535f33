-- What one schedule entry does to a state: the thread that it names executes one line. Document 01, 'One entry, one line'.
use Rattle.std.specs.Prelude.{ℕ, ◌+◌, ◌-◌, ◌*◌, ◌%◌, ◌^◌, Bool, false, cond, List, get_or, slice_index_or, slice_set, Option, Some, None}
use Rattle.object.specs.declared.Kind.{Kind}
use Rattle.object.specs.declared.Request.{Request}
use Rattle.object.specs.declared.Request.TheVariants.{Put}
use Rattle.object.specs.declared.Answer.TheVariants.{Empty}
use Rattle.object.specs.declared.Object.{Object}
use Rattle.object.specs.Apply.{Applied, answered, refused_with, apply_of}
use Rattle.machine.specs.declared.ThreadId.{ThreadId}
use Rattle.machine.specs.declared.NodeId.{NodeId}
use Rattle.machine.specs.declared.Node.{Node}
use Rattle.machine.specs.declared.Thread.{Thread}
use Rattle.machine.specs.declared.Event.{Event}
use Rattle.machine.specs.declared.Event.TheVariants.{Blank, Swaps, TurnBegins, Applies, Spins}
use Rattle.machine.specs.declared.Row.{Row}
use Rattle.machine.specs.Effect.{Effect}
use Rattle.machine.specs.Accesses.{Access, pointed}
use Rattle.machine.specs.Events.{same_event}
use Rattle.cc_lines.specs.Lines.{line_of, row_of, accesses_by, event_in}
use Rattle.machine.specs.Lines.{line_run}
use Rattle.cc_synch.specs.Effect.{executed}
use Rattle.copies.specs.Remote.{Referred, referred}
use Rattle.state.specs.declared.Counts.{Counts}
use Rattle.state.specs.declared.State.{State}

-- what a read past the end of an array gives: no state in range of CC-Synch meets it, and of DSM-Synch only a line that makes nothing of it, where myNode or
-- the node behind is null; not the start
abbrev pub zero_node_id : NodeId
zero_node_id = record { 0 = 0 }

abbrev pub zero_thread : Thread
zero_thread = record {
  count = 0;
  begun = 0;
  line = 0;
  own = zero_node_id;
  cur = zero_node_id;
  tmp = zero_node_id;
  tmpnext = zero_node_id;
  served = 0;
  toggle = 0;
  my = zero_node_id;
  pred = zero_node_id;
}

abbrev pub zero_node : Node
zero_node = record { req = None; ret = None; wait = false; completed = false; next = zero_node_id }

-- also what stands at the start on the places past a thread's count
abbrev pub zero_request : Request
zero_request = Put 0

-- the object's answer to a node's req, and the object after it; the use of an empty req is 14
abbrev pub served_by : Kind → ℕ → Object → Option Request → Applied
served_by kind capacity ob None = refused_with 14 ob
served_by kind capacity ob (Some request) = apply_of kind capacity ob request

-- an entry that applies does so to the node's req, which in a state in range the object knows, or which is empty, and that `uses_empty` judges. Any other entry
-- leaves the object, and its line looks at no answer
abbrev pub applied_at : Event → Kind → ℕ → Object → Option Request → Applied
applied_at event kind capacity ob req = cond (same_event event Applies) (served_by kind capacity ob req) (answered Empty ob)

abbrev pub one_if : Bool → ℕ
one_if test = cond test 1 0

-- what an entry adds to the counts: a record by a Swap, a turn that begins, a blank, a spin, and its remote references
abbrev pub more_of : Event → ℕ → Counts
more_of event remote = record {
  records = one_if (same_event event Swaps);
  turns = one_if (same_event event TurnBegins);
  blanks = one_if (same_event event Blank);
  spins = one_if (same_event event Spins);
  remote = remote;
}

abbrev pub plus : Counts → Counts → Counts
plus c d = record {
  records = c.records + d.records;
  turns = c.turns + d.turns;
  blanks = c.blanks + d.blanks;
  spins = c.spins + d.spins;
  remote = c.remote + d.remote;
}

-- each count modulo 4,294,967,296, which changes none that has 32 bits
abbrev pub wrapped : Counts → Counts
wrapped c = record {
  records = c.records % 2 ^ 32;
  turns = c.turns % 2 ^ 32;
  blanks = c.blanks % 2 ^ 32;
  spins = c.spins % 2 ^ 32;
  remote = c.remote % 2 ^ 32;
}

-- the state after an entry of thread t, by whichever method: its thread, Tail and the node that it writes, the object, the copies and the counts
abbrev pub state_with : State → ThreadId → NodeId → Effect → Applied → List ℕ → Counts → State
state_with s t target effect applied copies counts = record {
  method = s.method;
  n = s.n;
  h = s.h;
  kind = s.kind;
  capacity = s.capacity;
  tail = effect.tail;
  threads = slice_set s.threads t.0 effect.thread;
  nodes = slice_set s.nodes target.0 effect.node;
  requests = s.requests;
  copies = copies;
  object = applied.object;
  counts = counts;
}

-- the thread that an entry names, the line that it runs, 0 for a blank, and the request of the thread's call, the last begun of its row
module _ (s : State) (t : ThreadId) where
  abbrev pub named : Thread
  named = slice_index_or s.threads t.0 zero_thread

  abbrev pub line : ℕ
  line = line_run named

  abbrev pub request : Request
  request = get_or s.requests (16 * t.0 + (named.begun - 1)) zero_request

-- what the entry of a thread does in a state by CC-Synch
module _ (s : State) (t : ThreadId) where
  abbrev pub row : Row
  row = row_of (line_of (line s t))

  -- the node that the line points to
  abbrev pub target : NodeId
  target = pointed row.node (named s t)

  abbrev pub node : Node
  node = slice_index_or s.nodes target.0 zero_node

  -- what the entry is
  abbrev pub event : Event
  event = event_in row.event node

  abbrev pub applied : Applied
  applied = applied_at event s.kind s.capacity s.object node.req

  -- what the line does, by Algorithm 1
  abbrev pub effect : Effect
  effect = executed (named s t) node s.tail s.h (request s t) applied.answer (line_of (line s t))

  -- the accesses that it makes, in order
  abbrev pub accesses : List Access
  accesses = accesses_by (named s t) (line_of (line s t))

  -- and which of them are remote
  abbrev pub references : Referred
  references = referred s.n t.0 s.copies accesses

  abbrev pub counts_after : Counts
  counts_after = plus s.counts (more_of event references.remote)

  -- the state after the entry
  abbrev pub entered : State
  entered = state_with s t target effect applied references.copies counts_after
