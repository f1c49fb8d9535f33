-- The fresh machine of document 01, and of document 02, No. 6: all threads idle, no request begun, no copies, the object empty or 0, all counts 0.
use Rattle.std.specs.Prelude.{ℕ, ◌+◌, false, List, [], ◌∷◌, replicate, None}
use Rattle.object.specs.declared.Kind.{Kind}
use Rattle.object.specs.declared.Request.{Request}
use Rattle.object.specs.Apply.{fresh_object}
use Rattle.machine.specs.declared.Method.{Method}
use Rattle.machine.specs.declared.Method.TheVariants.{CcSynch, DsmSynch}
use Rattle.machine.specs.declared.NodeId.{NodeId}
use Rattle.machine.specs.declared.Node.{Node}
use Rattle.machine.specs.declared.Thread.{Thread}
use Rattle.machine.specs.Fields.{null}
use Rattle.machine.specs.Sizes.{most_locations, most_nodes}
use Rattle.state.specs.declared.State.{State}

-- next is null, wait and completed are false, req and ret are empty
abbrev pub fresh_node : Node
fresh_node = record { req = None; ret = None; wait = false; completed = false; next = null }

-- thread i is idle and has begun no request; in CC-Synch it starts with node i + 1, in DSM-Synch with toggle 0
abbrev pub fresh_thread : ℕ → ℕ → Thread
fresh_thread i count = record {
  count = count;
  begun = 0;
  line = 0;
  own = record { 0 = i + 1 };
  cur = null;
  tmp = null;
  tmpnext = null;
  served = 0;
  toggle = 0;
  my = null;
  pred = null;
}

-- threads from number i on, one for each count
abbrev pub fresh_threads : ℕ → List ℕ → List Thread
fresh_threads i [] = []
fresh_threads i (count ∷ counts) = fresh_thread i count ∷ fresh_threads (i + 1) counts

-- Tail at the start: CC-Synch's node 0 is the first dummy, and Tail points to it; DSM-Synch's list is empty
abbrev pub fresh_tail : Method → NodeId
fresh_tail CcSynch = record { 0 = 0 }
fresh_tail DsmSynch = null

-- the machine of a method, of a file's head, its counts and its requests
abbrev pub fresh_state_by : Method → Kind → ℕ → ℕ → ℕ → List ℕ → List Request → State
fresh_state_by m kind n h capacity counts requests = record {
  method = m;
  n = n;
  h = h;
  kind = kind;
  capacity = capacity;
  tail = fresh_tail m;
  threads = fresh_threads 0 counts;
  nodes = replicate most_nodes fresh_node;
  requests = requests;
  copies = replicate most_locations 0;
  object = fresh_object;
  counts = record { records = 0; turns = 0; blanks = 0; spins = 0; remote = 0 };
}
