-- The nodes of DSM-Synch: "two nodes a thread, nodes 2i and 2i + 1 belonging to thread i for good", document 02, No. 6.
use Rattle.std.specs.Prelude.{ℕ, ◌+◌, ◌*◌, ◌/◌, Bool, false, ◌||◌, eqb}
use Rattle.machine.specs.declared.NodeId.{NodeId}
use Rattle.machine.specs.Accesses.{Location, tail, whole}

-- the node of thread t at a place of its MyNodes, 0 or 1
abbrev pub node_of : ℕ → ℕ → NodeId
node_of t place = record { 0 = 2 * t + place }

-- the thread that a node belongs to
abbrev pub owner_of : NodeId → ℕ
owner_of node = node.0 / 2

-- whether a location is a node of thread t's own, in the words above, for the claims
abbrev pub its_own : ℕ → Location → Bool
its_own t tail = false
its_own t (whole node) = eqb node.0 (2 * t) || eqb node.0 (2 * t + 1)
