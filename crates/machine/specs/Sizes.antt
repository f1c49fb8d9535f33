-- How much room a machine has: for 16 threads, with 16 requests each.
use Rattle.std.specs.Prelude.{ℕ, ◌+◌}

-- two nodes for each thread, as DSM-Synch has them; CC-Synch has nodes 0 to n, one for each thread and the first dummy
abbrev pub most_nodes : ℕ
most_nodes = 32

-- the locations of a machine with so many nodes: Tail, and each of them
abbrev pub locations_of : ℕ → ℕ
locations_of nodes = 1 + nodes

abbrev pub most_locations : ℕ
most_locations = locations_of most_nodes

-- places of calls, 16 for each thread
abbrev pub most_calls : ℕ
most_calls = 256
