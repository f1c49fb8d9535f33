-- The two methods: document 02's numbers for them, and what of a machine goes by its method.
use Rattle.std.specs.Prelude.{ℕ, ◌-◌, ◌*◌, Bool, true, false, cond, eqb}
use Rattle.machine.specs.declared.Method.{Method}
use Rattle.machine.specs.declared.Method.TheVariants.{CcSynch, DsmSynch}

-- "one method byte after the capacity: 0 CC-Synch, 1 DSM-Synch"
abbrev pub method_number : Method → ℕ
method_number CcSynch = 0
method_number DsmSynch = 1

abbrev pub method_of : ℕ → Method
method_of number = cond (eqb number 0) CcSynch DsmSynch

-- the last printed line
abbrev pub last_line : Method → ℕ
last_line CcSynch = 21
last_line DsmSynch = 28

-- the last node of n threads: CC-Synch has nodes 0 to n, DSM-Synch 0 to 2n − 1
abbrev pub last_node : Method → ℕ → ℕ
last_node CcSynch n = n
last_node DsmSynch n = 2 * n - 1

-- whether Tail may be null: CC-Synch's always points to a node
abbrev pub tail_nullable : Method → Bool
tail_nullable CcSynch = false
tail_nullable DsmSynch = true
