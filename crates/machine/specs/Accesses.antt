-- The shared accesses of a line, the only source of remote references, and the locations that they go to.
-- An access is of one field; caches fetch nodes, so its location is the whole node: document 02, No. 5.
use Rattle.std.specs.Prelude.{ℕ, Bool, true, false, cond, not, ◌&&◌, ◌||◌, List, [], ◌∷◌, ◌++◌, get_or, eqb}
use Rattle.machine.specs.declared.NodeId.{NodeId}
use Rattle.machine.specs.declared.Thread.{Thread}
use Rattle.machine.specs.declared.Pointer.{Pointer}
use Rattle.machine.specs.declared.Pointer.TheVariants.{Own, Cur, Tmp, My, Pred}
use Rattle.machine.specs.declared.Field.{Field}
use Rattle.machine.specs.declared.SharedAccess.{SharedAccess}
use Rattle.machine.specs.declared.SharedAccess.TheVariants.{NoAccess, Read, Write, Swap, Cas, ReadBehind, WriteBehind}
use Rattle.machine.specs.declared.Event.TheVariants.{Blank}
use Rattle.machine.specs.declared.PrintedLine.{PrintedLine}
use Rattle.machine.specs.declared.PrintedLine.TheVariants.{Local, One, Two, Three}
use Rattle.machine.specs.declared.Row.{Row}
use Rattle.machine.specs.Fields.{is_null}

-- the number of a pointer
abbrev pub pointer_number : Pointer → ℕ
pointer_number Own = 0
pointer_number Cur = 1
pointer_number Tmp = 2
pointer_number My = 3
pointer_number Pred = 4

-- the node that a pointer gives: of CC-Synch the thread's own node, curNode or tmpNode, of DSM-Synch myNode, myPredNode or tmpNode
abbrev pub pointed_of : Pointer → NodeId → NodeId → NodeId → NodeId → NodeId → NodeId
pointed_of Own own cur tmp my pred = own
pointed_of Cur own cur tmp my pred = cur
pointed_of Tmp own cur tmp my pred = tmp
pointed_of My own cur tmp my pred = my
pointed_of Pred own cur tmp my pred = pred

abbrev pub pointed : Pointer → Thread → NodeId
pointed pointer th = pointed_of pointer th.own th.cur th.tmp th.my th.pred

-- an access reads or writes one field of one node, or is a Swap or a CAS on Tail
pub data Access : Type 0 where
  read : NodeId → Field → Access
  write : NodeId → Field → Access
  swap : Access
  cas : Access

-- a location is Tail or a whole node
pub data Location : Type 0 where
  tail : Location
  whole : NodeId → Location

-- whether two locations are one
abbrev pub same_location : Location → Location → Bool
same_location tail tail = true
same_location tail (whole node) = false
same_location (whole node) tail = false
same_location (whole node) (whole other) = eqb node.0 other.0

-- the location of an access, whatever its field
abbrev pub located : Access → Location
located (read node field) = whole node
located (write node field) = whole node
located swap = tail
located cas = tail

-- a row from its printed line
abbrev pub row_from : PrintedLine → Row
row_from (Local node event) = record { node = node; first = NoAccess; second = NoAccess; third = NoAccess; event = event }
row_from (One node first event) = record { node = node; first = first; second = NoAccess; third = NoAccess; event = event }
row_from (Two node first second event) = record { node = node; first = first; second = second; third = NoAccess; event = event }
row_from (Three node first second third event) = record { node = node; first = first; second = second; third = third; event = event }

-- the row of a line in a table of printed lines, the first of them line 1; that of a blank, which has a pointer of its own, for 0 and past the last
abbrev pub row_in : List PrintedLine → Pointer → ℕ → Row
row_in lines blank line = row_from (get_or (Local blank Blank ∷ lines) line (Local blank Blank))

-- whether a row's access is none, and whether it writes the node behind
abbrev pub is_none : SharedAccess → Bool
is_none NoAccess = true
is_none (Read field) = false
is_none (Write field) = false
is_none Swap = false
is_none Cas = false
is_none (ReadBehind field) = false
is_none (WriteBehind field) = false

abbrev pub writes_behind : SharedAccess → Bool
writes_behind NoAccess = false
writes_behind (Read field) = false
writes_behind (Write field) = false
writes_behind Swap = false
writes_behind Cas = false
writes_behind (ReadBehind field) = false
writes_behind (WriteBehind field) = true

-- whether an access writes a node, and whether one of a row does
abbrev pub writes : SharedAccess → Bool
writes NoAccess = false
writes (Read field) = false
writes (Write field) = true
writes Swap = false
writes Cas = false
writes (ReadBehind field) = false
writes (WriteBehind field) = true

abbrev pub writes_any : Row → Bool
writes_any row = writes row.first || (writes row.second || writes row.third)

-- the node that a line points to, and the one behind it, which its next gives
module _ (node behind : NodeId) where
  abbrev pub access_to : SharedAccess → List Access
  access_to NoAccess = []
  access_to (Read field) = read node field ∷ []
  access_to (Write field) = write node field ∷ []
  access_to Swap = swap ∷ []
  access_to Cas = cas ∷ []
  access_to (ReadBehind field) = read behind field ∷ []
  access_to (WriteBehind field) = write behind field ∷ []

-- the accesses of a row, in order; of three those after the first are made only where the node has a next: a test that finds null reads no further
abbrev pub accesses_of : Row → NodeId → NodeId → List Access
accesses_of row node behind =
    access_to node behind row.first
    ++ cond (not (is_none row.third) && is_null behind) [] (access_to node behind row.second ++ access_to node behind row.third)

-- the node that a line writes, if it writes one: the one behind where its second access does
abbrev pub written_of : Row → NodeId → NodeId → NodeId
written_of row node behind = cond (writes_behind row.second) behind node

-- whether one of a list of accesses goes to null
abbrev pub to_null : List Access → Bool
to_null [] = false
to_null (read m field ∷ accesses) = is_null m || to_null accesses
to_null (write m field ∷ accesses) = is_null m || to_null accesses
to_null (swap ∷ accesses) = to_null accesses
to_null (cas ∷ accesses) = to_null accesses
