-- Which places a row touches: the fields of the pointed node that its accesses read and write, taken from another node, and whether it has an access of a kind. What
-- an access does to the node behind is not told here.
use mathlib.Core.Bool.{Bool, true, false, ◌||◌}
use Rattle.machine.specs.declared.Node.{Node}
use Rattle.machine.specs.declared.Field.{Field}
use Rattle.machine.specs.declared.Field.TheVariants.{Req, Ret, Wait, Completed, Next}
use Rattle.machine.specs.declared.SharedAccess.{SharedAccess}
use Rattle.machine.specs.declared.SharedAccess.TheVariants.{NoAccess, Read, Write, Swap, Cas, ReadBehind, WriteBehind}
use Rattle.machine.specs.declared.Row.{Row}
use Rattle.machine.specs.Fields.{same_field, with_wait, with_completed, with_next}

-- a node with one field taken from another
abbrev pub field_from : Field → Node → Node → Node
field_from Req y x = record { req = y.req; ret = x.ret; wait = x.wait; completed = x.completed; next = x.next }
field_from Ret y x = record { req = x.req; ret = y.ret; wait = x.wait; completed = x.completed; next = x.next }
field_from Wait y x = with_wait x y.wait
field_from Completed y x = with_completed x y.completed
field_from Next y x = with_next x y.next

-- the fields that an access writes, taken from another node
abbrev pub written_from : SharedAccess → Node → Node → Node
written_from NoAccess y x = x
written_from (Read field) y x = x
written_from (Write field) y x = field_from field y x
written_from Swap y x = x
written_from Cas y x = x
written_from (ReadBehind field) y x = x
written_from (WriteBehind field) y x = x

-- the fields that an access reads, taken from another node
abbrev pub read_from : SharedAccess → Node → Node → Node
read_from NoAccess y x = x
read_from (Read field) y x = field_from field y x
read_from (Write field) y x = x
read_from Swap y x = x
read_from Cas y x = x
read_from (ReadBehind field) y x = x
read_from (WriteBehind field) y x = x

-- the same for all accesses of a row
abbrev pub row_writes : Row → Node → Node → Node
row_writes row y x = written_from row.third y (written_from row.second y (written_from row.first y x))

abbrev pub row_reads : Row → Node → Node → Node
row_reads row y x = read_from row.third y (read_from row.second y (read_from row.first y x))

-- whether an access reads, or writes, a field that passes a test, or is a Swap
abbrev pub is_read : (Field → Bool) → SharedAccess → Bool
is_read test NoAccess = false
is_read test (Read field) = test field
is_read test (Write field) = false
is_read test Swap = false
is_read test Cas = false
is_read test (ReadBehind field) = false
is_read test (WriteBehind field) = false

abbrev pub is_write : (Field → Bool) → SharedAccess → Bool
is_write test NoAccess = false
is_write test (Read field) = false
is_write test (Write field) = test field
is_write test Swap = false
is_write test Cas = false
is_write test (ReadBehind field) = false
is_write test (WriteBehind field) = false

abbrev pub is_swap : SharedAccess → Bool
is_swap NoAccess = false
is_swap (Read field) = false
is_swap (Write field) = false
is_swap Swap = true
is_swap Cas = false
is_swap (ReadBehind field) = false
is_swap (WriteBehind field) = false

-- whether a row has an access that passes a test, and which
abbrev pub accesses : (SharedAccess → Bool) → Row → Bool
accesses test row = test row.first || (test row.second || test row.third)

abbrev pub reads_field : Field → Row → Bool
reads_field field = accesses (is_read (same_field field))

abbrev pub writes_field : Field → Row → Bool
writes_field field = accesses (is_write (same_field field))

abbrev pub writes_node : Row → Bool
writes_node = accesses (is_write (λ field. true))

abbrev pub touches_node : Row → Bool
touches_node row = accesses (is_read (λ field. true)) row || writes_node row

abbrev pub swaps_tail : Row → Bool
swaps_tail = accesses is_swap
