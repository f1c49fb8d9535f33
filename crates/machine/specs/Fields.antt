-- The fields of a node: their numbers, one of them written, those that may be empty, and null.
use Rattle.std.specs.Prelude.{ℕ, Bool, not, eqb, Option, Some, is_some}
use Rattle.object.specs.declared.Request.{Request}
use Rattle.object.specs.declared.Answer.{Answer}
use Rattle.machine.specs.declared.NodeId.{NodeId}
use Rattle.machine.specs.declared.Node.{Node}
use Rattle.machine.specs.declared.Field.{Field}
use Rattle.machine.specs.declared.Field.TheVariants.{Req, Ret, Wait, Completed, Next}

-- null is no node's number
abbrev pub null : NodeId
null = record { 0 = 255 }

abbrev pub is_null : NodeId → Bool
is_null m = eqb m.0 255

-- whether a req is empty, and a ret
abbrev pub is_empty_req : Option Request → Bool
is_empty_req req = not (is_some req)

abbrev pub is_empty_ret : Option Answer → Bool
is_empty_ret ret = not (is_some ret)

-- the number of a field, and whether two are one
abbrev pub field_number : Field → ℕ
field_number Req = 0
field_number Ret = 1
field_number Wait = 2
field_number Completed = 3
field_number Next = 4

abbrev pub same_field : Field → Field → Bool
same_field a b = eqb (field_number a) (field_number b)

-- a node with one field written
module _ (x : Node) where
  abbrev pub with_req : Request → Node
  with_req request = record { req = Some request; ret = x.ret; wait = x.wait; completed = x.completed; next = x.next }

  abbrev pub with_ret : Answer → Node
  with_ret answer = record { req = x.req; ret = Some answer; wait = x.wait; completed = x.completed; next = x.next }

  abbrev pub with_wait : Bool → Node
  with_wait wait = record { req = x.req; ret = x.ret; wait = wait; completed = x.completed; next = x.next }

  abbrev pub with_completed : Bool → Node
  with_completed completed = record { req = x.req; ret = x.ret; wait = x.wait; completed = completed; next = x.next }

  abbrev pub with_next : NodeId → Node
  with_next next = record { req = x.req; ret = x.ret; wait = x.wait; completed = x.completed; next = next }
