-- What a list of accesses reads and writes in a memory, which gives the node of each number. Assumes nothing.
use mathlib.Core.Path.{◌≡◌}
use mathlib.Core.Bool.{Bool, true, false, cond}
use mathlib.Core.List.{List, [], ◌∷◌}
use lib.Dec.{eqb}
use Rattle.machine.specs.declared.NodeId.{NodeId}
use Rattle.machine.specs.declared.Node.{Node}
use Rattle.machine.specs.declared.Field.{Field}
use Rattle.machine.specs.declared.Field.TheVariants.{Req, Ret, Wait, Completed, Next}
use Rattle.machine.specs.Accesses.{Access, read, write, swap, cas}
use Rattle.machine.proofs.Rows.{field_from}

-- two nodes have the same in a field
abbrev pub SameIn : Field → Node → Node → Type 0
SameIn Req x y = x.req ≡ y.req
SameIn Ret x y = x.ret ≡ y.ret
SameIn Wait x y = x.wait ≡ y.wait
SameIn Completed x y = x.completed ≡ y.completed
SameIn Next x y = x.next ≡ y.next

-- an access finds the same in two memories; what a write finds does not matter, and Tail is no node
abbrev pub FindsSame : (NodeId → Node) → (NodeId → Node) → Access → Type 0
FindsSame memory other (read m field) = SameIn field (memory m) (other m)
FindsSame memory other (write m field) = Unit
FindsSame memory other swap = Unit
FindsSame memory other cas = Unit

-- whether one of the accesses is of Tail
abbrev pub of_tail : List Access → Bool
of_tail [] = false
of_tail (read m field ∷ accesses) = of_tail accesses
of_tail (write m field ∷ accesses) = of_tail accesses
of_tail (swap ∷ accesses) = true
of_tail (cas ∷ accesses) = true

-- node m with the fields that the accesses write into it taken from another node, y
abbrev pub written_into : NodeId → List Access → Node → Node → Node
written_into m [] y x = x
written_into m (read k field ∷ accesses) y x = written_into m accesses y x
written_into m (write k field ∷ accesses) y x = written_into m accesses y (cond (eqb k.0 m.0) (field_from field y x) x)
written_into m (swap ∷ accesses) y x = written_into m accesses y x
written_into m (cas ∷ accesses) y x = written_into m accesses y x
