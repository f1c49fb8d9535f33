-- Which locations are one, and which accesses go to one location: document 02, No. 5. Assumes nothing.
use Prim.Native.Nat.{ℕ}
use mathlib.Core.Path.{◌≡◌, refl, sym, ap, ◌∙◌}
use mathlib.Core.Bool.{true, false≢true}
use mathlib.Core.List.{List, [], ◌∷◌}
use mathlib.Core.Logic.{◌↔◌}
use borrow.Author.Tests.{eqb-true, eq-eqb}
use Rattle.machine.specs.declared.NodeId.{NodeId}
use Rattle.machine.specs.Accesses.{Access, read, write, swap, cas, Location, tail, whole, same_location, located}

-- the test for one location tells exactly that
same_one : (l l' : Location) → same_location l l' ≡ true → l ≡ l'
same_one tail tail e = refl
same_one tail (whole m) e = absurd (false≢true e)
same_one (whole m) tail e = absurd (false≢true e)
same_one (whole m) (whole m') e = ap (λ (k : ℕ). whole (record { 0 = k })) (eqb-true m.0 m'.0 e)

one_same : (l : Location) → same_location l l ≡ true
one_same tail = refl
one_same (whole m) = eq-eqb m.0 m.0 refl

pub same_exactly : (l l' : Location) → (same_location l l' ≡ true) ↔ (l ≡ l')
same_exactly l l' = (same_one l l', λ e. rw (sym e) (one_same l))

-- the node of an access, of a Swap or a CAS none
abbrev pub its_node : Access → List NodeId
its_node (read node field) = node ∷ []
its_node (write node field) = node ∷ []
its_node swap = []
its_node cas = []

-- the node of a location, of Tail none; and the location of a node, or of none
abbrev node_at : Location → List NodeId
node_at tail = []
node_at (whole node) = node ∷ []

abbrev location_of : List NodeId → Location
location_of [] = tail
location_of (node ∷ nodes) = whole node

node_at_lem : (a : Access) → node_at (located a) ≡ its_node a
node_at_lem (read node field) = refl
node_at_lem (write node field) = refl
node_at_lem swap = refl
node_at_lem cas = refl

location_at : (a : Access) → location_of (its_node a) ≡ located a
location_at (read node field) = refl
location_at (write node field) = refl
location_at swap = refl
location_at cas = refl

-- two accesses go to one location exactly if they are of one node, whatever their fields, or both of Tail
pub one_location : (a b : Access) → (located a ≡ located b) ↔ (its_node a ≡ its_node b)
one_location a b = (
  λ e. sym (node_at_lem a) ∙ ap node_at e ∙ node_at_lem b,
  λ e. sym (location_at a) ∙ ap location_of e ∙ location_at b,
)
