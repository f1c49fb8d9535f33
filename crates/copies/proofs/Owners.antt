-- Which accesses are remote by DSM-Synch: "Tail is remote to everyone; a node is remote to all but its owner", document 02, No. 6. Assumes nothing.
use Prim.Native.Nat.{ℕ}
use mathlib.Core.Path.{◌≡◌, refl, ap}
use mathlib.Core.Bool.{Bool, cond}
use mathlib.Core.List.{List}
use Rattle.machine.specs.declared.Method.TheVariants.{DsmSynch}
use Rattle.machine.specs.Accesses.{Access, Location, tail, whole, located}
use Rattle.machine.specs.Owners.{its_own}
use Rattle.machine.proofs.Owners.{owned_exactly}
use Rattle.copies.specs.Remote.{owns, remote_by}

-- a thread owns no location but its two nodes
pub owns_two : (t : ℕ) (l : Location) → owns t l ≡ its_own t l
owns_two t tail = refl
owns_two t (whole node) = owned_exactly t node

pub remote_unless_own : (copies : List ℕ) (t : ℕ) (a : Access) → remote_by DsmSynch copies t a ≡ cond (its_own t (located a)) 0 1
remote_unless_own copies t a = ap (λ (own : Bool). cond own 0 1) (owns_two t (located a))
