-- What a Swap gives and what it puts in. Assumes nothing.
use Prim.Native.Nat.{ℕ}
use mathlib.Core.Path.{◌≡◌, refl}
use Rattle.object.specs.declared.Request.{Request}
use Rattle.object.specs.declared.Answer.{Answer}
use Rattle.machine.specs.declared.NodeId.{NodeId}
use Rattle.machine.specs.declared.Node.{Node}
use Rattle.machine.specs.declared.Thread.{Thread}
use Rattle.dsm_lines.specs.Lines.{L7}
use Rattle.dsm_synch.specs.Effect.{assigned, executed}

-- a Swap gives Tail into myPredNode, and Tail then points to the node that it assigns
pub swaps_in : (t : ℕ) (th : Thread) (x y : Node) (tail : NodeId) (h : ℕ) (request : Request) (answer : Answer)
    → let after = executed t th x y tail h request answer L7 in (after.thread.pred ≡ tail) × (after.tail ≡ assigned th tail)
swaps_in t th x y tail h request answer = (refl, refl)
