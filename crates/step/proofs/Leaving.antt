-- What a line leaves of its thread, its node and Tail, by either method, where these are in range: the forms that lines have. Assumes what the module's parameters
-- say.
use Rattle.std.proofs.Common.{◌≡◌, ℕ, Bool, true, false, not, ◌&&◌, refl}
use mathlib.Core.Bool.{and-true}
use Rattle.object.specs.declared.Kind.{Kind}
use Rattle.machine.specs.declared.Method.{Method}
use Rattle.machine.specs.declared.NodeId.{NodeId}
use Rattle.machine.specs.declared.Node.{Node}
use Rattle.machine.specs.declared.Thread.{Thread}
use Rattle.machine.specs.Effect.{Effect}
use Rattle.machine.specs.Methods.{tail_nullable}
use Rattle.machine.specs.Threads.{goes, keeping, writing}
use Rattle.state.specs.Range.{thread_in_range}
use Rattle.state.proofs.RangeFacts.{Points, ThreadFits, NodeFits, thread_iff}

-- a test that holds exactly if another fails
opposite : (a b : Bool) → (b ≡ false → a ≡ true) → (a ≡ true → b ≡ false) → a ≡ not b
opposite a false f g = f refl
opposite false true f g = refl
opposite true true f g = g refl

-- a line that may miss something, and may be 14, leaves its thread in range exactly if it is not 14, and its count, Tail and node as they may be
pub record Leaves (m : Method) (last h : ℕ) (kind : Kind) (capacity : ℕ) (th : Thread) (misses out : Bool) (e : Effect) : Type 0 where
  pub thread : (not misses && thread_in_range m last h e.thread) ≡ not out
  pub count : e.thread.count ≡ th.count
  pub tail : Points last (tail_nullable m) e.tail
  pub node : NodeFits kind capacity last e.node

module _ (m : Method) (last h : ℕ) (kind : Kind) (capacity : ℕ) (th : Thread) (x : Node) (tail : NodeId)
    (tail_fits : Points last (tail_nullable m) tail) (x_fits : NodeFits kind capacity last x) where
  -- a thread that fits goes on, unless the line misses something
  pub goes_on : (misses out : Bool) (after : Thread) → out ≡ misses → ThreadFits m last h after after.line
      → (not misses && thread_in_range m last h after) ≡ not out
  goes_on misses out after e f = rw ((thread_iff m last h after).1 f, e) (and-true (not misses))

  -- a line that keeps the node and Tail, and one that writes the node
  pub kept : (misses out : Bool) (after : Thread) → after.count ≡ th.count → out ≡ misses → ThreadFits m last h after after.line
      → Leaves m last h kind capacity th misses out (keeping x tail after)
  kept misses out after c e f = record { thread = goes_on misses out after e f; count = c; tail = tail_fits; node = x_fits }

  pub written : (misses out : Bool) (line : ℕ) (after : Node) → NodeFits kind capacity last after → out ≡ misses → ThreadFits m last h (goes th line) line
      → Leaves m last h kind capacity th misses out (writing th tail after line)
  written misses out line after p e f = record { thread = goes_on misses out (goes th line) e f; count = refl; tail = tail_fits; node = p }

  -- a line with a cause of its own
  pub barred : (misses out : Bool) (after : Thread) (cause : Bool) → after.count ≡ th.count → misses ≡ false → out ≡ cause
      → (cause ≡ false → ThreadFits m last h after after.line) → (ThreadFits m last h after after.line → cause ≡ false)
      → Leaves m last h kind capacity th misses out (keeping x tail after)
  barred misses out after cause c u e to from =
      record {
        thread =
            rw (e, u) (opposite (thread_in_range m last h after) cause (λ b. (thread_iff m last h after).1 (to b))
            (λ b. from ((thread_iff m last h after).0 b)));
        count = c;
        tail = tail_fits;
        node = x_fits;
      }
