-- A machine seen as functions: its threads, its nodes and Tail.
-- What one entry does to it is what its line does, by Algorithm 1.
use Rattle.std.specs.Prelude.{ℕ, ◌<◌, ◌≡◌, get_or}
use Rattle.object.specs.declared.Request.{Request}
use Rattle.object.specs.declared.Answer.{Answer}
use Rattle.machine.specs.declared.NodeId.{NodeId}
use Rattle.machine.specs.declared.Node.{Node}
use Rattle.machine.specs.declared.Thread.{Thread}
use Rattle.machine.specs.Effect.{Effect}
use Rattle.machine.specs.Accesses.{pointed}
use Rattle.cc_lines.specs.Lines.{Line, row_of, number}
use Rattle.cc_synch.specs.Effect.{executed}
use Rattle.state.specs.declared.State.{State}
use Rattle.step.specs.Entry.{zero_thread, zero_node}
use Rattle.machine.specs.Lines.{stands_at}

-- threads and nodes by number, and Tail
pub record View : Type 0 where
  pub thread : ℕ → Thread
  pub node : ℕ → Node
  pub tail : NodeId

-- the view of a state
abbrev pub view_of : State → View
view_of s = record { thread = λ u. get_or s.threads u zero_thread; node = λ m. get_or s.nodes m zero_node; tail = s.tail }

module _ (v : View) (t : ℕ) (l : Line) where
  -- the node that thread t's line points to
  abbrev pub goal : ℕ
  goal = (pointed (row_of l).node (v.thread t)).0

  -- what the line does, by Algorithm 1
  abbrev pub does : ℕ → Request → Answer → Effect
  does h request answer = executed (v.thread t) (v.node goal) v.tail h request answer l

-- thread t of n runs line l, and v becomes v'
pub record Does (n h : ℕ) (v v' : View) (t : ℕ) (l : Line) (request : Request) (answer : Answer) : Type 0 where
  pub below : t < n
  pub stands : (v.thread t).line ≡ stands_at (number l)
  pub mine : v'.thread t ≡ (does v t l h request answer).thread
  pub others : (u : ℕ) → (u ≡ t → ⊥) → v'.thread u ≡ v.thread u
  pub there : v'.node (goal v t l) ≡ (does v t l h request answer).node
  pub elsewhere : (m : ℕ) → (m ≡ goal v t l → ⊥) → v'.node m ≡ v.node m
  pub tail : v'.tail ≡ (does v t l h request answer).tail
