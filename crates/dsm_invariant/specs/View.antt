-- What one entry of DSM-Synch does to a machine seen as functions: what its line does, by Algorithm 2.
use Rattle.std.specs.Prelude.{ℕ, ◌<◌, ◌≡◌, Bool, false}
use Rattle.object.specs.declared.Request.{Request}
use Rattle.object.specs.declared.Answer.{Answer}
use Rattle.machine.specs.declared.Node.{Node}
use Rattle.machine.specs.Effect.{Effect}
use Rattle.machine.specs.declared.Event.{Event}
use Rattle.machine.specs.Lines.{stands_at}
use Rattle.dsm_lines.specs.Lines.{Line, number, empties, pointed, target, event_in}
use Rattle.dsm_synch.specs.Effect.{meets_null, executed}
use Rattle.invariant.specs.View.{View}

-- whether thread t's CAS, at line 23, succeeds
abbrev pub emptied : View → ℕ → Bool
emptied v t = empties v.tail (v.thread t).tmp

module _ (v : View) (t : ℕ) (l : Line) where
  -- the node that thread t's line points to, and the one behind it
  abbrev pub first : Node
  first = v.node (pointed (v.thread t) l).0

  abbrev pub behind : Node
  behind = v.node first.next.0

  -- the number of the node that it writes
  abbrev pub goal : ℕ
  goal = (target (v.thread t) first l).0

  -- what its entry is
  abbrev pub event_at : Event
  event_at = event_in first (emptied v t) l

  -- what the line does, by Algorithm 2
  abbrev pub does : ℕ → Request → Answer → Effect
  does h request answer = executed t (v.thread t) first behind v.tail h request answer l

-- thread t of n runs line l, which meets no null, and v becomes v'
pub record Does (n h : ℕ) (v v' : View) (t : ℕ) (l : Line) (request : Request) (answer : Answer) : Type 0 where
  pub below : t < n
  pub stands : (v.thread t).line ≡ stands_at (number l)
  pub fine : meets_null (v.thread t) (first v t l) (number l) ≡ false
  pub mine : v'.thread t ≡ (does v t l h request answer).thread
  pub others : (u : ℕ) → (u ≡ t → ⊥) → v'.thread u ≡ v.thread u
  pub there : v'.node (goal v t l) ≡ (does v t l h request answer).node
  pub elsewhere : (m : ℕ) → (m ≡ goal v t l → ⊥) → v'.node m ≡ v.node m
  pub tail : v'.tail ≡ (does v t l h request answer).tail
