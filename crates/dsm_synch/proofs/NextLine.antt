-- A thread's next line is the one that follows: no line names it by itself, and an entry is a spin exactly if its thread stays. Assumes nothing.
use Prim.Native.Nat.{ℕ}
use mathlib.Core.Path.{◌≡◌, refl}
use mathlib.Core.List.{map}
use lib.Dec.{eqb}
use Rattle.object.specs.declared.Request.{Request}
use Rattle.object.specs.declared.Answer.{Answer}
use Rattle.object.specs.Each.{Each}
use Rattle.machine.specs.declared.NodeId.{NodeId}
use Rattle.machine.specs.declared.Node.{Node}
use Rattle.machine.specs.declared.Thread.{Thread}
use Rattle.machine.specs.declared.Event.TheVariants.{Spins}
use Rattle.machine.specs.Events.{same_event}
use Rattle.machine.specs.Threads.{with_line}
use Rattle.dsm_lines.specs.Lines.{Line, printed, number, event_in, empties}
use Rattle.dsm_lines.proofs.Follows.{spin_follows}
use Rattle.dsm_synch.specs.Effect.{line_does, executed}

-- no printed line names the line that follows: whichever it is given, it leaves its thread there, and does the same in all else
pub names_no_line : (t : ℕ) (th : Thread) (x y : Node) (tail : NodeId) (request : Request) (answer : Answer) (on other : ℕ)
    → map (line_does t th x y tail request answer on) printed ≡ map (λ l. with_line on (line_does t th x y tail request answer other l)) printed
names_no_line t th x y tail request answer on other = refl

-- of the printed lines, one after the other, an entry is a spin exactly if its thread's next line is the same
module _ (t : ℕ) (th : Thread) (x y : Node) (tail : NodeId) (h : ℕ) (request : Request) (answer : Answer) where
  abbrev pub SpinStays : Line → Type 0
  SpinStays l = same_event (event_in x (empties tail th.tmp) l) Spins ≡ eqb (executed t th x y tail h request answer l).thread.line (number l)

  pub spin_stays : Each SpinStays printed
  spin_stays = spin_follows x y th.pred (empties tail th.tmp) th.served h
