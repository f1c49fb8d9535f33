-- A thread's next line is the one that follows: no line names it by itself, and an entry is a spin exactly if its thread stays. Assumes nothing.
use Rattle.std.proofs.Common.{◌≡◌, ℕ, eqb, map, refl}
use Rattle.object.specs.declared.Request.{Request}
use Rattle.object.specs.declared.Answer.{Answer}
use Rattle.object.specs.Each.{Each}
use Rattle.machine.specs.declared.NodeId.{NodeId}
use Rattle.machine.specs.declared.Node.{Node}
use Rattle.machine.specs.declared.Thread.{Thread}
use Rattle.machine.specs.declared.Event.TheVariants.{Spins}
use Rattle.machine.specs.Events.{same_event}
use Rattle.machine.specs.Lines.{up_from}
use Rattle.machine.specs.Threads.{with_line}
use Rattle.cc_lines.specs.Lines.{printed, line_of, row_of, event_in}
use Rattle.cc_lines.proofs.Follows.{spin_follows}
use Rattle.cc_synch.specs.Effect.{line_does, executed}

-- no printed line names the line that follows: whichever it is given, it leaves its thread there, and does the same in all else
pub names_no_line : (th : Thread) (x : Node) (tail : NodeId) (request : Request) (answer : Answer) (on other : ℕ)
    → map (line_does th x tail request answer on) printed ≡ map (λ l. with_line on (line_does th x tail request answer other l)) printed
names_no_line th x tail request answer on other = refl

-- document 01: "read wait; true: stay at 9 (a *spin*), false: go to 10"; of the printed lines, one after the other, an entry is a spin exactly if its thread's
-- next line is the same
module _ (th : Thread) (x : Node) (tail : NodeId) (h : ℕ) (request : Request) (answer : Answer) where
  abbrev pub SpinStays : ℕ → Type 0
  SpinStays k = same_event (event_in (row_of (line_of k)).event x) Spins ≡ eqb (executed th x tail h request answer (line_of k)).thread.line k

  pub spin_stays : Each SpinStays (up_from 1 21)
  spin_stays = spin_follows x th.served h
