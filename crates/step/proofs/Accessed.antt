-- The accesses of an entry are those of document 01's table or, by DSM-Synch, those that stand beside its line's number. Assumes a line's number.
use Rattle.std.proofs.Common.{◌≡◌, ℕ, ◌≤◌, List, [], refl, ap, ◌∙◌}
use Rattle.object.proofs.Each.{each_same}
use Rattle.machine.specs.declared.ThreadId.{ThreadId}
use Rattle.machine.specs.declared.Thread.{Thread}
use Rattle.machine.specs.declared.Node.{Node}
use Rattle.machine.specs.Accesses.{Access}
use Rattle.cc_lines.specs.Lines.{Line, printed, line_of, accesses_by, number}
use Rattle.cc_lines.specs.Said.{shared_accesses}
use Rattle.machine.specs.Lines.{beside}
use Rattle.cc_lines.proofs.Table.{as_tabled}
use Rattle.dsm_lines.specs.Lines as DsmLines
use Rattle.dsm_lines.specs.Said as DsmLinesSaid
use Rattle.dsm_lines.proofs.Numbers as DsmNumbers
use Rattle.dsm_lines.proofs.Table as DsmTable
use Rattle.state.specs.declared.State.{State}
use Rattle.step.specs.Entry.{named, line, accesses}
use Rattle.step.specs.DsmEntry as dsm
use Rattle.cc_lines.proofs.Numbers.{number_of, each_line}

-- what stands beside a line's number; beside that of a blank nothing
module _ (th : Thread) where
  abbrev said : Line → List Access
  said l = beside [] (number l) (shared_accesses th)

  line_as_tabled : (l : Line) → accesses_by th l ≡ said l
  line_as_tabled = each_line (λ l. accesses_by th l ≡ said l) (refl, each_same (accesses_by th) said printed (as_tabled th))

pub entry_as_tabled : (s : State) (t : ThreadId) → line s t ≤ 21 → accesses s t ≡ beside [] (line s t) (shared_accesses (named s t))
entry_as_tabled s t h =
    line_as_tabled (named s t) (line_of (line s t)) ∙ ap (λ (k : ℕ). beside [] k (shared_accesses (named s t))) (number_of (line s t) h)

-- the same of DSM-Synch; the node that the line points to decides what lies behind it
module _ (th : Thread) (x : Node) where
  abbrev dsm_said : DsmLines.Line → List Access
  dsm_said l = beside [] (DsmLines.number l) (DsmLinesSaid.shared_accesses th x)

  dsm_line_as_tabled : (l : DsmLines.Line) → DsmLines.accesses th x l ≡ dsm_said l
  dsm_line_as_tabled =
      DsmNumbers.each_line (λ l. DsmLines.accesses th x l ≡ dsm_said l) (refl, each_same (DsmLines.accesses th x) dsm_said DsmLines.printed (DsmTable.as_tabled th x))

pub dsm_entry_as_tabled : (s : State) (t : ThreadId) → line s t ≤ 28
    → dsm.accesses s t ≡ beside [] (line s t) (DsmLinesSaid.shared_accesses (named s t) (dsm.node s t))
dsm_entry_as_tabled s t h =
    dsm_line_as_tabled (named s t) (dsm.node s t) (dsm.runs s t)
    ∙ ap (λ (k : ℕ). beside [] k (DsmLinesSaid.shared_accesses (named s t) (dsm.node s t))) (DsmNumbers.number_of (line s t) h)
