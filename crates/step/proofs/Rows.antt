-- What a line's row says of it, and what `run_line` answers for it, by the method: what the definitions line by line say. Assumes what the laws' premises say.
use Rattle.std.proofs.Common.{◌≡◌, ℕ, ◌<◌, ◌≤◌, true, false, cond, eqb, refl}
use Rattle.object.specs.declared.Request.{Request}
use Rattle.object.specs.declared.Answer.{Answer}
use Rattle.machine.specs.declared.Method.{Method}
use Rattle.machine.specs.declared.Method.TheVariants.{CcSynch, DsmSynch}
use Rattle.machine.specs.declared.NodeId.{NodeId}
use Rattle.machine.specs.declared.Node.{Node}
use Rattle.machine.specs.declared.Thread.{Thread}
use Rattle.machine.specs.Accesses.{pointed, accesses_of, writes_any, written_of}
use Rattle.machine.specs.Events.{event_found}
use Rattle.machine.specs.Lines.{line_run}
use Rattle.cc_lines.specs.Lines as CcLines
use Rattle.cc_lines.proofs.Numbers as CcNumbers
use Rattle.cc_lines.proofs.Table as CcTable
use Rattle.cc_synch.specs.Effect as CcEffect
use Rattle.cc_synch.proofs.Refusal as CcRefusal
use Rattle.dsm_lines.specs.Lines as DsmLines
use Rattle.dsm_lines.specs.Rows as DsmRows
use Rattle.dsm_lines.proofs.Numbers as DsmNumbers
use Rattle.dsm_lines.proofs.Rows as DsmTable
use Rattle.dsm_synch.specs.Effect as DsmEffect
use Rattle.dsm_synch.proofs.Refusal as DsmRefusal
use Rattle.methods.specs.Methods.{row_by}
use Rattle.methods.specs.Methods as methods
use Rattle.step.specs.ByMethod.{line_points, line_writes, line_accesses, line_event, line_done, line_out}

-- the node that the line points to
pub row_points : (m : Method) (th : Thread) (k : ℕ) → pointed (row_by m k).node th ≡ line_points m th k
row_points CcSynch th k = refl
row_points DsmSynch th k = DsmTable.row_points th (DsmLines.line_of k)

-- its accesses, the node that it writes, and what an entry of it is, where x is the node that it points to
pub row_accesses : (m : Method) (th : Thread) (x : Node) (k : ℕ) → accesses_of (row_by m k) (line_points m th k) x.next ≡ line_accesses m th x k
row_accesses CcSynch th x k = CcTable.behind_unread (CcLines.line_of k) (line_points CcSynch th k) x.next
row_accesses DsmSynch th x k = DsmTable.row_accesses x th (DsmLines.line_of k)

pub row_writes_lem : (m : Method) (th : Thread) (x : Node) (k : ℕ) → written_of (row_by m k) (line_points m th k) x.next ≡ line_writes m th x k
row_writes_lem CcSynch th x k = CcTable.written_is_pointed (CcLines.line_of k) (line_points CcSynch th k) x.next
row_writes_lem DsmSynch th x k = DsmTable.row_writes_lem x th (DsmLines.line_of k)

pub row_event : (m : Method) (th : Thread) (x : Node) (tail : NodeId) (k : ℕ) → event_found (row_by m k) x (eqb tail.0 th.tmp.0) ≡ line_event m th x tail k
row_event CcSynch th x tail k = CcTable.event_found_lem (CcLines.line_of k) x (eqb tail.0 th.tmp.0)
row_event DsmSynch th x tail k = DsmTable.event_found_lem x (DsmLines.empties tail th.tmp) (DsmLines.line_of k)

-- one of 16 threads of DSM-Synch with a toggle of 0 or 1 has its two nodes
abbrev pub HasNodes : Method → ℕ → Thread → Type 0
HasNodes CcSynch t th = Unit
HasNodes DsmSynch t th = (t < 16) × (th.toggle ≤ 1)

module _ (t : ℕ) (th : Thread) (x y : Node) (tail : NodeId) (h : ℕ) (request : Request) (answer : Answer) where
  -- a line whose row writes no node leaves the one that it points to, which then stands for the node that it writes
  pub row_leaves : (m : Method) (k : ℕ) → writes_any (row_by m k) ≡ false
      → (line_writes m th x k ≡ line_points m th k) × ((line_done m t th x y tail h request answer k).node ≡ x)
  row_leaves CcSynch k none = (
    refl,
    rw none at (CcNumbers.agree (λ l. cond (writes_any (CcLines.row_of l)) x (CcEffect.executed th x tail h request answer l).node) (λ l. x) refl refl (CcLines.line_of k)),
  )
  row_leaves DsmSynch k none = (
    rw none at (DsmNumbers.agree (λ l. cond (writes_any (DsmRows.row_of l)) (DsmLines.pointed th l) (DsmLines.target th x l)) (DsmLines.pointed th) refl refl (DsmLines.line_of k)),
    rw none at (DsmNumbers.agree (λ l. cond (writes_any (DsmRows.row_of l)) x (DsmEffect.executed t th x y tail h request answer l).node) (λ l. x) refl refl (DsmLines.line_of k)),
  )

  -- a line that is not 14 for a cause of its own is done
  pub goes_ahead : (m : Method) → HasNodes m t th → line_out m th x h (line_run th) ≡ false
      → methods.effect_by m t th x y tail h request answer ≡ line_done m t th x y tail h request answer (line_run th)
  goes_ahead CcSynch has = CcRefusal.goes_ahead th x tail h request answer
  goes_ahead DsmSynch has = DsmRefusal.goes_ahead t th x y tail h request answer has.0 has.1

  -- and so is one that is not refused; one that is refused is 14
  pub goes_through : (m : Method) → HasNodes m t th → (methods.effect_by m t th x y tail h request answer).refusal ≡ 0
      → (line_out m th x h (line_run th) ≡ false) × (methods.effect_by m t th x y tail h request answer ≡ line_done m t th x y tail h request answer (line_run th))
  goes_through CcSynch has = CcRefusal.goes_through th x tail h request answer
  goes_through DsmSynch has = DsmRefusal.goes_through t th x y tail h request answer has.0 has.1

  pub refused_out : (m : Method) → HasNodes m t th → ((methods.effect_by m t th x y tail h request answer).refusal ≡ 0 → ⊥) → line_out m th x h (line_run th) ≡ true
  refused_out CcSynch has = CcRefusal.refused_out th x tail h request answer
  refused_out DsmSynch has = DsmRefusal.refused_out t th x y tail h request answer has.0 has.1

  -- and has that number
  pub refused_14 : (m : Method) → ((methods.effect_by m t th x y tail h request answer).refusal ≡ 0 → ⊥) → (methods.effect_by m t th x y tail h request answer).refusal ≡ 14
  refused_14 CcSynch = CcRefusal.refused_14 th x tail h request answer
  refused_14 DsmSynch = DsmRefusal.refused_14 t th x y tail h request answer
