-- The entries that change nothing but a count, a blank and a spin that makes no remote reference: the arrays of a run stay as they are. Assumes the invariant of a
-- file's run.
use Prim.Native.Nat.{ℕ, ◌+◌, ◌^◌, ◌<◌, ◌≤◌}
use native.Mathlib.Nat.{add-zero, mod-eq_of_lt}
use native.Mathlib.Omega.{arith}
use mathlib.Core.Path.{◌≡◌, refl, sym, ap, subst, ◌∙◌}
use mathlib.Core.Bool.{Bool, true, false, cond, ◌&&◌, and-eq-true_iff}
use mathlib.Core.List.{List, [], ◌∷◌}
use lib.ListN.{length, get_or, set}
use lib.Seq.{set-get_or}
use Rattle.object.specs.declared.Kind.{Kind}
use Rattle.object.specs.declared.Request.{Request}
use Rattle.object.specs.declared.Answer.{Answer}
use Rattle.machine.specs.declared.Field.TheVariants.{Wait}
use Rattle.machine.specs.declared.Event.{Event}
use Rattle.machine.specs.declared.Event.TheVariants.{Blank, CallBegins, Swaps, TurnBegins, Applies, Returns, Spins}
use Rattle.machine.specs.declared.NodeId.{NodeId}
use Rattle.machine.specs.declared.Node.{Node}
use Rattle.machine.specs.declared.Thread.{Thread}
use Rattle.machine.specs.declared.Row.{Row}
use Rattle.machine.specs.declared.Method.{Method}
use Rattle.machine.specs.declared.Method.TheVariants.{CcSynch, DsmSynch}
use Rattle.machine.specs.declared.ThreadId.{ThreadId}
use Rattle.machine.specs.Accesses.{read, whole}
use Rattle.machine.specs.Events.{same_event}
use Rattle.machine.specs.Methods.{last_line}
use Rattle.machine.specs.Threads.{keeping}
use Rattle.cc_lines.specs.Lines as CcLines
use Rattle.cc_lines.proofs.Numbers as CcNumbers
use Rattle.dsm_lines.specs.Lines as DsmLines
use Rattle.dsm_lines.specs.Rows as DsmRows
use Rattle.dsm_lines.proofs.Numbers as DsmNumbers
use Rattle.methods.specs.Methods.{row_by, spin_line, spin_node}
use Rattle.copies.specs.Remote.{Referred, at_hand_by, at_hand, referred_by}
use Rattle.copies.specs.Remote.{place as copy_place}
use Rattle.state.specs.declared.Counts.{Counts}
use Rattle.state.specs.declared.State.{State}
use Rattle.state.specs.Range.{counts_in_range}
use Rattle.state.proofs.RangeFacts.{CountsFit, counts_iff}
use Rattle.step.specs.Entry.{zero_thread, zero_node, named, line, request, more_of, plus}
use Rattle.step.specs.ByMethod.{line_points, line_writes, line_accesses, line_event, line_done, line_meets_null, points_to_by, node_by, behind_by, applied_by, entered_by, null_met_by}
use Rattle.history.specs.Entries.{thread_id, remote_in}
use Rattle.history.proofs.Sums.{cost_fits}
use Rattle.claims.specs.Entries.{entry_by}
use Rattle.claims.proofs.Counted.{next_fits}
use Rattle.kept.specs.declared.Kept.{Kept}
use Rattle.kept.specs.Kept.{call_at, unkept, after_entry}
use Rattle.runner.proofs.Invariant.{remote_of_lem}
use Rattle.runner.proofs.Running.{Running, few, call_below, running_next, changed, Looping, looping_on}
use Rattle.runner.proofs.Tables.{place, served, entered_calls, served_calls}

-- what is noted in no array of a run
pub record Unnoted (event : Event) : Type 0 where
  pub no_swap : same_event event Swaps ≡ false
  pub no_turn : same_event event TurnBegins ≡ false
  pub no_serving : same_event event Applies ≡ false
  pub no_begin : same_event event CallBegins ≡ false
  pub no_return : same_event event Returns ≡ false

-- a state with other counts
abbrev pub counting : State → Counts → State
counting s counts = changed s s.object s.nodes counts

-- an entry that changes nothing but the counts: they are these after it
pub record Quiet (m : Method) (s : State) (t : ThreadId) (counts : Counts) : Type 0 where
  pub fine : null_met_by m s t ≡ false
  pub unnoted : Unnoted (entry_by m s t).event
  pub silent : remote_in (entry_by m s t).remote ≡ 0
  pub entered : entered_by m s t ≡ counting s counts

-- line k of a thread leaves its thread, the node that it points to and Tail, and makes no remote reference
pub record Leaves (m : Method) (n t : ℕ) (th : Thread) (x : Node) (tail : NodeId) (h : ℕ) (copies : List ℕ) (event : Event) (k : ℕ) : Type 0 where
  pub told : line_event m th x tail k ≡ event
  pub done : (y : Node) (request : Request) (answer : Answer) → line_done m t th x y tail h request answer k ≡ keeping x tail th
  pub written : line_writes m th x k ≡ line_points m th k
  pub silent : referred_by m n t copies (line_accesses m th x k) ≡ record { remote = 0; copies = copies }
  pub fine : line_meets_null m th x k ≡ false

quiet_by : (m : Method) (s : State) (t : ThreadId) {counts : Counts} (event : Event) → Unnoted event
    → Leaves m s.n t.0 (named s t) (node_by m s t) s.tail s.h s.copies event (line s t) → plus s.counts (more_of event 0) ≡ counts → Quiet m s t counts
quiet_by m s t event unnoted left counted = record {
  fine = left.fine;
  unnoted = rw left.told unnoted;
  silent = sym (remote_of_lem m s t) ∙ ap (λ (r : Referred). r.remote) left.silent;
  entered =
      let threads = set-get_or s.threads t.0 zero_thread in
      let nodes = set-get_or s.nodes (points_to_by m s t).0 zero_node in
      rw (left.done (behind_by m s t) (request s t) (applied_by m s t).answer, left.written, left.silent, left.told, unnoted.no_serving, counted, threads, nodes);
}

-- only the row of no printed line is a blank's
blank_number : (m : Method) (k : ℕ) → k ≤ last_line m → same_event (row_by m k).event Blank ≡ true → k ≡ 0
blank_number CcSynch k few blank =
    sym (CcNumbers.number_of k few)
    ∙ rw blank at (CcNumbers.each_line (λ (l : CcLines.Line). cond (same_event (CcLines.row_of l).event Blank) (CcLines.number l) 0 ≡ 0) (omega arith) (CcLines.line_of k))
blank_number DsmSynch k few blank =
    sym (DsmNumbers.number_of k few)
    ∙ rw blank at (DsmNumbers.each_line (λ (l : DsmLines.Line). cond (same_event (DsmRows.row_of l).event Blank) (DsmLines.number l) 0 ≡ 0) (omega arith) (DsmLines.line_of k))

module _ (n t : ℕ) (th : Thread) (x : Node) (tail : NodeId) (h : ℕ) (copies : List ℕ) where
  blank_leaves : (m : Method) → Leaves m n t th x tail h copies Blank 0
  blank_leaves CcSynch = record { told = refl; done = λ y request answer. refl; written = refl; silent = refl; fine = refl }
  blank_leaves DsmSynch = record { told = refl; done = λ y request answer. refl; written = refl; silent = refl; fine = refl }

  -- a read by a thread that has the node at hand makes no remote reference and leaves the copies as they are
  held_read : (m : Method) (node : NodeId) → at_hand m copies t (whole node) ≡ true → referred_by m n t copies (read node Wait ∷ []) ≡ record { remote = 0; copies = copies }
  held_read CcSynch node held = rw (held, add-zero, set-get_or)
  held_read DsmSynch node held = rw (held, add-zero)

  -- the line at which a thread waits, where it finds wait true at a node that it has at hand
  spin_leaves : (m : Method) → th.line ≡ spin_line m → x.wait ≡ true → at_hand m copies t (whole (spin_node m th.cur th.my)) ≡ true
      → Leaves m n t th x tail h copies Spins (spin_line m)
  spin_leaves CcSynch stands waits held = record {
    told = rw waits;
    done = λ y request answer. rw (waits, ← stands);
    written = refl;
    silent = held_read CcSynch th.cur held;
    fine = refl;
  }
  spin_leaves DsmSynch stands waits held = record {
    told = rw waits;
    done = λ y request answer. rw (waits, ← stands);
    written = refl;
    silent = held_read DsmSynch th.my held;
    fine = refl;
  }

-- a blank adds one to the blanks
abbrev pub blank_more : Counts → Counts
blank_more c = record { records = c.records; turns = c.turns; blanks = c.blanks + 1; spins = c.spins; remote = c.remote }

pub blank_quiet : (m : Method) (s : State) (t : ThreadId) → line s t ≤ last_line m → same_event (row_by m (line s t)).event Blank ≡ true → Quiet m s t (blank_more s.counts)
blank_quiet m s t few blank =
    quiet_by m s t Blank (record { no_swap = refl; no_turn = refl; no_serving = refl; no_begin = refl; no_return = refl })
    (subst (Leaves m s.n t.0 (named s t) (node_by m s t) s.tail s.h s.copies Blank) (sym (blank_number m (line s t) few blank))
    (blank_leaves s.n t.0 (named s t) (node_by m s t) s.tail s.h s.copies m))
    (simp add-zero)

-- a thread that stands at the line at which it waits runs it, and points to the node whose wait it reads
pub waits_at : (m : Method) (s : State) (t : ThreadId) → (named s t).line ≡ spin_line m → line s t ≡ spin_line m
waits_at CcSynch s t stands = rw stands
waits_at DsmSynch s t stands = rw stands

waits_there : (m : Method) (th : Thread) → line_points m th (spin_line m) ≡ spin_node m th.cur th.my
waits_there CcSynch th = refl
waits_there DsmSynch th = refl

-- a spin adds one to the spins
abbrev pub spin_more : Counts → Counts
spin_more c = record { records = c.records; turns = c.turns; blanks = c.blanks; spins = c.spins + 1; remote = c.remote }

-- as the tests for it say, of the node and its place among the copies
pub spin_quiet : (m : Method) (s : State) (t : ThreadId) {at : ℕ} {node : NodeId} (has : Bool) → (named s t).line ≡ spin_line m → node ≡ spin_node m (named s t).cur (named s t).my
    → at ≡ copy_place (whole node) → has ≡ at_hand_by m (get_or s.copies at 0) t.0 (whole node) → ((get_or s.nodes node.0 zero_node).wait && has) ≡ true
    → Quiet m s t (spin_more s.counts)
spin_quiet m s t {at} {node} has stands is placed hand both =
    let found = (and-eq-true_iff (get_or s.nodes node.0 zero_node).wait has).0 both in
    let runs = waits_at m s t stands in
    let there : points_to_by m s t ≡ node = ap (line_points m (named s t)) runs ∙ waits_there m (named s t) ∙ sym is in
    let waits : (node_by m s t).wait ≡ true = ap (λ (p : NodeId). (get_or s.nodes p.0 zero_node).wait) there ∙ found.0 in
    let held : at_hand m s.copies t.0 (whole (spin_node m (named s t).cur (named s t).my)) ≡ true = rw (← is) (rw (hand, placed) at found.1) in
    quiet_by m s t Spins (record { no_swap = refl; no_turn = refl; no_serving = refl; no_begin = refl; no_return = refl })
    (subst (Leaves m s.n t.0 (named s t) (node_by m s t) s.tail s.h s.copies Spins) (sym runs)
    (spin_leaves s.n t.0 (named s t) (node_by m s t) s.tail s.h s.copies m stands waits held))
    (simp add-zero)

-- what is kept of the call stays where no reference is remote and the call neither begins nor returns
kept_same : {event : Event} {remote : ℕ} (number : ℕ) (kept : Kept) → Unnoted event → remote ≡ 0 → kept.remote < 2 ^ 32
    → after_entry kept event remote number ≡ kept
kept_same number kept u none fits = rw (none, add-zero, mod-eq_of_lt fits, u.no_begin, u.no_return)

module _ {bytes : List ℕ} {start : State} {method : Method} {rows : List Row} {spin n h capacity i : ℕ} {kind : Kind} {s : State} {kept : List Kept} {order given turns : List ℕ} {counts : Counts}
    (x : Looping bytes start method rows spin n h kind capacity i s kept order given turns) (inside : i < length bytes) (q : Quiet method s (thread_id (get_or bytes i 0)) counts) where
  abbrev t : ThreadId
  t = thread_id (get_or bytes i 0)

  abbrev run : Running method x.file bytes i s kept order given turns
  run = x.running

  short : length run.past < 32768
  short = few method x.file bytes x.fits run inside

  -- no count wraps
  pub counts_fit : CountsFit counts
  counts_fit =
      (counts_iff counts).0 (ap counts_in_range (sym (ap (λ (s : State). s.counts) q.entered)) ∙ next_fits method s run.past t run.standing.going.counted short)

  -- what is kept of the call has its remote references in 32 bits
  remote_fits : (get_or kept (place method s t) unkept).remote < 2 ^ 32
  remote_fits =
      rw (run.tables.calls (place method s t) (call_below method x.file bytes x.fits run inside q.fine))
      (cost_fits run.past run.standing.going.counted.few (omega (arith, short)) (call_at (place method s t)))

  calls_same : served_calls method s t unkept given turns (entered_calls method s t (length run.past) unkept kept) ≡ kept
  calls_same =
      let own = place method s t in
      let their = served method s t given in
      let kept' = entered_calls method s t (length run.past) unkept kept in
      ap (set kept' their) (rw q.unnoted.no_serving) ∙ set-get_or kept' their unkept
      ∙ ap (set kept own) (kept_same (length run.past) (get_or kept own unkept) q.unnoted q.silent remote_fits) ∙ set-get_or kept own unkept

  -- one more quiet entry
  pub looping_quiet : Looping bytes start method rows spin n h kind capacity (i + 1) (counting s counts) kept order given turns
  looping_quiet =
      looping_on x refl refl refl refl inside
      (rw (q.entered, calls_same, q.unnoted.no_swap, q.unnoted.no_turn) at (running_next method x.file bytes x.fits run inside q.fine unkept))
