-- The whole invariant of a file's run by CC-Synch, layer on layer, and that every entry keeps it. Assumes fields in range.
use Prim.Native.Nat.{ℕ, ◌+◌, ◌≤◌, ◌<◌}
use native.Mathlib.Omega.{arith}
use mathlib.Core.Path.{◌≡◌, refl, sym, ap, subst, ◌∙◌}
use mathlib.Core.Bool.{Bool, true, false, cond}
use mathlib.Core.List.{List, ◌∷◌}
use lib.ListN.{length, get_or}
use lib.Dec.{eqb}
use borrow.Author.Tests.{ne_eqb}
use Rattle.std.specs.Prelude.{Some}
use Rattle.object.specs.declared.Request.{Request}
use Rattle.object.specs.declared.Request.TheVariants.{Put}
use Rattle.object.specs.declared.Answer.{Answer}
use Rattle.object.specs.declared.Object.{Object}
use Rattle.object.specs.Apply.{Applied}
use Rattle.object.proofs.Choice.{by_equal}
use Rattle.bench_file.specs.Layout.{Fields}
use Rattle.bench_file.specs.Bytes.{InRange}
use Rattle.machine.specs.declared.Method.TheVariants.{CcSynch}
use Rattle.machine.specs.declared.ThreadId.{ThreadId}
use Rattle.machine.specs.declared.Event.TheVariants.{Blank, CallBegins, Swaps, Applies, Returns}
use Rattle.machine.specs.Events.{same_event}
use Rattle.machine.specs.Sizes.{most_locations}
use Rattle.cc_lines.specs.Lines.{Line, line_of, number}
use Rattle.cc_lines.proofs.Events.{by_row}
use Rattle.cc_synch.specs.Effect.{takes_out}
use Rattle.state.specs.declared.State.{State}
use Rattle.state.specs.Range.{req_in_range}
use Rattle.state.proofs.RangeFacts.{state_fits}
use Rattle.step.specs.Entry.{named, line, row, node, request, applied, references, entered}
use Rattle.step.proofs.Outcome.{node_fits, begun_few}
use Rattle.cc_lines.proofs.Numbers.{by_last}
use Rattle.step.proofs.Soundness.{Sound}
use Rattle.invariant.specs.Ledger.{Ledger, noted, upd}
use Rattle.invariant.specs.View.{view_of, Does}
use Rattle.invariant.specs.Control.{Control}
use Rattle.invariant.specs.Remote.{Remote}
use Rattle.invariant.specs.Serving.{open_request, grown}
use Rattle.invariant.specs.Data.{Data, applied_by}
use Rattle.invariant.proofs.Bridge.{does_of, number_line, runs_it}
use Rattle.invariant.proofs.Lines.{control_kept}
use Rattle.invariant.proofs.Upd.{upd_same, upd_other}
use Rattle.invariant.proofs.Remote.{remote_kept, returns_11, returns_21}
use Rattle.invariant.proofs.Data.{data_kept, no_line_out, served_asks, answer_there}
use Rattle.history.specs.Entries.{Entry, thread_id, is, Is, remote_in}
use Rattle.history.specs.Copies.{RemoteAsSaid}
use Rattle.history.specs.Method.{Moves, waiting, leaving}
use Rattle.history.proofs.Told.{is_so, is_not}
use Rattle.claims.specs.Entries.{entry_of}
use Rattle.claims.specs.Claims.{asked_of, most_by_another, most_combining}
use Rattle.claims.proofs.Chronicle.{asks, jobs_of, Chronicle, Shows, jobs_next, chronicle_next}
use Rattle.claims.proofs.Chronicled.{Chronicled}
use Rattle.claims.proofs.CopiesSaid.{CopiesSaid, step_said, copies_kept, remote_said_lem}
use Rattle.claims.proofs.Counted.{next_fits}
use Rattle.claims.proofs.Meets.{numbers, idle_line, last_line, count_kept, moves}
use Rattle.claims.proofs.Run.{Going, request_going}
use Rattle.claims.proofs.Seen.{phase_of, seen_of, positions_of}
use Rattle.claims.proofs.Steps.{one_sound}
use Rattle.claims.proofs.Telling.{entry_tells, tells_of}

-- what CC-Synch claims of a returned call that combined or not, its turn having served k
abbrev pub Paid : Bool → ℕ → ℕ → Type 0
Paid true k cost = cost ≤ most_combining k
Paid false k cost = cost ≤ most_by_another

-- a state of a file's run and its entries, a ledger for it, the cost of each thread's open call and the answers given: all layers hold
pub record Layers (f : Fields) (s : State) (past : List Entry) : Type 0 where
  pub ledger : Ledger
  pub cost : ℕ → ℕ
  pub answers : List Answer
  pub sound : Sound CcSynch s
  pub control : Control s.n s.h (view_of s) ledger
  pub remote : Remote s.n (view_of s) ledger s.copies cost
  pub object : Data s.n (asks f) s.kind s.capacity (view_of s) ledger (jobs_of f past) answers s.object
  pub chronicle : Chronicle Paid f (seen_of (view_of s)) (positions_of ledger) cost answers past
  pub copies : CopiesSaid s.n s.copies past
  pub said : RemoteAsSaid CcSynch past
  -- a thread has as many requests as its row of the file
  pub rows : (u : ℕ) → u < s.n → ((view_of s).thread u).count ≡ length (asked_of f (thread_id u))

-- as the claim needs it: the bounds are those claimed
pub chronicled : (f : Fields) (s : State) (past : List Entry) → Going CcSynch f s past → Layers f s past → Chronicled Paid CcSynch f s past
chronicled f s past going now = record {
  phase = phase_of;
  positions = positions_of now.ledger;
  cost = now.cost;
  answers = now.answers;
  chronicle = now.chronicle;
  fed = rw (← going.kind, ← going.capacity) now.object.fed;
  said = now.said;
  idle_line = λ u b z. idle_line ((view_of s).thread u).line z;
  idle_phase = refl;
  by_another = λ c o. o.by_another;
  combining = λ c o. o.by_itself;
}

module _ (f : Fields) (fits : InRange f) (s : State) (past : List Entry) (t : ThreadId) (below : t.0 < s.n) (going : Going CcSynch f s past) (now : Layers f s past) where
  abbrev l : Line
  l = line_of (line s t)

  abbrev after : State
  after = entered s t

  abbrev e : Entry
  e = entry_of s t

  abbrev next : Ledger
  next = noted s.n t.0 (named s t).own.0 now.ledger l

  number_l : number l ≡ line s t
  number_l = number_line s t now.sound below

  does : Does s.n s.h (view_of s) (view_of after) t.0 l (request s t) (applied s t).answer
  does = does_of s t now.sound below

  -- the entry moves as a history asks
  pub moved : Moves f.head.n f.head.h (seen_of (view_of s)) (seen_of (view_of after)) (positions_of now.ledger) (positions_of next) t.0 e
  moved = rw (← going.n, ← going.h) (moves now.control does (tells_of s t))

  -- by its row
  swaps_by_row : is Swaps e ≡ same_event (row s t).event Swaps
  swaps_by_row = by_row (row s t).event (node s t) Swaps (omega arith)

  applies_by_row : is Applies e ≡ same_event (row s t).event Applies
  applies_by_row = by_row (row s t).event (node s t) Applies (omega arith)

  few : s.n ≤ 16
  few = (state_fits CcSynch s now.sound.range).small

  some : 0 < s.h
  some = omega (arith, going.h, fits.head.h)

  -- no line takes a number out of its range
  pub stays : takes_out (named s t) (node s t) s.h (line s t) ≡ false
  stays = rw number_l at (no_line_out now.control now.object few l does (λ i. (runs_it s t now.sound below).begins (sym number_l ∙ i)))

  abbrev answers_next : List Answer
  answers_next = grown (is Applies e) now.answers (applied s t).answer

  -- the node's req is one that the object knows, or empty
  req_known : req_in_range s.kind (node s t).req ≡ true
  req_known = (node_fits CcSynch s t now.sound.shape now.sound.range below).req

  does_asked : Does s.n s.h (view_of s) (view_of after) t.0 l (open_request (asks f) (view_of s) t.0) (applied s t).answer
  does_asked =
      subst (λ (q : Request). Does s.n s.h (view_of s) (view_of after) t.0 l q (applied s t).answer) (request_going f s past t fits going (begun_few CcSynch s t now.sound.shape now.sound.range below)) does

  -- what the row applies is what the entry does
  applied_by_row : applied_by s.kind s.capacity s.object (view_of s) t.0 l ≡ applied s t
  applied_by_row = rw applies_by_row

  abbrev DataAfter : List Request → List Answer → Object → Type 0
  DataAfter jobs answers ob = Data s.n (asks f) s.kind s.capacity (view_of after) next jobs answers ob

  object_next : DataAfter (jobs_of f (e ∷ past)) answers_next after.object
  object_next =
      let by_line_applied = applied_by s.kind s.capacity s.object (view_of s) t.0 l in
      let does_row = subst (λ (a : Applied). Does s.n s.h (view_of s) (view_of after) t.0 l (open_request (asks f) (view_of s) t.0) a.answer) (sym applied_by_row) does_asked in
      let kept = data_kept now.control now.object {v' = view_of after} {t = t.0} l does_row
      (state_fits CcSynch s now.sound.range).held now.sound.shape.items req_known in
      let jobs = ap (λ (b : Bool). grown b (jobs_of f past) (open_request (asks f) (view_of s) t.0)) (sym swaps_by_row) ∙ sym (jobs_next moved f now.chronicle.swaps) in
      let answers =
      ap (λ (a : Applied). grown (same_event (row s t).event Applies) now.answers a.answer) applied_by_row
      ∙ ap (λ (b : Bool). grown b now.answers (applied s t).answer) (sym applies_by_row) in
      subst (DataAfter (jobs_of f (e ∷ past)) answers_next) (ap (λ (a : Applied). a.object) applied_by_row)
      (subst (λ (l : List Answer). DataAfter (jobs_of f (e ∷ past)) l by_line_applied.object) answers
      (subst (λ (l : List Request). DataAfter l (grown (same_event (row s t).event Applies) now.answers by_line_applied.answer) by_line_applied.object) jobs kept))

  -- what is applied is the request at the next position
  asks_next : Is Applies e → (node s t).req ≡ Some (get_or (jobs_of f past) now.ledger.a (Put 0))
  asks_next q = served_asks now.control now.object does ((numbers l (node s t)).serve q)

  copied : length s.copies ≡ most_locations
  copied = now.sound.shape.copies

  -- what the entry costs, as the state counts it
  remote_same : remote_in e.remote ≡ (references s t).remote
  remote_same = (step_said s t now.sound below).counted

  abbrev costs : ℕ → ℕ
  costs = upd now.cost t.0 (cond (eqb (number l) 1) 0 (now.cost t.0) + (references s t).remote)

  spends : costs t.0 ≡ cond (is CallBegins e) 0 (now.cost t.0) + remote_in e.remote
  spends =
      let by = numbers l (node s t) in
      upd_same now.cost t.0 _
      ∙ by_equal (number l) 1 (λ q. rw (q, is_so e CallBegins (by.begin q), remote_same))
      (λ q. rw (ne_eqb (number l) 1 q, is_not e CallBegins (λ z. q (by.begins z)), remote_same))

  -- a call returns with line 11 from waiting, and with line 21 from its turn
  by_another : Is Returns e → phase_of (named s t).line ≡ waiting → now.cost t.0 + remote_in e.remote ≤ most_by_another
  by_another q p =
      by_last (number l) (last_line now.control does (tells_of s t) q)
      (λ z. rw remote_same (returns_11 few copied now.control now.remote does z))
      (λ z. absurd (omega (arith, rw (does.stands, z) at p)))

  by_itself : Is Returns e → phase_of (named s t).line ≡ leaving → now.cost t.0 + remote_in e.remote ≤ most_combining (named s t).served
  by_itself q p =
      by_last (number l) (last_line now.control does (tells_of s t) q)
      (λ z. absurd (omega (arith, rw (does.stands, z) at p)))
      (λ z. rw remote_same (returns_21 few copied now.control now.remote does z))

  -- a blank has no request left, and a call begins with one
  none_begun : Is Blank e → length (asked_of f t) ≤ (named s t).begun
  none_begun q = omega (arith, now.rows t.0 below, (runs_it s t now.sound below).blank (sym number_l ∙ (numbers l (node s t)).blank q))

  some_begun : Is CallBegins e → (named s t).begun < length (asked_of f t)
  some_begun q = omega (arith, now.rows t.0 below, (runs_it s t now.sound below).begins (sym number_l ∙ (numbers l (node s t)).begins q))

  shows : Shows Paid f (seen_of (view_of s)) (positions_of now.ledger) now.cost costs now.answers past t.0 e (applied s t).answer
  shows = record {
    takes = λ q. (entry_tells s t).takes q ∙ asks_next q;
    gives = (entry_tells s t).answers;
    returns = λ q. (entry_tells s t).returns q ∙ answer_there now.control now.object does (last_line now.control does (tells_of s t) q);
    by_another = by_another;
    by_itself = by_itself;
    none_left = none_begun;
    some_left = some_begun;
    spends = spends;
    keeps = λ u z. upd_other _ t.0 _ u z;
  }

  pub layers_next : length past < 32768 → Layers f after (e ∷ past)
  layers_next short = record {
    ledger = next;
    cost = costs;
    answers = answers_next;
    sound = one_sound CcSynch s t going.method now.sound below stays (next_fits CcSynch s past t going.counted short);
    control = control_kept s.n s.h few some (view_of s) (view_of after) now.ledger t.0 (request s t) (applied s t).answer now.control l does;
    remote = remote_kept few copied now.control now.remote does;
    object = object_next;
    chronicle = chronicle_next moved now.chronicle shows;
    copies = copies_kept s t now.sound below past now.copies;
    said = (remote_said_lem s t now.sound below past now.copies, now.said);
    rows = λ u b. count_kept now.control does (tells_of s t) u ∙ now.rows u b;
  }
