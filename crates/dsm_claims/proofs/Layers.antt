-- The whole invariant of a file's run by DSM-Synch, layer on layer, and that every entry keeps it that meets no null. Assumes fields in range.
use Prim.Native.Nat.{ℕ, ◌+◌, ◌≤◌, ◌<◌}
use native.Mathlib.Omega.{arith}
use mathlib.Core.Path.{◌≡◌, sym, subst, ◌∙◌}
use mathlib.Core.Bool.{Bool, true, false, cond, ◌||◌, and-eq-true_iff}
use mathlib.Core.List.{List, ◌∷◌}
use lib.ListN.{length}
use lib.Dec.{eqb}
use borrow.Author.Tests.{eqb-true, eq-eqb, ne_eqb}
use Rattle.object.specs.declared.Request.{Request}
use Rattle.object.specs.declared.Answer.{Answer}
use Rattle.object.specs.Apply.{knows}
use Rattle.bench_file.specs.Layout.{Fields}
use Rattle.bench_file.specs.Bytes.{InRange}
use Rattle.machine.specs.declared.Method.TheVariants.{DsmSynch}
use Rattle.machine.specs.declared.ThreadId.{ThreadId}
use Rattle.machine.specs.declared.Event.{Event}
use Rattle.machine.specs.declared.Event.TheVariants.{Blank, CallBegins, Swaps, Applies, Returns}
use Rattle.machine.specs.Accesses.{whole}
use Rattle.machine.specs.Fields.{is_null}
use Rattle.machine.specs.Owners.{owner_of}
use Rattle.copies.proofs.Owners.{owns_two}
use Rattle.dsm_lines.specs.Lines.{Line, number}
use Rattle.dsm_synch.proofs.Null.{meets_exactly}
use Rattle.state.specs.declared.State.{State}
use Rattle.step.specs.Entry.{named, line, request}
use Rattle.step.specs.DsmEntry as dsm
use Rattle.step.proofs.Soundness.{Sound}
use Rattle.invariant.specs.Ledger.{upd}
use Rattle.invariant.specs.View.{view_of}
use Rattle.invariant.specs.Serving.{open_request, grown}
use Rattle.invariant.proofs.Upd.{upd_same, upd_other}
use Rattle.dsm_invariant.specs.Ledger.{Ledger, noted}
use Rattle.dsm_invariant.specs.View.{Does}
use Rattle.dsm_invariant.specs.Control.{Control}
use Rattle.dsm_invariant.specs.Tip.{Tip}
use Rattle.dsm_invariant.specs.Cost.{Cost}
use Rattle.dsm_invariant.specs.Data.{Data}
use Rattle.dsm_invariant.proofs.Bridge.{number_line, stands_so, runs_it, does_of}
use Rattle.dsm_invariant.proofs.Events.{Told}
use Rattle.dsm_invariant.proofs.Steps.{control_kept}
use Rattle.dsm_invariant.proofs.Threads.{by_last, points_to_node, meets_at}
use Rattle.dsm_invariant.proofs.Tip.{tip_kept, swap_gives}
use Rattle.dsm_invariant.proofs.Cost.{cost_kept, returns_12}
use Rattle.dsm_invariant.proofs.Data.{data_kept, served_asks, answer_there, no_line_out}
use Rattle.history.specs.Entries.{Entry, thread_id, happened, is, Is, remote_in}
use Rattle.history.specs.Copies.{RemoteAsSaid}
use Rattle.history.specs.Terms.{gives_own}
use Rattle.history.specs.Method.{Moves, waiting}
use Rattle.history.proofs.Copies.{owner_marks}
use Rattle.history.proofs.Told.{is_so, is_not, by_event}
use Rattle.claims.specs.Entries.{dsm_entry_of}
use Rattle.claims.specs.Claims.{asked_of, NullAlone}
use Rattle.claims.proofs.Chronicle.{asks, jobs_of, Chronicle, Shows, jobs_next, chronicle_next}
use Rattle.claims.proofs.Counted.{remote_ones, next_fits}
use Rattle.claims.proofs.Run.{Going, request_going}
use Rattle.claims.proofs.Start.{row_fits, row_known}
use Rattle.claims.proofs.Steps.{one_sound}
use Rattle.claims.proofs.Telling.{dsm_entry_tells, dsm_tells_of}
use Rattle.dsm_claims.proofs.Meets.{by, at_line, last_line_lem, count_kept, moves}
use Rattle.dsm_claims.proofs.Seen.{phase_of, seen_of, positions_of}

-- what DSM-Synch claims of a returned call: one that another served has cost 2; of one that combined nothing
abbrev pub Paid : Bool → ℕ → ℕ → Type 0
Paid true k cost = Unit
Paid false k cost = cost ≡ 2

-- a state of a file's run and its entries, a ledger for it, the cost of each thread's open call and the answers given: all layers hold
pub record Layers (f : Fields) (s : State) (past : List Entry) : Type 0 where
  pub ledger : Ledger
  pub cost : ℕ → ℕ
  pub answers : List Answer
  pub sound : Sound DsmSynch s
  pub control : Control s.n s.h (view_of s) ledger
  pub tip : Tip s.n (view_of s) ledger
  pub spent : Cost s.n (view_of s) cost
  pub object : Data s.n (asks f) s.kind s.capacity (view_of s) ledger (jobs_of f past) answers s.object
  pub chronicle : Chronicle Paid f (seen_of (view_of s)) (positions_of ledger) cost answers past
  pub said : RemoteAsSaid DsmSynch past
  pub own_never : happened gives_own past ≡ false
  -- a thread has as many requests as its row of the file
  pub rows : (u : ℕ) → u < s.n → ((view_of s).thread u).count ≡ length (asked_of f (thread_id u))

module _ (f : Fields) (fits : InRange f) (s : State) (past : List Entry) (t : ThreadId) (below : t.0 < s.n) (going : Going DsmSynch f s past) (now : Layers f s past) where
  abbrev l : Line
  l = dsm.runs s t

  pub number_l : number l ≡ line s t
  number_l = number_line s t now.control below

  few : s.n ≤ 16
  few = omega (arith, going.n, fits.head.n)

  -- the thread has begun no more calls than it has requests, at most 16
  begun_few : (named s t).begun ≤ 16
  begun_few =
      let inside : t.0 < f.head.n = omega (arith, going.n) in
      omega (arith, now.chronicle.begun t.0 inside, (row_fits f fits t.0 inside).count)

  -- only null is a cause of 14, at line 21 or 26
  pub null_alone : NullAlone s t
  null_alone =
      let stands = stands_so s t now.control below in
      record {
        exactly = rw number_l at (meets_exactly (named s t) (dsm.node s t) l (points_to_node now.control l below stands few));
        alone = rw number_l at (no_line_out now.control now.object l below stands (λ q. (runs_it s t now.control below).begins (sym number_l ∙ q)));
        lines = λ q. ((and-eq-true_iff (eqb (line s t) 21 || eqb (line s t) 26) (is_null (dsm.node s t).next)).0
            (sym (rw number_l at (meets_at now.control t.0 (number l) (dsm.node s t) below stands)) ∙ q)).0;
      }

  module _ (fine : dsm.null_met s t ≡ false) where
    abbrev after : State
    after = dsm.entered s t

    abbrev e : Entry
    e = dsm_entry_of s t

    abbrev next : Ledger
    next = noted (view_of s) t.0 now.ledger l

    pub does : Does s.n s.h (view_of s) (view_of after) t.0 l (request s t) (dsm.applied s t).answer
    does = does_of s t now.control below now.sound.shape.threads now.sound.shape.nodes few fine

    pub tells : Told (view_of s) t.0 (number l) e.event
    tells = by now.control does (dsm_tells_of s t)

    -- the entry moves as a history asks
    pub moved : Moves f.head.n f.head.h (seen_of (view_of s)) (seen_of (view_of after)) (positions_of now.ledger) (positions_of next) t.0 e
    moved = rw (← going.n, ← going.h) (moves now.control does (dsm_tells_of s t))

    pub here : (event : Event) {k : ℕ} → is event e ≡ eqb (number l) k → Is event e → number l ≡ k
    here = at_line now.control does (dsm_tells_of s t)

    -- a call that begins has a request of the file, which the object knows
    some_begun : Is CallBegins e → (named s t).begun < length (asked_of f t)
    some_begun q = omega (arith, now.rows t.0 below, (runs_it s t now.control below).begins (sym number_l ∙ here CallBegins tells.begins q))

    none_begun : Is Blank e → length (asked_of f t) ≤ (named s t).begun
    none_begun q = omega (arith, now.rows t.0 below, (runs_it s t now.control below).blank (sym number_l ∙ here Blank tells.blanks q))

    begins_known : number l ≡ 1 → knows s.kind (asks f t.0 (named s t).begun) ≡ true
    begins_known q =
        let less : (named s t).begun < length (asked_of f t) = some_begun (eqb-true _ 1 (tells.begins ∙ eq-eqb (number l) 1 q)) in
        rw going.kind (row_known f fits t.0 (named s t).begun (omega (arith, going.n)) less)

    does_asked : Does s.n s.h (view_of s) (view_of after) t.0 l (open_request (asks f) (view_of s) t.0) (dsm.applied s t).answer
    does_asked =
        subst (λ (q : Request). Does s.n s.h (view_of s) (view_of after) t.0 l q (dsm.applied s t).answer) (request_going f s past t fits going begun_few) does

    object_next : Data s.n (asks f) s.kind s.capacity (view_of after) next (jobs_of f (e ∷ past)) (grown (is Applies e) now.answers (dsm.applied s t).answer) after.object
    object_next =
        subst (λ (jobs : List Request). Data s.n (asks f) s.kind s.capacity (view_of after) next jobs (grown (is Applies e) now.answers (dsm.applied s t).answer) after.object)
        (sym (jobs_next moved f now.chronicle.swaps)) (data_kept now.control now.object l does_asked begins_known)

    -- what the entry costs, as the state counts it
    remote_same : remote_in e.remote ≡ (dsm.references s t).remote
    remote_same = remote_ones DsmSynch s.n t.0 s.copies (dsm.accesses s t)

    abbrev costs : ℕ → ℕ
    costs = upd now.cost t.0 (cond (eqb (number l) 1) 0 (now.cost t.0) + (dsm.references s t).remote)

    spends : costs t.0 ≡ cond (is CallBegins e) 0 (now.cost t.0) + remote_in e.remote
    spends = upd_same now.cost t.0 _ ∙ rw (tells.begins, remote_same)

    -- a call returns from waiting with line 12 alone
    by_another : Is Returns e → phase_of (named s t).line ≡ waiting → now.cost t.0 + remote_in e.remote ≡ 2
    by_another q p =
        by_last (number l) (last_line_lem now.control does (dsm_tells_of s t) q)
        (λ z. rw remote_same (returns_12 s.copies few now.control now.tip now.spent does z))
        (λ z. absurd (omega (arith, rw (does.stands, z) at p)))
        (λ z. absurd (omega (arith, rw (does.stands, z) at p)))

    -- a Swap gives Tail's node, which is not its own thread's
    gives_other : gives_own e past ≡ false
    gives_other =
        by_event e Swaps
        (λ q. rw (is_so e Swaps q)
        (sym (owns_two t.0 (whole s.tail)) ∙ ne_eqb (owner_of s.tail) t.0 (swap_gives now.control does now.tip few (here Swaps tells.swaps q))))
        (λ q. rw (is_not e Swaps q))

    shows : Shows Paid f (seen_of (view_of s)) (positions_of now.ledger) now.cost costs now.answers past t.0 e (dsm.applied s t).answer
    shows = record {
      takes = λ q. (dsm_entry_tells s t).takes q ∙ served_asks now.control now.object l below does.stands (here Applies tells.applies q);
      gives = (dsm_entry_tells s t).answers;
      returns = λ q. (dsm_entry_tells s t).returns q ∙ answer_there now.control now.object l below does.stands (last_line_lem now.control does (dsm_tells_of s t) q);
      by_another = by_another;
      by_itself = λ q p. tt;
      none_left = none_begun;
      some_left = some_begun;
      spends = spends;
      keeps = λ u z. upd_other _ t.0 _ u z;
    }

    pub layers_next : length past < 32768 → Layers f after (e ∷ past)
    layers_next short = record {
      ledger = next;
      cost = costs;
      answers = grown (is Applies e) now.answers (dsm.applied s t).answer;
      sound = one_sound DsmSynch s t going.method now.sound below (null_alone.alone ∙ fine) (next_fits DsmSynch s past t going.counted short);
      control = control_kept s.n s.h few (omega (arith, going.h, fits.head.h)) (view_of s) (view_of after) now.ledger t.0 (request s t) (dsm.applied s t).answer now.control l does;
      tip = tip_kept now.control does now.tip;
      spent = cost_kept s.copies few now.control now.tip now.spent does;
      object = object_next;
      chronicle = chronicle_next moved now.chronicle shows;
      said = (owner_marks s.n t.0 s.copies (dsm.accesses s t), now.said);
      own_never = rw gives_other now.own_never;
      rows = λ u b. count_kept now.control does (dsm_tells_of s t) u ∙ now.rows u b;
    }
