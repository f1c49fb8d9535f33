-- Each entry of the loop in `from_start` keeps what Running.antt says of a run, by Quiet.antt where it is a quiet one, and reads and writes within the arrays. Assumes nothing.
use Rattle.std.proofs.Common.{◌≡◌, ℕ, ◌+◌, ◌-◌, ◌*◌, ◌<◌, Bool, true, Result, cond, eqb, List, length, get_or, set, replicate, sym, refl, ap, ap₂, ◌∙◌, arith}
use Rattle.std.specs.Result.{result_unwrap_or}
use Rattle.std.proofs.lemmas.Result.{err_from_is_err_and}
use lib.Seq.{set_out}
use Rattle.object.specs.declared.Kind.{Kind}
use Rattle.object.specs.declared.Answer.{Answer}
use Rattle.object.specs.declared.Answer.TheVariants.{Empty}
use Rattle.object.specs.declared.Object.{Object}
use Rattle.object.specs.Apply.{as_applied}
use Rattle.object.proofs.Taken.{taken_answer, taken_object}
use Rattle.refusal.specs.declared.Refusal.{Refusal}
use Rattle.machine.specs.declared.After.{After}
use Rattle.machine.specs.Effect.{Effect, done, as_effect}
use Rattle.machine.specs.declared.Event.{Event}
use Rattle.machine.specs.declared.Event.TheVariants.{Blank, Applies}
use Rattle.machine.specs.declared.Method.{Method}
use Rattle.machine.specs.declared.Method.TheVariants.{CcSynch, DsmSynch}
use Rattle.machine.specs.declared.NodeId.{NodeId}
use Rattle.machine.specs.declared.Node.{Node}
use Rattle.machine.specs.declared.Row.{Row}
use Rattle.machine.specs.declared.ThreadId.{ThreadId}
use Rattle.machine.specs.Accesses.{pointed, accesses_of, written_of}
use Rattle.machine.specs.Events.{same_event, event_found}
use Rattle.machine.proofs.Same.{events_equal}
use Rattle.machine.specs.Sizes.{most_calls, most_nodes}
use Rattle.cc_lines.specs.Lines as CcLines
use Rattle.cc_synch.specs.Effect as CcEffect
use Rattle.dsm_synch.specs.Effect as DsmEffect
use Rattle.methods.specs.Methods.{row_by, effect_by, behind_by}
use Rattle.methods.proofs.Rows.{all_rows, row_at}
use Rattle.copies.specs.Remote.{Referred, referred_by}
use Rattle.state.specs.declared.Counts.{Counts}
use Rattle.state.specs.declared.State.{State}
use Rattle.step.specs.Entry.{zero_node, zero_request, more_of, named, line, served_by, applied_at}
use Rattle.step.specs.ByMethod.{node_by}
use Rattle.step.proofs.Entering.{Called}
use Rattle.step.proofs.Numbers.{fails}
use Rattle.history.specs.Entries.{thread_id}
use Rattle.history.proofs.Places.{get_d_any}
use Rattle.kept.specs.declared.Kept.{Kept}
use Rattle.kept.specs.Kept.{after_serving}
use Rattle.runner.proofs.Running.{Looping, cc_answers, dsm_answers, is_found, nodes_stay, Stored, stores_one, stores_none, line_last, line_few, slot_few, waited_few, nodes_long, call_below, their_below, fine, is_call, is_served, Serves, serves_one, serves_none, changed, read_there, looping_start, looping_next, looping_null, looping_ends}
use Rattle.runner.proofs.Quiet.{Quiet, blank_more, blank_quiet, spin_more, spin_quiet, counts_fit, looping_quiet}
use Rattle.runner.proofs.from_start.Goals.{After-spin_node-waited, Then-state-spun, After-call_place-place, After-call_place-call, After-given_at-served, After-note_entry, then-m-lt-NODES, else-m-lt-NODES, then-applies, else-applies, in-CcSynch, in-DsmSynch, then-b-lt-NODES, else-b-lt-NODES, then-writes_any+then-w-lt-NODES, then-writes_any+else-w-lt-NODES, else-writes_any, then-applies-2, else-applies-2}
use Rattle.runner.proofs.from_start.Goals as goal

-- what the calls up to the line answered: the line, its row, the node that it points to, its fields, what the entry is and the place of its call
record Read (m : Method) (s : State) (t : ThreadId) (k : ℕ) (r : Row) (p : NodeId) (x : Node) (ev : Event) (c : ℕ) : Type 0 where
  line_is : k ≡ line s t
  row_is : r ≡ row_by m k
  points_to : p ≡ pointed r.node (named s t)
  node_at : x ≡ get_or s.nodes p.0 zero_node
  event_is : ev ≡ event_found r x (eqb s.tail.0 (named s t).tmp.0)
  place_is : c ≡ 16 * t.0 + ((named s t).begun - 1)

-- the node behind that the line may look at, and what `run_line` would answer with it
abbrev behind : Method → State → Node → Node
behind m s x = get_or s.nodes (behind_by m x.next).0 zero_node

abbrev answered : Method → State → ThreadId → Node → Event → ℕ → Effect
answered m s t x ev c =
    effect_by m t.0 (named s t) x (behind m s x) s.tail s.h (get_or s.requests c zero_request) (applied_at ev s.kind s.capacity s.object x.req).answer

-- what is answered of the line, as an effect
abbrev said : State → ThreadId → Node → Result After Refusal → Effect
said s t x = as_effect (named s t) x s.tail

-- then what the line does, its remote references, the node that it writes and what it adds to the counts make the call whole
called_by : {m : Method} {s : State} {t : ThreadId} {k c remote : ℕ} {r : Row} {p w : NodeId} {x : Node} {ev : Event} {e : Effect} {copies : List ℕ} {more : Counts}
    → Read m s t k r p x ev c → e ≡ answered m s t x ev c → remote ≡ (referred_by m s.n t.0 s.copies (accesses_of r p x.next)).remote
    → copies ≡ (referred_by m s.n t.0 s.copies (accesses_of r p x.next)).copies → w ≡ written_of r p x.next → more ≡ more_of ev remote
    → Called m s t k r p x (behind m s x) ev c (applied_at ev s.kind s.capacity s.object x.req) e remote copies w more
called_by read effect remote copies written more = record {
  line_run_lem = read.line_is;
  row_of = read.row_is;
  pointed_to = read.points_to;
  node_at = read.node_at;
  behind_at = refl;
  event_in = read.event_is;
  place = read.place_is;
  applied_at_lem = refl;
  effect_of = effect;
  remote_of_lem = remote;
  copies_of = copies;
  written_to = written;
  more_of_lem = more;
}

-- what the loop holds of the entry that it is at
module _ {bytes : List ℕ} {start : State} {m : Method} {rows : List Row} {spin n h capacity i : ℕ} {kind : Kind} {s : State} {kept : List Kept} {order given turns : List ℕ}
    (now : Looping bytes start m rows spin n h kind capacity i s kept order given turns) (inside : i < length bytes) where
  abbrev t : ThreadId
  t = thread_id (get_or bytes i 0)

  line_below : {k : ℕ} → k ≡ line s t → k < 29
  line_below e = line_few m now.file bytes now.fits now.running inside e

  row_is : {k : ℕ} → k ≡ line s t → get_or rows k (row_by CcSynch 0) ≡ row_by m k
  row_is {k} e =
      ap (λ (l : List Row). get_or l k (row_by CcSynch 0)) now.table
      ∙ get_d_any (all_rows m) k (row_by CcSynch 0) (row_by m 0) (line_below e) ∙ row_at m k (line_below e)

  -- a blank, as the test for one says
  blank : {k : ℕ} {b : Bool} → k ≡ line s t → b ≡ same_event (get_or rows k (row_by CcSynch 0)).event Blank → b ≡ true → Quiet m s t (blank_more s.counts)
  blank {k} e told is =
      blank_quiet m s t (line_last m now.file bytes now.fits now.running inside)
      (ap (λ (k : ℕ). same_event (row_by m k).event Blank) (sym e) ∙ ap (λ (r : Row). same_event r.event Blank) (sym (row_is e)) ∙ sym told ∙ is)

  long : length s.nodes ≡ most_nodes
  long = nodes_long m now.file bytes now.fits now.running inside

  module _ {k c : ℕ} {r : Row} {p : NodeId} {x : Node} {ev : Event} (read : Read m s t k r p x ev c) where
    -- the branch for an entry that applies, and that for any other
    serves_it : {J : State} {answer : Answer} {given : Answer × Object} {b : Bool} (r : Result (Answer × Object) Refusal) → b ≡ same_event ev Applies → b ≡ true
        → as_applied s.object r ≡ served_by kind capacity s.object x.req → given ≡ result_unwrap_or r (Empty, s.object)
        → answer ≡ given.0 → J ≡ changed s given.1 s.nodes s.counts → Serves s J answer (applied_at ev s.kind s.capacity s.object x.req)
    serves_it {J} {answer} r e q ob u a j =
        serves_one s J answer ev x.req (sym e ∙ q) (ob ∙ ap₂ (λ (kind : Kind) (capacity : ℕ). served_by kind capacity s.object x.req) now.object now.room)
        (a ∙ ap (λ (g : Answer × Object). g.0) u ∙ taken_answer s.object r)
        (j ∙ ap (λ (g : Answer × Object). changed s g.1 s.nodes s.counts) u ∙ ap (λ (o : Object). changed s o s.nodes s.counts) (taken_object s.object r))

    -- the node that the line points to is the entry's
    node_so : x ≡ node_by m s t
    node_so = is_found m now.file bytes now.fits now.running inside (called_by read refl refl refl refl refl)

    -- what the line does: no test of 14 in CC-Synch, that of `run_line` in DSM-Synch
    by_cc : {e : Effect} {answer : Answer} {J : State} → Serves s J answer (applied_at ev s.kind s.capacity s.object x.req) → m ≡ CcSynch
        → e ≡ CcEffect.wrapped (CcEffect.executed (named s t) x s.tail h (get_or s.requests c zero_request) answer (CcLines.line_of k)) → e ≡ answered m s t x ev c
    by_cc served is e = cc_answers m now.file bytes now.fits now.running inside x (get_or s.requests c zero_request) now.limit served.answers is read.line_is node_so e

    by_dsm : {e : Effect} {y : Node} {answer : Answer} {J : State} → Serves s J answer (applied_at ev s.kind s.capacity s.object x.req) → m ≡ DsmSynch
        → y ≡ get_or s.nodes x.next.0 zero_node → e ≡ DsmEffect.effect_of t.0 (named s t) x y s.tail h (get_or s.requests c zero_request) answer → e ≡ answered m s t x ev c
    by_dsm served is at e = dsm_answers m now.file bytes now.fits now.running inside x (get_or s.requests c zero_request) now.limit served.answers is at e

-- a thread that spins waits at one of the nodes
waited_below : (c : After-spin_node-waited) → c.spin_node-waited.result.0 < most_nodes
waited_below c =
    let now = c.loop-i.invariant in
    waited_few _ _ _ now.fits now.running c.loop-i-test.true (c.if-seen-spin_line.true ∙ now.waits) c.spin_node-waited.ensures

-- what the tests for a spin said
spun : (c : Then-state-spun) → Quiet c.args.start.method c.loop-i.state (thread_id (get_or c.args.schedule.now c.loop-i.i 0)) (spin_more c.loop-i.state.counts)
spun c = spin_quiet _ _ _ c.at_hand.result (c.if-seen-spin_line.true ∙ c.loop-i.invariant.waits) c.spin_node-waited.ensures c.place-at.ensures c.at_hand.ensures c.if-state-spun.true

-- what an entry that is not quiet read
read : (c : After-call_place-place) → Read c.args.start.method c.loop-i.state (thread_id (get_or c.args.schedule.now c.loop-i.i 0)) c.line_run-line.result (get_or c.all_rows-rows.result c.line_run-line.result (row_by CcSynch 0)) c.pointed-points.result c.if-m-lt-NODES.node c.event_in-event.result c.call_place-place.result
read c =
    let now = c.loop-i.invariant in
    let nodes = c.loop-i.state.nodes in
    record {
      line_is = c.line_run-line.ensures;
      row_is = row_is now c.loop-i-test.true c.line_run-line.ensures;
      points_to = c.pointed-points.ensures;
      node_at =
          elim c.if-m-lt-NODES.branch [
            | then-m-lt-NODES w ↦ w.node-is
            | else-m-lt-NODES w ↦ read_there nodes (w.node-is ∙ c.zero_node-node.ensures) (omega (arith, long now c.loop-i-test.true, w.if-m-lt-NODES.false))
          ];
      event_is =
          c.event_in-event.ensures
          ∙ ap (event_found (get_or c.all_rows-rows.result c.line_run-line.result (row_by CcSynch 0)) c.if-m-lt-NODES.node) c.eq-emptied.ensures;
      place_is = c.call_place-place.ensures;
    }

read_of : (c : After-call_place-call) → Read c.args.start.method c.loop-i.state (thread_id (get_or c.args.schedule.now c.loop-i.i 0)) c.line_run-line.result (get_or c.all_rows-rows.result c.line_run-line.result (row_by CcSynch 0)) c.pointed-points.result c.if-m-lt-NODES.node c.event_in-event.result c.call_place-place.result
read_of c = read (goal.at.bounds-kept-call c).After-call_place-place

-- what it applied
serves : (c : After-call_place-call)
    → Serves c.loop-i.state c.if-applies.state c.if-applies.answer (applied_at c.event_in-event.result c.loop-i.state.kind c.loop-i.state.capacity c.loop-i.state.object c.if-m-lt-NODES.node.req)
serves c =
    elim c.if-applies.branch [
      | then-applies w ↦ serves_it c.loop-i.invariant c.loop-i-test.true (read_of c) w.served_by-applied.result (c.eq-applies.ensures ∙ events_equal _ Applies) w.if-applies.true w.served_by-applied.ensures w.unwrap_or-given.ensures w.answer-is w.state-is
      | else-applies w ↦ serves_none _ _ _ _ _ (sym (c.eq-applies.ensures ∙ events_equal _ Applies) ∙ w.if-applies.false) w.answer-is w.state-is
    ]

-- an entry that applies leaves the nodes
nodes_same : (c : After-call_place-call) → c.if-applies.state.nodes ≡ c.loop-i.state.nodes
nodes_same c = ap (λ (s : State). s.nodes) (serves c).state

-- what the line did
acts : (c : After-call_place-call) → done c.in_ok-done.done ≡ answered c.args.start.method c.loop-i.state (thread_id (get_or c.args.schedule.now c.loop-i.i 0)) c.if-m-lt-NODES.node c.event_in-event.result c.call_place-place.result
acts c =
    let now = c.loop-i.invariant in
    let at = c.loop-i-test.true in
    let says : Result After Refusal → Effect = said c.loop-i.state (thread_id (get_or c.args.schedule.now c.loop-i.i 0)) c.if-m-lt-NODES.node in
    ap says (sym c.in_ok-done.was)
    ∙ elim c.match-method.branch [
      | in-CcSynch w ↦ by_cc now at (read_of c) (serves c) w.in-CcSynch.is (ap says w.effect-is ∙ w.executed.ensures)
      | in-DsmSynch w ↦
          by_dsm now at (read_of c) (serves c) w.in-DsmSynch.is
          (elim w.if-b-lt-NODES.branch [
            | then-b-lt-NODES v ↦ v.behind-is ∙ ap (λ (l : List Node). get_or l c.if-m-lt-NODES.node.next.0 zero_node) (nodes_same c)
            | else-b-lt-NODES v ↦ read_there c.loop-i.state.nodes (v.behind-is ∙ w.zero_node-behind.ensures) (omega (arith, long now at, v.if-b-lt-NODES.false))
          ])
          (ap says w.effect-is ∙ w.run_line-effect.ensures)
    ]

-- and with it what all calls for the entry answered
called : (c : After-call_place-call)
    → let s = c.loop-i.state in
    let x = c.if-m-lt-NODES.node in
    let ev = c.event_in-event.result in
    Called c.args.start.method s (thread_id (get_or c.args.schedule.now c.loop-i.i 0)) c.line_run-line.result (get_or c.all_rows-rows.result c.line_run-line.result (row_by CcSynch 0)) c.pointed-points.result x (behind c.args.start.method s x) ev c.call_place-place.result (applied_at ev s.kind s.capacity s.object x.req) (done c.in_ok-done.done) c.refer_all-remote.result c.refer_all-remote.new.copies c.written-written.result c.more_of-more.result
called c =
    let t = thread_id (get_or c.args.schedule.now c.loop-i.i 0) in
    let row = get_or c.all_rows-rows.result c.line_run-line.result (row_by CcSynch 0) in
    let references =
    ap₂ (λ (n : ℕ) (s : State). referred_by c.args.start.method n t.0 s.copies (accesses_of row c.pointed-points.result c.if-m-lt-NODES.node.next)) c.loop-i.invariant.threads (serves c).state in
    called_by (read_of c) (acts c) (c.refer_all-remote.ensures.value ∙ ap (λ (r : Referred). r.remote) references)
    (c.refer_all-remote.ensures.copies_after ∙ ap (λ (r : Referred). r.copies) references) c.written-written.ensures c.more_of-more.ensures

-- the places of the entry's call and of the call that it serves
call_small : (c : After-call_place-call) → c.call_place-call.result < most_calls
call_small c =
    let now = c.loop-i.invariant in
    let at = c.loop-i-test.true in
    let is = is_call _ _ _ now.fits now.running at (called c) refl c.call_place-call.ensures in
    omega (arith, is, call_below _ _ _ now.fits now.running at (fine _ _ _ now.fits now.running at (called c) refl))

their_small : (c : After-given_at-served) → c.given_at-served.result < most_calls
their_small c =
    let all = (goal.at.bounds-kept-served c).After-call_place-call in
    let now = c.loop-i.invariant in
    let at = c.loop-i-test.true in
    let chosen : Bool → ℕ = λ serves. cond serves (get_or c.loop-i.notes.given c.pointed-points.result.0 0) c.call_place-call.result in
    let is = is_served _ _ _ now.fits now.running at (called all) refl c.call_place-call.ensures (c.eq-applies.ensures ∙ events_equal _ Applies) (c.given_at-served.ensures ∙ sym (ap chosen c.if-applies-2.true)) in
    omega (arith, is, their_below _ _ _ now.fits now.running at (fine _ _ _ now.fits now.running at (called all) refl))

-- what stands in the place of a call past the end of the array
abbrev zero_kept : Kept
zero_kept = record { mark = 0; server = 0; value = 0; remote = 0; turn = 0; began = 0; returned = 0 }

-- the state before Tail and the counts are stored: j has what was applied
abbrev stored_in : State → ThreadId → Effect → List ℕ → List Node → State
stored_in j t e copies nodes = record {
  method = j.method;
  n = j.n;
  h = j.h;
  kind = j.kind;
  capacity = j.capacity;
  tail = j.tail;
  threads = set j.threads t.0 e.thread;
  nodes = nodes;
  requests = j.requests;
  copies = copies;
  object = j.object;
  counts = j.counts;
}

stored : (c : After-call_place-call)
    → c.if-writes_any.state ≡ stored_in c.if-applies.state (thread_id (get_or c.args.schedule.now c.loop-i.i 0)) (done c.in_ok-done.done) c.refer_all-remote.new.copies (set c.if-applies.state.nodes c.written-written.result.0 c.in_ok-done.done.node)
stored c =
    let now = c.loop-i.invariant in
    let at = c.loop-i-test.true in
    let j = c.if-applies.state in
    let e = done c.in_ok-done.done in
    let w = c.written-written.result in
    let same = nodes_same c in
    let inside : length j.nodes ≡ most_nodes = ap length same ∙ long now at in
    let with_nodes = stored_in j (thread_id (get_or c.args.schedule.now c.loop-i.i 0)) e c.refer_all-remote.new.copies in
    elim c.if-writes_any.branch [
      | then-writes_any+then-w-lt-NODES v ↦ v.state-is
      | then-writes_any+else-w-lt-NODES v ↦ v.state-is ∙ ap with_nodes (sym (set_out j.nodes w.0 e.node (omega (arith, inside, v.if-w-lt-NODES.false))))
      | else-writes_any v ↦
          v.state-is
          ∙ ap with_nodes
          (same
          ∙ sym (nodes_stay _ _ _ now.fits now.running at (called c) refl (sym c.writes_any.ensures ∙ v.if-writes_any.false))
          ∙ ap (λ (l : List Node). set l w.0 e.node) (sym same))
    ]

-- the calls after the entry: its own, and the one that it serves, if it does
kept_is : (c : After-note_entry)
    → Stored (set c.loop-i.kept c.call_place-call.result c.after_entry.result) zero_kept (get_or c.loop-i.notes.given c.pointed-points.result.0 0) c.call_place-call.result c.if-applies.answer (thread_id (get_or c.args.schedule.now c.loop-i.i 0)) (get_or c.loop-i.notes.turns (get_or c.args.schedule.now c.loop-i.i 0) 0) c.eq-applies.result c.if-applies-2.kept
kept_is c =
    let calls = set c.loop-i.kept c.call_place-call.result c.after_entry.result in
    let g = get_or c.loop-i.notes.given c.pointed-points.result.0 0 in
    let own = c.call_place-call.result in
    let answer = c.if-applies.answer in
    let t = thread_id (get_or c.args.schedule.now c.loop-i.i 0) in
    let turn = get_or c.loop-i.notes.turns t.0 0 in
    let applies = c.eq-applies.result in
    let served : ℕ → Kept = λ i. after_serving (get_or calls i zero_kept) true answer t turn in
    elim c.if-applies-2.branch [
      | then-applies-2 w ↦
          stores_one calls zero_kept g own answer t turn applies c.if-applies-2.kept w.if-applies-2.true
          (w.kept-is ∙ ap₂ (λ (i : ℕ) (k : Kept). set calls i k) w.given_at-served.ensures (w.after_serving.ensures ∙ ap served w.given_at-served.ensures))
      | else-applies-2 w ↦ stores_none calls zero_kept g own answer t turn applies c.if-applies-2.kept w.if-applies-2.false w.kept-is
    ]

pub loop-i-init : goal.loop-i-init
loop-i-init c = rw c.none-notes.ensures (looping_start c.all_rows-rows.ensures c.spin_line-spin_line.ensures (ap (replicate most_calls) c.unkept-kept.ensures) c.requires)

pub bounds-state-spun : goal.bounds-state-spun
bounds-state-spun c = waited_below (goal.at.bounds-state-spun c).After-spin_node-waited

pub bounds-state-at : goal.bounds-state-at
bounds-state-at c = omega (arith, c.place-at.ensures, waited_below (goal.at.bounds-state-at c).After-spin_node-waited)

pub overflow_add-state : goal.overflow_add-state
overflow_add-state c = omega (arith, counts_fit c.loop-i.invariant c.loop-i-test.true (spun (goal.at.overflow_add-state c).Then-state-spun))

pub loop-i-preserved-then-state-spun : goal.loop-i-preserved-then-state-spun
loop-i-preserved-then-state-spun c =
    looping_quiet c.loop-i.invariant c.loop-i-test.true (spun (goal.at.loop-i-preserved-then-state-spun c).Then-state-spun)

pub bounds-rows-line : goal.bounds-rows-line
bounds-rows-line c = line_below c.loop-i.invariant c.loop-i-test.true c.line_run-line.ensures

pub overflow_add-state-then-eq : goal.overflow_add-state-then-eq
overflow_add-state-then-eq c =
    let now = c.loop-i.invariant in
    let at = c.loop-i-test.true in
    omega (arith, counts_fit now at (blank now at c.line_run-line.ensures (c.eq.ensures ∙ events_equal _ Blank) c.if-eq.true))

pub loop-i-preserved-then-eq : goal.loop-i-preserved-then-eq
loop-i-preserved-then-eq c =
    let now = c.loop-i.invariant in
    let at = c.loop-i-test.true in
    looping_quiet now at (blank now at c.line_run-line.ensures (c.eq.ensures ∙ events_equal _ Blank) c.if-eq.true)

pub bounds-state-place : goal.bounds-state-place
bounds-state-place c = let now = c.loop-i.invariant in slot_few _ _ _ now.fits now.running c.loop-i-test.true c.call_place-place.ensures

pub returns-in_err-done : goal.returns-in_err-done
returns-in_err-done c =
    let now = c.loop-i.invariant in
    let at = c.loop-i-test.true in
    let s = c.loop-i.state in
    let seen = read (goal.at.returns-in_err-done c).After-call_place-place in
    let served : Serves s c.if-applies.state c.if-applies.answer (applied_at c.event_in-event.result s.kind s.capacity s.object c.if-m-lt-NODES.node.req) =
    elim c.if-applies.branch [
      | then-applies w ↦ serves_it now at seen w.served_by-applied.result (c.eq-applies.ensures ∙ events_equal _ Applies) w.if-applies.true w.served_by-applied.ensures w.unwrap_or-given.ensures w.answer-is w.state-is
      | else-applies w ↦ serves_none _ _ _ _ _ (sym (c.eq-applies.ensures ∙ events_equal _ Applies) ∙ w.if-applies.false) w.answer-is w.state-is
    ] in
    let says : Result After Refusal → Effect = said s (thread_id (get_or c.args.schedule.now c.loop-i.i 0)) c.if-m-lt-NODES.node in
    let acts : says c.match-method.effect ≡ answered c.args.start.method s (thread_id (get_or c.args.schedule.now c.loop-i.i 0)) c.if-m-lt-NODES.node c.event_in-event.result c.call_place-place.result =
    elim c.match-method.branch [
      | in-CcSynch w ↦ by_cc now at seen served w.in-CcSynch.is (ap says w.effect-is ∙ w.executed.ensures)
      | in-DsmSynch w ↦
          by_dsm now at seen served w.in-DsmSynch.is
          (elim w.if-b-lt-NODES.branch [
            | then-b-lt-NODES v ↦ v.behind-is ∙ ap (λ (j : State). get_or j.nodes c.if-m-lt-NODES.node.next.0 zero_node) served.state
            | else-b-lt-NODES v ↦ read_there s.nodes (v.behind-is ∙ w.zero_node-behind.ensures) (omega (arith, long now at, v.if-b-lt-NODES.false))
          ])
          (ap says w.effect-is ∙ w.run_line-effect.ensures)
    ] in
    let passed = err_from_is_err_and c.from_residual.result c.from_residual.ensures.1 in
    rw (passed.1, passed.2) (looping_null now at (called_by seen (ap says (sym c.in_err-done.was) ∙ acts) refl refl refl refl) (fails c.in_err-done.field-0.0))

pub bounds-kept-call : goal.bounds-kept-call
bounds-kept-call c = call_small c

pub bounds-kept-call-in-loop-i : goal.bounds-kept-call-in-loop-i
bounds-kept-call-in-loop-i c = call_small (goal.at.bounds-kept-call-in-loop-i c).After-call_place-call

pub bounds-kept-served : goal.bounds-kept-served
bounds-kept-served c = their_small c

pub bounds-kept-served-then-applies-2 : goal.bounds-kept-served-then-applies-2
bounds-kept-served-then-applies-2 c = their_small (goal.at.bounds-kept-served-then-applies-2 c).After-given_at-served

pub loop-i-preserved : goal.loop-i-preserved
loop-i-preserved c =
    let all = (goal.at.loop-i-preserved c).After-call_place-call in
    let noted = c.note_entry.ensures in
    rw (stored all)
    (looping_next c.loop-i.invariant c.loop-i-test.true (called all) (kept_is c) refl (serves all)
    (ap (λ (l : List Node). set l c.written-written.result.0 c.in_ok-done.done.node) (nodes_same all)) c.plus-counts_after.ensures
    (record {
      of_applies = c.eq-applies.ensures ∙ events_equal _ Applies;
      of_call = c.call_place-call.ensures;
      of_served = refl;
      of_assigned = c.assigned-assigned.ensures;
      of_turns = noted.turns_after;
      of_given = noted.given_after;
      of_order = noted.order_after;
      of_mine = c.after_entry.ensures;
      of_theirs = refl;
    }))

pub returns : goal.returns
returns c = looping_ends c.loop-i.invariant c.loop-i-test.false
