-- What the calls for an entry answer, in `enter` and in a run, by either method, one equation for each, makes the state after it, and in `enter` the outcome; and the
-- order in which `step` judges. Assumes what the modules' parameters say.
use Rattle.std.proofs.Common.{◌≡◌, ℕ, ◌+◌, ◌-◌, ◌*◌, ◌<◌, ◌≤◌, Bool, true, false, cond, not, ◌&&◌, eqb, List, get_or, set, sym, refl, ap, ◌∙◌, mod-eq_of_lt, arith}
use lib.Seq.{set-get_or}
use Rattle.object.specs.declared.Object.{Object}
use Rattle.object.specs.declared.Request.{Request}
use Rattle.object.specs.declared.Answer.{Answer}
use Rattle.object.specs.Apply.{Applied}
use Rattle.machine.specs.declared.Method.{Method}
use Rattle.machine.specs.declared.Method.TheVariants.{CcSynch, DsmSynch}
use Rattle.machine.specs.declared.ThreadId.{ThreadId}
use Rattle.machine.specs.declared.NodeId.{NodeId}
use Rattle.machine.specs.declared.Node.{Node}
use Rattle.machine.specs.declared.Thread.{Thread}
use Rattle.machine.specs.declared.Event.{Event}
use Rattle.machine.specs.declared.Row.{Row}
use Rattle.machine.specs.Effect.{Effect}
use Rattle.machine.specs.Accesses.{pointed, accesses_of, writes_any, written_of}
use Rattle.machine.specs.Events.{event_found}
use Rattle.machine.specs.Methods.{last_node}
use Rattle.machine.specs.Sizes.{most_calls}
use Rattle.methods.specs.Methods.{row_by}
use Rattle.methods.specs.Methods as methods
use Rattle.copies.specs.Remote.{referred_by}
use Rattle.state.specs.declared.Counts.{Counts}
use Rattle.state.specs.declared.State.{State}
use Rattle.state.specs.Range.{in_range_by, counts_in_range}
use Rattle.state.specs.Shape.{Shaped}
use Rattle.state.proofs.RangeFacts.{ThreadFits, state_fits, counts_iff}
use Rattle.step.specs.Entry.{zero_node, zero_request, applied_at, more_of, plus, wrapped, named, line, request}
use Rattle.step.specs.ByMethod.{points_to_by, node_by, behind_by, written_by, event_by, applied_by, effect_by, accesses_by, references_by, counts_after_by, entered_by, out_by}
use Rattle.step.specs.Step.{Stepped, refused, outcome_by}
use Rattle.step.proofs.Outcome.{thread_fits, begun_few, goes_through_exactly}
use Rattle.step.proofs.Rows.{row_points, row_accesses, row_writes_lem, row_event, HasNodes, row_leaves, goes_through, refused_out, refused_14}

-- counts that fit do not wrap
pub fits_wrapped : (c : Counts) → counts_in_range c ≡ true → wrapped c ≡ c
fits_wrapped c e =
    let f = (counts_iff c).0 e in
    rw (mod-eq_of_lt f.records, mod-eq_of_lt f.turns, mod-eq_of_lt f.blanks, mod-eq_of_lt f.spins, mod-eq_of_lt f.remote) refl

-- the place of a call is one of the 256
pub place_few : (m : Method) (s : State) (t : ThreadId) {p : ℕ} → Shaped s → in_range_by m s ≡ true → t.0 < s.n → p ≡ 16 * t.0 + ((named s t).begun - 1)
    → p < most_calls
place_few m s t shape fits below e = omega (arith, e, begun_few m s t shape fits below, (state_fits m s fits).small)

-- what the calls for an entry answered, in order: the line, its row, the node that it points to, its fields and those of the node behind it, what the entry is, the
-- place of its call, the object's answer, what the line does, its remote references with the copies after them, the node that it writes, and what it adds to the counts
pub record Called (m : Method) (s : State) (t : ThreadId) (k : ℕ) (r : Row) (p : NodeId) (x y : Node) (ev : Event) (c : ℕ) (ob : Applied) (e : Effect)
    (remote : ℕ) (copies : List ℕ) (w : NodeId) (more : Counts) : Type 0 where
  pub line_run_lem : k ≡ line s t
  pub row_of : r ≡ row_by m k
  pub pointed_to : p ≡ pointed r.node (named s t)
  pub node_at : x ≡ get_or s.nodes p.0 zero_node
  pub behind_at : y ≡ get_or s.nodes (methods.behind_by m x.next).0 zero_node
  pub event_in : ev ≡ event_found r x (eqb s.tail.0 (named s t).tmp.0)
  pub place : c ≡ 16 * t.0 + ((named s t).begun - 1)
  pub applied_at_lem : ob ≡ applied_at ev s.kind s.capacity s.object x.req
  pub effect_of : e ≡ methods.effect_by m t.0 (named s t) x y s.tail s.h (get_or s.requests c zero_request) ob.answer
  pub remote_of_lem : remote ≡ (referred_by m s.n t.0 s.copies (accesses_of r p x.next)).remote
  pub copies_of : copies ≡ (referred_by m s.n t.0 s.copies (accesses_of r p x.next)).copies
  pub written_to : w ≡ written_of r p x.next
  pub more_of_lem : more ≡ more_of ev remote

-- the state that is made of the answers
abbrev pub made : State → ThreadId → List Node → Object → Effect → List ℕ → Counts → State
made s t nodes object e copies counts = record {
  method = s.method;
  n = s.n;
  h = s.h;
  kind = s.kind;
  capacity = s.capacity;
  tail = e.tail;
  threads = set s.threads t.0 e.thread;
  nodes = nodes;
  requests = s.requests;
  copies = copies;
  object = object;
  counts = counts;
}

-- what a line does hangs on no other node behind than the one that it may look at
looks_behind : (m : Method) (t : ℕ) (th : Thread) (x : Node) (nodes : List Node) (tail : NodeId) (h : ℕ) (request : Request) (answer : Answer)
    → methods.effect_by m t th x (get_or nodes (methods.behind_by m x.next).0 zero_node) tail h request answer
    ≡ methods.effect_by m t th x (get_or nodes x.next.0 zero_node) tail h request answer
looks_behind CcSynch t th x nodes tail h asked answer = refl
looks_behind DsmSynch t th x nodes tail h asked answer = refl

-- a thread of a state in range has its nodes
has_nodes : (m : Method) (s : State) (t : ThreadId) → s.n ≤ 16 → t.0 < s.n → ThreadFits m (last_node m s.n) s.h (named s t) (named s t).line
    → HasNodes m t.0 (named s t)
has_nodes CcSynch s t small below f = tt
has_nodes DsmSynch s t small below f = (omega arith, f.pointers.toggle)

module _ (m : Method) (s : State) (t : ThreadId) (shape : Shaped s) (fits : in_range_by m s ≡ true) (below : t.0 < s.n) where
  -- what `run_line` answers
  abbrev answer : Effect
  answer = methods.effect_by m t.0 (named s t) (node_by m s t) (behind_by m s t) s.tail s.h (request s t) (applied_by m s t).answer

  has : HasNodes m t.0 (named s t)
  has = has_nodes m s t (state_fits m s fits).small below (thread_fits m s t shape fits below)

  through : answer.refusal ≡ 0 → (out_by m s t ≡ false) × (answer ≡ effect_by m s t)
  through = goes_through t.0 (named s t) (node_by m s t) (behind_by m s t) s.tail s.h (request s t) (applied_by m s t).answer m has

  by_outcome : {out small : Bool} → out_by m s t ≡ out → counts_in_range (counts_after_by m s t) ≡ small
      → outcome_by m s t ≡ cond (not out && small) (record { refusal = 0; state = entered_by m s t }) (refused 14 s)
  by_outcome e f = rw (goes_through_exactly m s t shape fits below, e, f) refl

  module _ {k : ℕ} {r : Row} {p : NodeId} {x y : Node} {ev : Event} {c : ℕ} {ob : Applied} {e : Effect} {remote : ℕ} {copies : List ℕ} {w : NodeId} {more : Counts}
      (called : Called m s t k r p x y ev c ob e remote copies w more) where
    pub is_row : r ≡ row_by m (line s t)
    is_row = rw called.line_run_lem at called.row_of

    pub at_points : p ≡ points_to_by m s t
    at_points = called.pointed_to ∙ ap (λ (row : Row). pointed row.node (named s t)) is_row ∙ row_points m (named s t) (line s t)

    pub is_node : x ≡ node_by m s t
    is_node = called.node_at ∙ ap (λ (q : NodeId). get_or s.nodes q.0 zero_node) at_points

    pub is_event : ev ≡ event_by m s t
    is_event = rw (is_row, is_node) at called.event_in ∙ row_event m (named s t) (node_by m s t) s.tail (line s t)

    pub is_applied : ob ≡ applied_by m s t
    is_applied = rw (is_event, is_node) at called.applied_at_lem

    is_answer : e ≡ answer
    is_answer =
        rw (called.behind_at, is_node, called.place, is_applied) at called.effect_of
        ∙ looks_behind m t.0 (named s t) (node_by m s t) s.nodes s.tail s.h (request s t) (applied_by m s t).answer

    accesses_are : accesses_of r p x.next ≡ accesses_by m s t
    accesses_are = rw (is_row, at_points, is_node) (row_accesses m (named s t) (node_by m s t) (line s t))

    pub remote_is : remote ≡ (references_by m s t).remote
    remote_is = rw accesses_are at called.remote_of_lem

    copies_are : copies ≡ (references_by m s t).copies
    copies_are = rw accesses_are at called.copies_of

    pub is_written : w ≡ written_by m s t
    is_written = called.written_to ∙ rw (is_row, at_points, is_node) (row_writes_lem m (named s t) (node_by m s t) (line s t))

    -- where the row writes no node all stay as they are
    pub unwritten : e ≡ effect_by m s t → writes_any r ≡ false → set s.nodes w.0 e.node ≡ s.nodes
    unwritten done none =
        let left = row_leaves t.0 (named s t) (node_by m s t) (behind_by m s t) s.tail s.h (request s t) (applied_by m s t).answer m (line s t) (rw is_row at none) in
        rw (is_written, done, left.0, left.1) (set-get_or s.nodes (points_to_by m s t).0 zero_node)

    pub sums : plus s.counts more ≡ counts_after_by m s t
    sums = rw (called.more_of_lem, remote_is, is_event) refl

    -- what the refusal of its line tells
    pub line_out : (e.refusal ≡ 0 → ⊥) → out_by m s t ≡ true
    line_out h = refused_out t.0 (named s t) (node_by m s t) (behind_by m s t) s.tail s.h (request s t) (applied_by m s t).answer m has (rw is_answer at h)

    pub line_through : e.refusal ≡ 0 → (out_by m s t ≡ false) × (e ≡ effect_by m s t)
    line_through h = let g = through (rw is_answer at h) in (g.0, is_answer ∙ g.1)

    -- the line is refused
    pub line_number : (e.refusal ≡ 0 → ⊥) → e.refusal ≡ 14
    line_number h =
        ap (λ (e : Effect). e.refusal) is_answer
        ∙ refused_14 t.0 (named s t) (node_by m s t) (behind_by m s t) s.tail s.h (request s t) (applied_by m s t).answer m (rw is_answer at h)

    pub line_refused : (e.refusal ≡ 0 → ⊥) → refused e.refusal s ≡ outcome_by m s t
    line_refused h = ap (λ (k : ℕ). refused k s) (line_number h) ∙ sym (by_outcome (line_out h) refl)

    -- a count would pass 32 bits
    pub counts_refused : e.refusal ≡ 0 → counts_in_range (plus s.counts more) ≡ false → refused 14 s ≡ outcome_by m s t
    counts_refused h f = sym (by_outcome (through (rw is_answer at h)).0 (ap counts_in_range (sym sums) ∙ f))

    -- what the calls answered makes the state after the entry
    pub entered_by_lem : {nodes : List Node} {counts : Counts} → e ≡ effect_by m s t → nodes ≡ set s.nodes w.0 e.node → counts ≡ plus s.counts more
        → made s t nodes ob.object e copies counts ≡ entered_by m s t
    entered_by_lem done en ep = rw (en, ep, sums, done, copies_are, is_written, is_applied) refl

    -- the entry goes through
    pub accepted : {nodes : List Node} {counts : Counts} {object : Object} → e.refusal ≡ 0 → counts_in_range (plus s.counts more) ≡ true
        → object ≡ ob.object → nodes ≡ set s.nodes w.0 e.node → counts ≡ plus s.counts more
        → ◌≡◌ {A = Stepped} (record { refusal = 0; state = made s t nodes object e copies counts }) (outcome_by m s t)
    accepted h f eo en ep =
        let g = through (rw is_answer at h) in
        rw (eo, entered_by_lem (is_answer ∙ g.1) en ep) (sym (by_outcome g.0 (ap counts_in_range (sym sums) ∙ f)))
