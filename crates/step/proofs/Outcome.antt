-- A single step, by either method, goes through exactly if its line takes no number out, misses nothing that it uses and leaves the counts in 32 bits. Assumes a
-- state of full arrays, in range, and a thread below n.
use Rattle.std.proofs.Common.{◌≡◌, ℕ, ◌+◌, ◌-◌, ◌<◌, ◌≤◌, Bool, true, false, cond, not, ◌&&◌, length, get_or, take, set, refl, ap, ◌∙◌, subst, arith, Option, Some, None}
use mathlib.Core.Bool.{and-true, and_assoc, and-eq-true_iff}
use lib.ListN.{get_or-eq_default}
use lib.Seq.{set_out}
use lib.Ieee.Bits.{is_true}
use Rattle.object.specs.declared.Kind.{Kind}
use Rattle.object.specs.declared.Request.{Request}
use Rattle.object.specs.declared.Object.{Object}
use Rattle.object.specs.declared.Answer.{Answer}
use Rattle.object.specs.declared.Answer.TheVariants.{Empty}
use Rattle.object.specs.Paper.{within, answer_in_range}
use Rattle.object.specs.Apply.{Applied, knows, held_in_range, answered, apply_of}
use Rattle.object.proofs.Plainly.{applies_plainly}
use Rattle.object.specs.Each.{every}
use Rattle.machine.specs.declared.Method.{Method}
use Rattle.machine.specs.declared.Method.TheVariants.{CcSynch}
use Rattle.machine.specs.declared.ThreadId.{ThreadId}
use Rattle.machine.specs.declared.Node.{Node}
use Rattle.machine.specs.declared.Event.{Event}
use Rattle.machine.specs.declared.Event.TheVariants.{Applies}
use Rattle.machine.specs.Events.{same_event}
use Rattle.machine.specs.Methods.{last_line, last_node, tail_nullable}
use Rattle.state.specs.declared.State.{State}
use Rattle.state.specs.Range.{head_in_range, rows_in_range, in_range_by, thread_in_range, node_in_range, counts_in_range}
use Rattle.state.specs.Shape.{Shaped}
use Rattle.state.proofs.Kept.{first_set, first_at, rows_stay, known_at}
use Rattle.state.proofs.Nodes.{node_at}
use Rattle.state.proofs.RangeFacts.{NodeOrNull, there, nowhere, ThreadFits, thread_iff, NodeFits, node_iff, points_iff, StateFits, state_fits, nodes_there}
use Rattle.step.specs.Entry.{zero_thread, zero_node, zero_request, served_by, applied_at, named, line, request, target}
use Rattle.step.specs.ByMethod.{points_to_by, node_by, behind_by, written_by, event_by, applied_by, effect_by, counts_after_by, entered_by, misses_by, out_by}
use Rattle.step.specs.Step.{goes_through_by}
use Rattle.machine.specs.Lines.{stands_at}
use Rattle.machine.proofs.Lines.{RunsNext, runs_next}
use Rattle.step.proofs.Numbers.{line_fits}
use Rattle.step.proofs.Leaving.{Leaves}
use Rattle.step.proofs.EachLine.{target_at}
use Rattle.step.proofs.EitherLine.{some_line, points, writes, leaves_by}

-- what holds where no request is applied, and of each request's answer and the object after it, holds after an entry, whether or not a req is served
pub applied_keeps : (P : Answer → Object → Type 0) (event : Event) (kind : Kind) (capacity : ℕ) (ob : Object) (req : Option Request) → P Empty ob
    → ((request : Request) → P (apply_of kind capacity ob request).answer (apply_of kind capacity ob request).object)
    → P (applied_at event kind capacity ob req).answer (applied_at event kind capacity ob req).object
applied_keeps P event kind capacity ob req before after = by_test (same_event event Applies) req
  where
    Keeps : Applied → Type 0
    Keeps r = P r.answer r.object

    by_test : (serves : Bool) (req : Option Request) → Keeps (cond serves (served_by kind capacity ob req) (answered Empty ob))
    by_test false req = before
    by_test true None = before
    by_test true (Some request) = after request

-- what the parts of a state's range come to where all hold but the threads and the counts
together : {a b d e v : Bool} (u c z : Bool) → a ≡ true → b ≡ true → d ≡ true → e ≡ true → (not u && c) ≡ v
    → (not u && (a && b && c && d && e && z)) ≡ (v && z)
together u c z ea eb ed ee eo = rw (ea, eb, ed, ee, and-true c, and-true c, ← and_assoc, eo)

module _ (m : Method) (s : State) (t : ThreadId) (shaped : Shaped s) (range : in_range_by m s ≡ true) (below : t.0 < s.n) where
  abbrev last : ℕ
  last = last_node m s.n

  facts : StateFits m s
  facts = state_fits m s range

  pub room : s.n ≤ length s.threads
  room = omega (arith, facts.small, shaped.threads)

  -- the named thread's facts, at its line and at the line that it runs
  pub thread_fits : ThreadFits m last s.h (named s t) (named s t).line
  thread_fits =
      (thread_iff m last s.h (named s t)).0
      (first_at (thread_in_range m last s.h) s.n s.threads t.0 facts.threads below room zero_thread)

  -- the requests begun fit a row
  pub begun_few : (named s t).begun ≤ 16
  begun_few = omega (arith, thread_fits.few, thread_fits.counted)

  pub runs_line : RunsNext (named s t) (last_line m)
  runs_line =
      let fits = line_fits (last_line m) (named s t).line thread_fits.a_line in
      runs_next (named s t) (last_line m) (some_line m) fits.0 fits.1

  standing : ThreadFits m last s.h (named s t) (stands_at (line s t))
  standing = subst (ThreadFits m last s.h (named s t)) runs_line.stands thread_fits

  -- a node in use, or what stands for one where it is null, is in range
  node_there : {i : ℕ} → NodeOrNull last i → NodeFits s.kind s.capacity last (get_or s.nodes i zero_node)
  node_there {i} (there h) = node_at m s shaped i h zero_node range
  node_there {i} (nowhere e) =
      rw (get_or-eq_default s.nodes zero_node {n = i} (omega (arith, shaped.nodes)))
      (record { req = refl; ret = refl; next = there (omega arith) })

  -- the node that the line points to is in use or null, and so are the one behind it and the one that it writes
  pub points_in_range : NodeOrNull last (points_to_by m s t).0
  points_in_range = points m s.n s.h (named s t) (line s t) runs_line.printed standing

  pub node_fits : NodeFits s.kind s.capacity last (node_by m s t)
  node_fits = node_there points_in_range

  behind_fits : NodeFits s.kind s.capacity last (behind_by m s t)
  behind_fits = node_there node_fits.next

  pub written_in_range : NodeOrNull last (written_by m s t).0
  written_in_range = writes m s.n s.h (named s t) (node_by m s t) (line s t) runs_line.printed standing node_fits.next

  -- the request of a call that has begun stands in the thread's row
  request_known : 0 < (named s t).begun → knows s.kind (request s t) ≡ true
  request_known b =
      known_at s.kind s.requests s.n s.threads t.0 below facts.rows room zero_thread ((named s t).begun - 1) zero_request
      (omega (arith, thread_fits.counted)) (omega (arith, facts.small, thread_fits.few, shaped.requests))

  -- the answer that a line may write into ret is in range
  answer_in_range_lem : answer_in_range s.capacity (applied_by m s t).answer ≡ true
  answer_in_range_lem =
      applied_keeps (λ answer ob. answer_in_range s.capacity answer ≡ true) (event_by m s t) s.kind s.capacity s.object (node_by m s t).req refl
      (λ request. is_true _ (applies_plainly s.kind s.capacity s.object request shaped.items).in_range)

  pub leaves : Leaves m last s.h s.kind s.capacity (named s t) (misses_by m s t) (out_by m s t) (effect_by m s t)
  leaves =
      leaves_by m s.n s.h s.kind s.capacity t.0 (named s t) (node_by m s t) (behind_by m s t) s.tail (request s t) (applied_by m s t).answer
      facts.small below facts.tail node_fits behind_fits thread_fits request_known answer_in_range_lem (line s t) runs_line.printed standing runs_line.begins

  head_stays : head_in_range (entered_by m s t) ≡ true
  head_stays =
      (and-eq-true_iff (within 1 s.n 16 && within 1 s.h 255) (held_in_range s.kind s.capacity (applied_by m s t).object.held)).1 (
        facts.limits,
        applied_keeps (λ answer ob. held_in_range s.kind s.capacity ob.held ≡ true) (event_by m s t) s.kind s.capacity s.object (node_by m s t).req
            facts.held (λ request. is_true _ ((applies_plainly s.kind s.capacity s.object request shaped.items).stays (rw facts.held tt))),
      )

  -- the threads hold exactly if the named one does
  threads_hold : (not (misses_by m s t) && every (thread_in_range m last s.h) (take s.n (entered_by m s t).threads)) ≡ not (out_by m s t)
  threads_hold =
      ap (λ (b : Bool). not (misses_by m s t) && b)
      (first_set (thread_in_range m last s.h) s.n s.threads t.0 facts.threads below room (effect_by m s t).thread)
      ∙ leaves.thread

  -- a node in use that is written is in range, and null is written nowhere
  nodes_with : {i : ℕ} (x : Node) → NodeOrNull last i → NodeFits s.kind s.capacity last x
      → every (node_in_range s.kind s.capacity last) (take (last + 1) (set s.nodes i x)) ≡ true
  nodes_with {i} x (there h) f =
      first_set (node_in_range s.kind s.capacity last) (last + 1) s.nodes i facts.nodes
      (omega arith) (omega (arith, nodes_there m s facts, shaped.nodes)) x
      ∙ (node_iff s.kind s.capacity last x).1 f
  nodes_with {i} x (nowhere e) f = rw (set_out s.nodes i x (omega (arith, shaped.nodes))) facts.nodes

  nodes_stay : every (node_in_range s.kind s.capacity last) (take (last + 1) (entered_by m s t).nodes) ≡ true
  nodes_stay = nodes_with (effect_by m s t).node written_in_range leaves.node

  rows_hold : rows_in_range s.kind s.requests 0 (take s.n (entered_by m s t).threads) ≡ true
  rows_hold =
      rows_stay s.kind s.requests s.n s.threads t.0 below (effect_by m s t).thread zero_thread leaves.count
      ∙ facts.rows

  -- so what `goes_through_by` asks of the whole state after the entry is asked of the line and the counts alone
  pub goes_through_exactly : goes_through_by m s t ≡ (not (out_by m s t) && counts_in_range (counts_after_by m s t))
  goes_through_exactly =
      together (misses_by m s t) _ _ head_stays ((points_iff last (tail_nullable m) (effect_by m s t).tail).1 leaves.tail) nodes_stay
      rows_hold threads_hold

-- a line of CC-Synch always points to a node in use
pub target_in_range : (s : State) (t : ThreadId) → Shaped s → in_range_by CcSynch s ≡ true → t.0 < s.n → (target s t).0 ≤ s.n
target_in_range s t shaped range below =
    target_at s.n s.h (named s t) (line s t) (runs_line CcSynch s t shaped range below).printed (standing CcSynch s t shaped range below)
