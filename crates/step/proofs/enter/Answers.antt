-- What the calls answered makes the outcome. Assumes nothing.
use Rattle.std.proofs.Common.{◌≡◌, ℕ, List, get_or, sym, refl, ap, ◌∙◌, rules, arith}
use Rattle.std.proofs.lemmas.Result.{err_from_is_err_and}
use Rattle.object.specs.declared.Answer.{Answer}
use Rattle.object.specs.declared.Object.{Object}
use Rattle.object.specs.Apply.{as_applied}
use Rattle.object.proofs.Taken.{taken_answer, taken_object}
use Rattle.machine.specs.declared.NodeId.{NodeId}
use Rattle.machine.specs.Accesses.{accesses_of, written_of}
use Rattle.machine.specs.Events.{event_found}
use Rattle.machine.specs.Effect.{Effect, as_effect}
use Rattle.methods.specs.Methods.{effect_by}
use Rattle.copies.specs.Remote.{referred_by}
use Rattle.state.specs.declared.Counts.{Counts}
use Rattle.state.specs.Shape.{Shaped}
use Rattle.state.specs.Range.{counts_in_range}
use Rattle.step.specs.Entry.{zero_node, zero_request, more_of, plus, named}
use Rattle.step.specs.Step.{refused}
use Rattle.step.proofs.Entering.{place_few, Called, line_refused, counts_refused, accepted}
use Rattle.step.proofs.Numbers.{fails, counts_past, counts_fit}
use Rattle.step.proofs.enter.Goals as goal
use Rattle.step.proofs.enter.Goals.{After-call_place-place, After-run_line}

-- the lengths of the arrays, by their types
shaped : (c : After-call_place-place) → Shaped c.args.state
shaped c = search rules

-- the calls up to the line, and what follows of its effect
called : (c : After-run_line) {e : Effect} {remote : ℕ} {copies : List ℕ} {w : NodeId} {more : Counts}
    → e ≡ as_effect (named c.args.state c.args.thread) c.node_at-node.result c.args.state.tail c.run_line.result
    → remote ≡ (referred_by c.args.state.method c.args.state.n c.args.thread.0 c.args.state.copies (accesses_of c.row_of-row.result c.pointed-target.result c.node_at-node.result.next)).remote
    → copies ≡ (referred_by c.args.state.method c.args.state.n c.args.thread.0 c.args.state.copies (accesses_of c.row_of-row.result c.pointed-target.result c.node_at-node.result.next)).copies
    → w ≡ written_of c.row_of-row.result c.pointed-target.result c.node_at-node.result.next
    → more ≡ more_of c.event_in-event.result remote
    → Called c.args.state.method c.args.state c.args.thread c.line_run-line.result c.row_of-row.result c.pointed-target.result c.node_at-node.result
    c.node_at-behind.result c.event_in-event.result c.call_place-place.result (as_applied c.args.state.object c.applied_at-applied.result) e remote copies w more
called c effect remote copies written more = record {
  line_run_lem = c.line_run-line.ensures;
  row_of = c.row_of-row.ensures;
  pointed_to = c.pointed-target.ensures;
  node_at = c.node_at-node.ensures;
  behind_at = c.node_at-behind.ensures ∙ ap (λ (m : NodeId). get_or c.args.state.nodes m.0 zero_node) c.node_behind.ensures;
  event_in = c.event_in-event.ensures ∙ ap (event_found c.row_of-row.result c.node_at-node.result) c.eq-emptied.ensures;
  place = c.call_place-place.ensures;
  applied_at_lem = c.applied_at-applied.ensures;
  effect_of =
      let s = c.args.state in
      effect ∙ c.run_line.ensures
      ∙ ap (λ (answer : Answer). effect_by s.method c.args.thread.0 (named s c.args.thread) c.node_at-node.result c.node_at-behind.result s.tail s.h (get_or s.requests c.call_place-place.result zero_request) answer)
      (ap (λ (given : Answer × Object). given.0) c.unwrap_or-answer.ensures ∙ taken_answer s.object c.applied_at-applied.result);
  remote_of_lem = remote;
  copies_of = copies;
  written_to = written;
  more_of_lem = more;
}

pub bounds-state-place : goal.bounds-state-place
bounds-state-place c =
    let s = c.args.state in
    place_few s.method s c.args.thread (shaped (goal.at.bounds-state-place c).After-call_place-place) c.requires.0 c.requires.1 c.call_place-place.ensures

pub offset_bounds-state-place : goal.offset_bounds-state-place
offset_bounds-state-place c =
    let s = c.args.state in
    omega
    (arith, place_few s.method s c.args.thread (shaped (goal.at.offset_bounds-state-place c).After-call_place-place) c.requires.0 c.requires.1 c.call_place-place.ensures)

pub returns-in_err-done : goal.returns-in_err-done
returns-in_err-done c =
    let s = c.args.state in
    let before = goal.at.returns-in_err-done c in
    let passed = err_from_is_err_and c.from_residual.result c.from_residual.ensures.1 in
    rw (passed.1, passed.2)
    (line_refused s.method s c.args.thread (shaped before.After-call_place-place) c.requires.0 c.requires.1
    (called before.After-run_line (ap (as_effect (named s c.args.thread) c.node_at-node.result s.tail) (sym c.in_err-done.was)) refl refl refl refl)
    (fails c.in_err-done.field-0.0))

pub returns-in_err-counts : goal.returns-in_err-counts
returns-in_err-counts c =
    let s = c.args.state in
    let before = goal.at.returns-in_err-counts c in
    let passed = err_from_is_err_and c.from_residual-in_err-counts.result c.from_residual-in_err-counts.ensures.1 in
    let past = counts_past (counts_in_range (plus s.counts c.more_of-more.result)) (plus s.counts c.more_of-more.result) c.checked_plus.result c.ok_or.result c.checked_plus.ensures c.ok_or.ensures.value c.in_err-counts.was in
    rw (passed.1, passed.2)
    (ap (λ (k : ℕ). refused k s) past.1
    ∙ counts_refused s.method s c.args.thread (shaped before.After-call_place-place) c.requires.0 c.requires.1
    (called before.After-run_line (ap (as_effect (named s c.args.thread) c.node_at-node.result s.tail) (sym c.in_ok-done.was)) c.refer_all-remote.ensures.value
    c.refer_all-remote.ensures.copies_after refl c.more_of-more.ensures)
    refl past.0)

pub returns : goal.returns
returns c =
    let s = c.args.state in
    let before = goal.at.returns c in
    let fit = counts_fit (counts_in_range (plus s.counts c.more_of-more.result)) (plus s.counts c.more_of-more.result) c.checked_plus.result c.ok_or.result c.checked_plus.ensures c.ok_or.ensures.value c.in_ok-counts.was in
    accepted s.method s c.args.thread (shaped before.After-call_place-place) c.requires.0 c.requires.1
    (called before.After-run_line (ap (as_effect (named s c.args.thread) c.node_at-node.result s.tail) (sym c.in_ok-done.was)) c.refer_all-remote.ensures.value
    c.refer_all-remote.ensures.copies_after c.written-written.ensures c.more_of-more.ensures)
    refl fit.0
    (ap (λ (given : Answer × Object). given.1) c.unwrap_or-answer.ensures ∙ taken_object s.object c.applied_at-applied.result)
    c.nodes_with-after.ensures fit.1
