-- Every line of DSM-Synch moves as a history asks. Assumes Control, and that the entry is the line's.
use Prim.Native.Nat.{ℕ, ◌+◌, ◌≤◌}
use native.Mathlib.Omega.{arith}
use mathlib.Core.Path.{◌≡◌, refl, sym, ◌∙◌, ap}
use mathlib.Core.Bool.{Bool, true, cond}
use lib.Dec.{eqb, leb}
use borrow.Author.Tests.{eqb-true, eq-eqb}
use Rattle.object.specs.declared.Request.{Request}
use Rattle.object.specs.declared.Answer.{Answer}
use Rattle.object.proofs.Choice.{by_test}
use Rattle.machine.specs.declared.Thread.{Thread}
use Rattle.machine.specs.declared.Event.{Event}
use Rattle.machine.specs.declared.Event.TheVariants.{Swaps, TurnBegins, Applies, TurnEnds, Returns}
use Rattle.machine.specs.Events.{event_number, same_event}
use Rattle.machine.specs.Lines.{stands_at}
use Rattle.dsm_lines.specs.Lines.{Line, number, pointed}
use Rattle.dsm_lines.proofs.Numbers.{by_line}
use Rattle.step.specs.Entry.{one_if}
use Rattle.invariant.specs.View.{View}
use Rattle.invariant.proofs.Serving.{field_left}
use Rattle.dsm_invariant.specs.Ledger.{Ledger, noted}
use Rattle.dsm_invariant.specs.View.{event_at, Does}
use Rattle.dsm_invariant.specs.Control.{Control}
use Rattle.dsm_invariant.proofs.Notes.{ending, notes, at_swap, at_kept, node_kept, node_new, turn_kept}
use Rattle.dsm_invariant.proofs.Follows.{each_after, each_run}
use Rattle.dsm_invariant.proofs.Events.{Told, told}
use Rattle.dsm_invariant.proofs.Threads.{last_line, at_below, one_turn, waits_served, known_at, turn_applied, no_turn, serving, turn_ends, not_given, last}
use Rattle.history.specs.Entries.{Entry, Is}
use Rattle.history.specs.Method.{Goes, Moves, leaving}
use Rattle.history.proofs.Phases.{comes_from, goes_to, goes_by}
use Rattle.claims.proofs.Telling.{Tells}
use Rattle.dsm_claims.proofs.Seen.{phase_of, seen_of, positions_of, phase_queued, phase_combines, phase_waits}

module _ {n h : ℕ} {v v' : View} {g : Ledger} {t : ℕ} {l : Line} {request : Request} {answer : Answer} {e : Entry} (c : Control n h v g)
    (run : Does n h v v' t l request answer) (tells : Tells t (event_at v t l) (v.thread t).my.0 (pointed (v.thread t) l).0 e) where
  pub by : Told v t (number l) e.event
  by = rw tells.event (told v t l)

  -- where an event is told by a test of its line, its entry passes it
  so : (event : Event) {test : Bool} → same_event e.event event ≡ test → Is event e → test ≡ true
  so event e q = sym e ∙ eq-eqb _ (event_number event) q

  pub at_line : (event : Event) {k : ℕ} → same_event e.event event ≡ eqb (number l) k → Is event e → number l ≡ k
  at_line event {k} e q = eqb-true (number l) k (so event e q)

  -- a call's last line
  pub last_line_lem : Is Returns e → last_line (number l) ≡ true
  last_line_lem q = so Returns by.returns q

  goes : Goes (event_number e.event) (phase_of (v.thread t).line) (v.thread t).begun (phase_of (v'.thread t).line) (v'.thread t).begun
  goes =
      let begun = each_after run (λ m th. th.begun ≡ (v.thread t).begun + one_if (eqb (number m) 1)) (omega arith) in
      rw (begun, ← by.begins) (goes_by e.event
      (rw (run.stands, tells.event) (each_run run (λ k event j. phase_of (stands_at k) ≡ comes_from event (phase_of (stands_at k))) (omega arith) (omega arith)))
      (rw (run.stands, tells.event) (each_run run (λ k event j. phase_of j ≡ goes_to event (phase_of (stands_at k))) (omega arith) (omega arith)))
      (rw (run.stands, tells.event) (each_run run (λ k event j. 1 ≤ cond (leb (event_number event) 6) 1 (phase_of (stands_at k))) (omega arith) (omega arith))))

  -- a thread that leaves keeps its counter: line 1 empties it, and 15 counts
  counter : phase_of (v'.thread t).line ≡ leaving → (v'.thread t).served ≡ (v.thread t).served
  counter q =
      let i = (v.thread t).served in
      let served = each_after run (λ m th. th.served ≡ cond (eqb (number m) 1) 0 (i + one_if (eqb (number m) 15))) (omega arith) in
      served ∙ rw q at (each_run run
      (λ k event j. cond (eqb (phase_of j) leaving) (cond (eqb k 1) 0 (i + one_if (eqb k 15))) 0 ≡ cond (eqb (phase_of j) leaving) i 0)
      (omega arith) (omega arith))

  pub count_kept : (u : ℕ) → (v'.thread u).count ≡ (v.thread u).count
  count_kept = field_left (λ (th : Thread). th.count) t refl run.others (each_after run (λ m th. th.count ≡ (v.thread t).count) (omega arith))

  pub moves : Moves n h (seen_of v) (seen_of v') (positions_of g) (positions_of (noted v t g l)) t e
  moves = record {
    below = run.below;
    thread = tells.thread;
    goes = goes;
    others = λ u z. record { phase = rw (run.others u z); begun = rw (run.others u z); counter = rw (run.others u z) };
    notes = record {
      s = (notes v t g l).s ∙ rw by.swaps;
      a = (notes v t g l).a ∙ rw by.applies;
      b = λ z. by_test (ending v t (number l)) (λ over. absurd (z (eqb-true _ (event_number TurnEnds) (by.ends ∙ over)))) (turn_kept v t g l);
      node = node_kept v t g l;
      new = λ q. let swap = at_line Swaps by.swaps q in node_new v t g l swap ∙ sym ((known_at c l run.below run.stands swap).chosen tt) ∙ sym (tells.assigned q);
      at_swap = λ q. at_swap v t g l (at_line Swaps by.swaps q);
      at_kept = λ u z f. at_kept v t g l u (λ x y. f x (eqb-true _ (event_number Swaps) (by.swaps ∙ eq-eqb (number l) 7 y)));
    };
    counter = counter;
    order = c.order.applied;
    at_below = λ u j q. at_below c u j (phase_queued (v.thread u).line q);
    one_turn = λ u w j k p q. one_turn c u w j k (phase_combines (v.thread u).line p) (phase_combines (v.thread w).line q);
    no_turn = λ q u j p. no_turn c l run.below run.stands (at_line TurnBegins by.turns q) u j (phase_combines (v.thread u).line p);
    turn_at = λ q. turn_applied c l run.below run.stands (at_line TurnBegins by.turns q);
    serving = λ q.
        let here = at_line Applies by.applies q in
        let f = serving c l run.below run.stands here in
        (tells.serves q ∙ by_line (λ (m : Line). (pointed (v.thread t) m).0 ≡ (v.thread t).tmp.0) l here refl ∙ f.0, f.1, f.2);
    waits = λ q u j apart p z.
        let mine = run.stands ∙ ap stands_at (at_line Applies by.applies q) in
        phase_waits (v.thread u).line (waits_served c t u run.below j apart (rw mine tt) (phase_queued (v.thread u).line p) z);
    turn_ends = λ q. turn_ends c l run.below run.stands (so TurnEnds by.ends q);
    not_given = λ q i low high z. not_given c l run.below run.stands (at_line Swaps by.swaps q) i high (omega arith) (sym (tells.assigned q) ∙ sym z);
    last = λ q. last c l run.below run.stands (last_line_lem q);
  }
