-- Every line of CC-Synch moves as a history asks. Assumes Control, and that the entry is the line's.
use Prim.Native.Nat.{ℕ, ◌+◌, ◌≤◌, ◌<◌}
use native.Mathlib.Omega.{arith}
use mathlib.Core.Path.{◌≡◌, refl, sym, ◌∙◌, ap}
use mathlib.Core.Bool.{Bool, true, false, cond, not, ◌&&◌, ◌||◌}
use lib.Dec.{eqb, ltb}
use borrow.Author.Tests.{ne_eqb, le-leb, lt-leb}
use Rattle.object.specs.declared.Request.{Request}
use Rattle.object.specs.declared.Answer.{Answer}
use Rattle.object.proofs.Choice.{by_equal, by_order, either}
use Rattle.machine.specs.declared.Node.{Node}
use Rattle.machine.specs.declared.Thread.{Thread}
use Rattle.machine.specs.declared.Event.TheVariants.{Blank, CallBegins, Swaps, TurnBegins, Applies, TurnEnds, Returns, Spins, Other}
use Rattle.machine.specs.Fields.{is_null}
use Rattle.machine.specs.Events.{event_number, same_event}
use Rattle.cc_lines.specs.Lines.{Line, row_of, event_in, L0, L1, L2, L3, L4, L5, L6, L7, L8, L9, L10, L11, L12, L13, L14, L15, L16, L17, L18, L19, L20, L21, number}
use Rattle.cc_lines.proofs.Events.{by_row}
use Rattle.step.specs.Entry.{one_if}
use Rattle.machine.specs.Lines.{stands_at}
use Rattle.cc_lines.proofs.Numbers.{each_line, number_most, by_line}
use Rattle.invariant.specs.Ledger.{Ledger, noted}
use Rattle.invariant.specs.View.{View, goal, does, Does}
use Rattle.invariant.specs.Control.{Control}
use Rattle.invariant.proofs.Serving.{field_left}
use Rattle.invariant.proofs.Noted.{notes, at_swap, at_kept, node_kept}
use Rattle.invariant.proofs.Seats.{positions_apart, tail_node, now, known}
use Rattle.invariant.proofs.Threads.{queued_from, at_below, one_at_turn, serving, last_points, line_most_lem}
use Rattle.history.specs.Entries.{Entry, Is}
use Rattle.history.specs.Method.{Goes, blank, begins, swaps, turns, applies, ends, helped, leaves, other, Moves, idle, waiting, combining, leaving}
use Rattle.history.proofs.Told.{told}
use Rattle.claims.proofs.Telling.{Tells}
use Rattle.claims.proofs.Seen.{phase_of, seen_of, positions_of}

-- phases by the numbers of lines
record Phases (k : ℕ) : Type 0 where
  low : k < 6 → phase_of k < waiting
  wait : 6 ≤ k → k ≤ 12 → phase_of k ≡ waiting
  turn : 13 ≤ k → k ≤ 20 → phase_of k ≡ combining
  late : 21 ≤ k → phase_of k ≡ leaving

phases : (k : ℕ) → Phases k
phases k = record {
  low = λ z. by_order 0 k (λ y. rw (lt-leb k 0 y, le-leb k 5 (omega arith)) (omega arith)) (λ y. rw (le-leb k 0 y) (omega arith));
  wait = λ z y. rw (lt-leb k 0 (omega arith), lt-leb k 5 (omega arith), le-leb k 12 y);
  turn = λ z y. rw (lt-leb k 0 (omega arith), lt-leb k 5 (omega arith), lt-leb k 12 (omega arith), le-leb k 20 y);
  late = λ z. rw (lt-leb k 0 (omega arith), lt-leb k 5 (omega arith), lt-leb k 12 (omega arith), lt-leb k 20 (omega arith));
}

-- an idle thread runs no line next
pub idle_line : (k : ℕ) → phase_of k ≡ idle → k ≡ 0
idle_line k q =
    let f = phases k in
    by_order 0 k
    (λ v.
    by_order k 6 (λ z. absurd (omega (arith, rw (lt-leb k 0 v, le-leb k 5 (omega arith)) at q))) λ y.
    by_order k 13 (λ z. absurd (omega (arith, f.wait y (omega arith)))) λ x.
    by_order k 21 (λ z. absurd (omega (arith, f.turn x (omega arith)))) (λ z. absurd (omega (arith, f.late z))))
    (λ v. omega arith)

pub queued_line : (k : ℕ) → waiting ≤ phase_of k → 6 ≤ k
queued_line k q = by_order k 6 (λ z. absurd (omega (arith, (phases k).low z))) (λ z. z)

turn_line : (k : ℕ) → phase_of k ≡ combining → (13 ≤ k) × (k ≤ 20)
turn_line k q =
    let f = phases k in
    by_order k 6 (λ z. absurd (omega (arith, f.low z))) λ y.
    by_order k 13 (λ z. absurd (omega (arith, f.wait y (omega arith)))) λ x.
    by_order k 21 (λ z. (x, omega arith)) (λ z. absurd (omega (arith, f.late z)))

late_line : (k : ℕ) → phase_of k ≡ leaving → 21 ≤ k
late_line k q =
    let f = phases k in
    by_order k 6 (λ z. absurd (omega (arith, f.low z))) λ y.
    by_order k 13 (λ z. absurd (omega (arith, f.wait y (omega arith)))) λ x.
    by_order k 21 (λ z. absurd (omega (arith, f.turn x (omega arith)))) (λ z. z)

-- the number of a line and that of what its entry is
pub record Numbers (k e : ℕ) : Type 0 where
  pub swap : e ≡ event_number Swaps → k ≡ 5
  pub swaps : k ≡ 5 → e ≡ event_number Swaps
  pub turn : e ≡ event_number TurnBegins → k ≡ 12
  pub serve : e ≡ event_number Applies → k ≡ 16
  pub ends : e ≡ event_number TurnEnds → k ≡ 20
  pub end : k ≡ 20 → e ≡ event_number TurnEnds
  pub last : e ≡ event_number Returns → (k ≡ 11 → ⊥) → k ≡ 21
  pub begins : e ≡ event_number CallBegins → k ≡ 1
  pub begin : k ≡ 1 → e ≡ event_number CallBegins
  pub blank : e ≡ event_number Blank → k ≡ 0

pub numbers : (l : Line) (x : Node) → Numbers (number l) (event_number (event_in (row_of l).event x))
numbers L0 x = omega arith
numbers L1 x = omega arith
numbers L2 x = omega arith
numbers L3 x = omega arith
numbers L4 x = omega arith
numbers L5 x = omega arith
numbers L6 x = omega arith
numbers L7 x = omega arith
numbers L8 x = omega arith
numbers L9 x = either (λ e. Numbers 9 (event_number e)) x.wait (λ t. omega arith) (λ t. omega arith)
numbers L10 x = omega arith
numbers L11 x = omega arith
numbers L12 x = omega arith
numbers L13 x = omega arith
numbers L14 x = omega arith
numbers L15 x = omega arith
numbers L16 x = omega arith
numbers L17 x = omega arith
numbers L18 x = omega arith
numbers L19 x = omega arith
numbers L20 x = omega arith
numbers L21 x = omega arith

stands_most : (k : ℕ) → stands_at k ≤ k
stands_most k = by_order k 2 (λ z. rw (le-leb k 1 (omega arith)) (omega arith)) (λ z. rw (lt-leb k 1 z) (omega arith))

-- a Swap is line 5, and line 16 applies
one_swap : (l : Line) (x : Node) → one_if (eqb (number l) 5) ≡ one_if (same_event (event_in (row_of l).event x) Swaps)
one_swap l x =
    each_line (λ (l : Line). one_if (eqb (number l) 5) ≡ one_if (same_event (row_of l).event Swaps)) (omega arith) l
    ∙ ap one_if (sym (by_row (row_of l).event x Swaps (omega arith)))

one_applied : (l : Line) (x : Node) → one_if (eqb (number l) 16) ≡ one_if (same_event (event_in (row_of l).event x) Applies)
one_applied l x =
    each_line (λ (l : Line). one_if (eqb (number l) 16) ≡ one_if (same_event (row_of l).event Applies)) (omega arith) l
    ∙ ap one_if (sym (by_row (row_of l).event x Applies (omega arith)))

module _ (h : ℕ) (v : View) (t : ℕ) (request : Request) (answer : Answer) where
  abbrev Gone : Line → ℕ → Type 0
  Gone l j = Goes (event_number (event_in (row_of l).event (v.node (goal v t l)))) (phase_of (stands_at (number l))) (v.thread t).begun (phase_of j) (does v t l h request answer).thread.begun

  -- line 9 spins, or goes on
  spin_goes : (waits : Bool) (b : ℕ) → Goes (event_number (cond waits Spins Other)) waiting b (phase_of (cond waits 9 10)) b
  spin_goes true b = other (omega arith) (omega arith) refl refl
  spin_goes false b = other (omega arith) (omega arith) refl refl

  line_goes : (l : Line) → (v.thread t).line ≡ stands_at (number l) → Gone l (does v t l h request answer).thread.line
  line_goes L0 e = blank refl refl (ap phase_of e) refl
  line_goes L1 e = begins refl refl refl (omega arith)
  line_goes L2 e = other (omega arith) (omega arith) refl refl
  line_goes L3 e = other (omega arith) (omega arith) refl refl
  line_goes L4 e = other (omega arith) (omega arith) refl refl
  line_goes L5 e = swaps refl refl refl refl
  line_goes L6 e = other (omega arith) (omega arith) refl refl
  line_goes L7 e = other (omega arith) (omega arith) refl refl
  line_goes L8 e = other (omega arith) (omega arith) refl refl
  line_goes L9 e = spin_goes (v.node (v.thread t).cur.0).wait (v.thread t).begun
  line_goes L10 e =
      either (Gone L10) (v.node (v.thread t).cur.0).completed (λ b. other (omega arith) (omega arith) refl refl)
      (λ b. other (omega arith) (omega arith) refl refl)
  line_goes L11 e = helped refl refl refl refl
  line_goes L12 e = turns refl refl refl refl
  line_goes L13 e =
      either (Gone L13) (not (is_null (v.node (v.thread t).tmp.0).next) && ltb (v.thread t).served h)
      (λ b. other (omega arith) (omega arith) refl refl) (λ b. other (omega arith) (omega arith) refl refl)
  line_goes L14 e = other (omega arith) (omega arith) refl refl
  line_goes L15 e = other (omega arith) (omega arith) refl refl
  line_goes L16 e = applies refl refl refl refl
  line_goes L17 e = other (omega arith) (omega arith) refl refl
  line_goes L18 e = other (omega arith) (omega arith) refl refl
  line_goes L19 e = other (omega arith) (omega arith) refl refl
  line_goes L20 e = ends refl refl refl refl
  line_goes L21 e = leaves refl refl refl refl

  -- no line changes how many requests a thread has
  counts_same : (l : Line) → (does v t l h request answer).thread.count ≡ (v.thread t).count
  counts_same = each_line (λ (l : Line). (does v t l h request answer).thread.count ≡ (v.thread t).count) (omega arith)

-- one thread at most is in its turn
pub one_turn : {n h : ℕ} {v : View} {g : Ledger} → Control n h v g → (u w : ℕ) → u < n → w < n
    → phase_of (v.thread u).line ≡ combining → phase_of (v.thread w).line ≡ combining → u ≡ w
one_turn {v} c u w j k p q =
    let x = turn_line (v.thread u).line p in
    let y = turn_line (v.thread w).line q in
    one_at_turn c u w j k (omega (arith, x)) x.1 (omega (arith, y)) y.1

module _ {n h : ℕ} {v v' : View} {g : Ledger} {t : ℕ} {l : Line} {request : Request} {answer : Answer} {e : Entry} (c : Control n h v g)
    (run : Does n h v v' t l request answer) (tells : Tells t (event_in (row_of l).event (v.node (goal v t l))) v.tail.0 (goal v t l) e) where
  abbrev g' : Ledger
  g' = noted n t (v.thread t).own.0 g l

  by : Numbers (number l) (event_number e.event)
  by = rw tells.event (numbers l (v.node (goal v t l)))

  stands_at_lem : (k : ℕ) → 2 ≤ k → number l ≡ k → (v.thread t).line ≡ k
  stands_at_lem k z q = run.stands ∙ rw q (ap (λ (b : Bool). cond b 0 k) (lt-leb k 1 (omega arith)))

  same_turn : (number l ≡ 20 → ⊥) → g'.b ≡ g.b
  same_turn z = (notes n t (v.thread t).own.0 g l).b ∙ rw (ne_eqb (number l) 20 z)

  goes : Goes (event_number e.event) (phase_of (v.thread t).line) (v.thread t).begun (phase_of (v'.thread t).line) (v'.thread t).begun
  goes = rw (tells.event, ap phase_of run.stands, run.mine) (line_goes h v t request answer l run.stands)

  -- a thread leaves by line 20 or 21, which keep the counter
  counter : phase_of (v'.thread t).line ≡ leaving → (v'.thread t).served ≡ (v.thread t).served
  counter q =
      let Kept : Line → Type 0 = λ l. (does v t l h request answer).thread.served ≡ (v.thread t).served in
      rw run.mine (by_equal (event_number e.event) (event_number TurnEnds) (λ z. by_line Kept l (by.ends z) refl) λ z.
      let late : 21 ≤ stands_at (number l) = rw run.stands at (late_line (v.thread t).line ((told {e = e} goes).left q z).0) in
      let last : number l ≡ 21 = omega (arith, number_most l, stands_most (number l)) in
      by_line Kept l last refl)

  -- a call's last line
  pub last_line : Is Returns e → (eqb (number l) 11 || eqb (number l) 21) ≡ true
  last_line q = by_equal (number l) 11 (λ z. rw z) (λ z. rw (by.last q z))

  -- the thread at the next position to apply waits, if it isn't t
  waits_served : Is Applies e → (u : ℕ) → u < n → (u ≡ t → ⊥) → 6 ≤ (v.thread u).line → g.at u ≡ g.a → phase_of (v.thread u).line ≡ waiting
  waits_served q u below apart from same =
      let here = stands_at_lem 16 (omega arith) (by.serve q) in
      by_order (v.thread u).line 13 (λ i. (phases (v.thread u).line).wait from (omega arith)) λ i.
      by_order (v.thread u).line 21
      (λ to. absurd (apart (one_at_turn c u t below run.below (omega arith) (omega arith) (omega arith) (omega arith))))
      (λ to. absurd (omega (arith, (now c u 21 below (omega (arith, line_most_lem c u below))).1.past, c.order)))

  pub count_kept : (u : ℕ) → (v'.thread u).count ≡ (v.thread u).count
  count_kept = field_left (λ (th : Thread). th.count) t run.mine run.others (counts_same h v t request answer l)

  pub moves : Moves n h (seen_of v) (seen_of v') (positions_of g) (positions_of (noted n t (v.thread t).own.0 g l)) t e
  moves = record {
    below = run.below;
    thread = tells.thread;
    goes = goes;
    others = λ u z. record { phase = rw (run.others u z); begun = rw (run.others u z); counter = rw (run.others u z) };
    notes = record {
      s = (notes n t (v.thread t).own.0 g l).s ∙ rw tells.event (ap (λ (k : ℕ). g.s + k) (one_swap l _));
      a = (notes n t (v.thread t).own.0 g l).a ∙ rw tells.event (ap (λ (k : ℕ). g.a + k) (one_applied l _));
      b = λ z. same_turn (λ q. z (by.end q));
      node = λ i z. node_kept n t _ g l i (omega arith);
      new = λ q. node_kept n t _ g l g.s (omega arith) ∙ sym (tail_node c) ∙ sym (tells.assigned q);
      at_swap = λ q. at_swap n t _ g l (by.swap q) run.below;
      at_kept = λ u z f. at_kept n t _ g l u z (λ x y. f x (by.swaps y));
    };
    counter = counter;
    order = c.order.applied;
    at_below = λ u j q. at_below c u j (queued_from c u j (queued_line (v.thread u).line q));
    one_turn = one_turn c;
    no_turn = λ q u j p.
        let x = turn_line (v.thread u).line p in
        let here = stands_at_lem 12 (omega arith) (by.turn q) in
        let same = one_at_turn c u t j run.below (omega (arith, x)) x.1 (omega arith) (omega arith) in
        omega (arith, x, ap (λ (w : ℕ). (v.thread w).line) same);
    turn_at = λ q.
        let f = (known c run (by.turn q)).1 in
        let even = f.even (f.turn tt) in
        (omega (arith, f.turn tt, even), omega (arith, even));
    serving = λ q.
        let s = serving c run (by.serve q) in
        let f = known c run (by.serve q) in
        (tells.serves q ∙ s.node, s.below, omega (arith, f.1.0.most, f.1.1.applied, f.1.1.counted));
    waits = λ q u j apart p z. waits_served q u j apart (queued_line (v.thread u).line p) z;
    turn_ends = λ q. let f = known c run (by.ends q) in omega (arith, f.1.1.applied, f.1.1.counted);
    not_given = λ q i low high z.
        let same = positions_apart c i g.s (omega (arith, c.order)) (omega arith) (omega (arith, c.order)) (omega arith) (z ∙ tells.assigned q ∙ tail_node c) in
        omega arith;
    last = λ q. (last_points c run (last_line q)).1;
  }
