-- What the layers above ask of Control, by the numbers of lines: of threads in the queue, of the turn, of what line 16 serves, of what a call's last line
-- finds, of null, and of the node that a line writes. Assumes Control.
use Prim.Native.Nat.{ℕ, suc, ◌+◌, ◌*◌, ◌≤◌, ◌<◌}
use native.Mathlib.Omega.{arith}
use mathlib.Core.Path.{◌≡◌, sym, ◌∙◌, ap, subst}
use mathlib.Core.Bool.{Bool, true, false, cond, not, ◌&&◌, ◌||◌, false≢true}
use lib.Dec.{T, eqb, leb}
use lib.ListN.{get_or-eq_default}
use borrow.Author.Tests.{eqb-true, eq-eqb, ne_eqb, lt-leb}
use Rattle.object.proofs.Choice.{by_equal, by_order, by_test, either}
use Rattle.machine.specs.declared.Node.{Node}
use Rattle.machine.specs.declared.Thread.{Thread}
use Rattle.machine.specs.Fields.{is_null}
use Rattle.machine.specs.Lines.{stands_at}
use Rattle.dsm_lines.specs.Lines.{Line, number, pointed, L26}
use Rattle.dsm_synch.specs.Effect.{meets_null}
use Rattle.dsm_synch.proofs.Null.{PointsToNode}
use Rattle.dsm_lines.proofs.Numbers.{each_line, by_line}
use Rattle.invariant.specs.View.{View}
use Rattle.dsm_invariant.specs.Stages.{Stage, out, wait, combine, leave, nowhere, stages, stage_of, queued}
use Rattle.dsm_invariant.specs.Ledger.{Ledger, node_number, node_at}
use Rattle.dsm_invariant.specs.View.{first, goal, emptied}
use Rattle.dsm_invariant.specs.Control.{Pred, first as pred_first, after, preparing, Knows, Control, InQueue}
use Rattle.dsm_invariant.proofs.Basics.{number_range}
use Rattle.dsm_invariant.proofs.Places.{from, facts_at, queued_in, alone, prepared_home, prepared_apart, place_range, tmp_place, next_right}
use Rattle.dsm_invariant.proofs.Notes.{ending}

-- a thread in its turn, and one in the queue with no turn begun
abbrev pub combines : Stage → Bool
combines (out o) = false
combines (wait w) = false
combines (combine c) = true
combines (leave v) = false
combines nowhere = false

abbrev pub waiting : Stage → Bool
waiting (out o) = false
waiting (wait w) = true
waiting (combine c) = false
waiting (leave v) = false
waiting nowhere = false

-- one whose node is chosen, and one whose turn has begun
abbrev pub chosen : Stage → Bool
chosen s = preparing s || queued s

abbrev pub late : Stage → Bool
late (out o) = false
late (wait w) = false
late (combine c) = true
late (leave v) = true
late nowhere = false

abbrev pub HasTurn : View → ℕ → Type 0
HasTurn v u = T (combines (stage_of (v.thread u).line))

-- a call's last line is 12, 24 or 28
abbrev pub last_line : ℕ → Bool
last_line k = eqb k 12 || (eqb k 24 || eqb k 28)

pub by_last : {P : Type 0} (k : ℕ) → last_line k ≡ true → (k ≡ 12 → P) → (k ≡ 24 → P) → (k ≡ 28 → P) → P
by_last k last helped emptied gave =
    by_equal k 12 helped λ p. by_equal k 24 emptied λ q. gave (eqb-true k 28 (rw (ne_eqb k 12 p, ne_eqb k 24 q) at last))

-- the lines at which a thread points to tmpNode
abbrev pub at_tmp : ℕ → Bool
at_tmp k = leb 14 k && (leb k 27 && not (eqb k 24))

-- the number of the node that line k points to
abbrev pub pointed_at : Thread → ℕ → ℕ
pointed_at th k = cond (eqb k 9) th.pred.0 (cond (at_tmp k) th.tmp.0 th.my.0)

pub points : (th : Thread) (l : Line) → (pointed th l).0 ≡ pointed_at th (number l)
points th = each_line (λ (l : Line). (pointed th l).0 ≡ pointed_at th (number l)) (omega arith)

-- there its turn has begun, and at the others, from line 3 on, its node is chosen
pub known_there : (l : Line) → T (cond (leb (number l) 2) true (cond (at_tmp (number l)) (late (from l)) (chosen (from l))))
known_there = each_line (λ (l : Line). T (cond (leb (number l) 2) true (cond (at_tmp (number l)) (late (from l)) (chosen (from l))))) (omega arith)

-- a turn ends with 26, or with a 23 whose CAS succeeds
pub by_ending : {P : Type 0} (v : View) (t k : ℕ) → ending v t k ≡ true → (k ≡ 26 → P) → (k ≡ 23 → emptied v t ≡ true → P) → P
by_ending v t k over gave emptied =
    by_equal k 26 gave λ p. by_equal k 23 (λ q. emptied q (rw (ne_eqb k 26 p, eq-eqb k 23 q) at over))
    (λ q. absurd (false≢true (rw (ne_eqb k 26 p, ne_eqb k 23 q) at over)))

module _ {n h : ℕ} {v : View} {g : Ledger} (c : Control n h v g) where
  -- what thread u knows, where it stands at a stage
  abbrev At : ℕ → Stage → Type 0
  At u s = Knows n h g u s (v.thread u) (v.node (v.thread u).my.0)

  -- a thread's next line is one of the 28, but not 1, or none, 0
  pub line_most_lem : (u : ℕ) → u < n → (v.thread u).line ≤ 28
  line_most_lem u below =
      by_order (v.thread u).line 29 (λ i. omega arith)
      (λ i. absurd (subst (At u) (get_or-eq_default stages nowhere i) (c.facts u below)))

  pub line_begun : (u : ℕ) → u < n → (v.thread u).line ≡ 1 → ⊥
  line_begun u below e = facts_at c u 1 below e

  -- a thread in the queue has the position of a Swap
  pub at_below : (u : ℕ) → u < n → InQueue v u → g.at u < g.s
  at_below u below q = (queued_in c u below q).below

  -- a thread in its turn stands at the turn's position, so there is one at most
  turn_at : (u : ℕ) → u < n → HasTurn v u → (g.at u ≡ g.b) × InQueue v u
  turn_at u below = go (stage_of (v.thread u).line) (c.facts u below)
    where
      go : (s : Stage) → At u s → T (combines s) → (g.at u ≡ g.b) × T (queued s)
      go (out o) f q = absurd q
      go (wait w) f q = absurd q
      go (combine x) f q = (f.1.turn, tt)
      go (leave x) f q = absurd q
      go nowhere f q = absurd q

  pub one_turn : (u w : ℕ) → u < n → w < n → HasTurn v u → HasTurn v w → u ≡ w
  one_turn u w k j p q = let x = turn_at u k p in let y = turn_at w j q in alone c u w k j x.1 y.1 (x.0 ∙ sym y.0)

  -- who stands at the next position to apply while another is in its turn waits
  pub waits_served : (t u : ℕ) → t < n → u < n → (u ≡ t → ⊥) → HasTurn v t → InQueue v u → g.at u ≡ g.a → T (waiting (stage_of (v.thread u).line))
  waits_served t u k j apart p q e = go (stage_of (v.thread u).line) (c.facts u j) q
    where
      turn : (g.at t ≡ g.b) × InQueue v t
      turn = turn_at t k p

      go : (s : Stage) → At u s → T (queued s) → T (waiting s)
      go (out o) f y = y
      go (wait w) f y = tt
      go (combine x) f y = absurd (apart (alone c u t j k q turn.1 (f.1.turn ∙ sym turn.0)))
      go (leave x) f y = absurd (omega (arith, f.1.past, c.order))
      go nowhere f y = y

  -- at 9 myPredNode is not null, so null is followed at 26 alone, and put into tmpNode at 21
  pub meets_at : (u k : ℕ) (x : Node) → u < n → (v.thread u).line ≡ stands_at k
      → meets_null (v.thread u) x k ≡ ((eqb k 21 || eqb k 26) && is_null x.next)
  meets_at u k x below e =
      by_equal k 9 (λ q. rw (q, ne_eqb (v.thread u).pred.0 255 (facts_at c u 9 below (rw q at e)).1.gate.0)) (λ q. rw (ne_eqb k 9 q))

  -- myNode is the thread's own from line 3 on
  pub my_home : (u : ℕ) → u < n → T (chosen (stage_of (v.thread u).line)) → (v.thread u).my.0 ≡ node_number u (v.thread u).toggle
  my_home u below =
      by_test {P = T (chosen (stage_of (v.thread u).line)) → (v.thread u).my.0 ≡ node_number u (v.thread u).toggle} (preparing (stage_of (v.thread u).line))
      (λ e q. prepared_home c u below (rw e tt)) (λ e q. (queued_in c u below (rw e at q)).home)

  -- the nodes that a thread knows are of the 2n: its own, tmpNode in its turn and after it, myPredNode at 9, and a next that is not null
  my_range : (u : ℕ) → u < n → T (chosen (stage_of (v.thread u).line)) → (v.thread u).my.0 < 2 * n
  my_range u below q = rw (my_home u below q) (number_range n u below (c.old u below).toggled)

  tmp_range : (u : ℕ) → u < n → T (late (stage_of (v.thread u).line)) → (v.thread u).tmp.0 < 2 * n
  tmp_range u below = go (stage_of (v.thread u).line) (c.facts u below)
    where
      go : (s : Stage) → At u s → T (late s) → (v.thread u).tmp.0 < 2 * n
      go (out o) f q = absurd q
      go (wait w) f q = absurd q
      go (combine x) f q = tmp_place c f.1
      go (leave x) f q = f.1.range
      go nowhere f q = absurd q

  pred_range : (i m : ℕ) → i < g.s → (m ≡ 255 → ⊥) → Pred g i m → m < 2 * n
  pred_range i m low some (pred_first e p) = absurd (some p)
  pred_range i m low some (after j e p) = rw p (place_range c j (omega arith))

-- the node that thread t's line writes, if it writes one, is one of the 2n
module _ {n h : ℕ} {v : View} {g : Ledger} (c : Control n h v g) {t : ℕ} (l : Line) (below : t < n) (stands : (v.thread t).line ≡ stands_at (number l)) where
  written : (number l ≡ 26 → ⊥) → goal v t l ≡ pointed_at (v.thread t) (number l)
  written p = ap (λ (b : Bool). (cond b (first v t l).next (pointed (v.thread t) l)).0) (ne_eqb (number l) 26 p) ∙ points (v.thread t) l

  own_range : 2 < number l → cond (at_tmp (number l)) (v.thread t).tmp.0 (v.thread t).my.0 < 2 * n
  own_range above =
      let there = rw (lt-leb (number l) 2 above) at (known_there l) in
      either (λ (m : ℕ). m < 2 * n) (at_tmp (number l)) (λ e. tmp_range c t below (rw stands (rw e at there))) (λ e. my_range c t below (rw stands (rw e at there)))

  -- it points to a node, but for myPredNode, from line 3 on
  pub points_to_node : n ≤ 16 → PointsToNode (v.thread t) (first v t l) l
  points_to_node small above other =
      rw (points (v.thread t) l, ne_eqb (number l) 9 other)
      (ne_eqb (cond (at_tmp (number l)) (v.thread t).tmp.0 (v.thread t).my.0) 255 (λ e. omega (arith, own_range above)))

  behind_range : (v.thread t).line ≡ 26 → is_null (first v t L26).next ≡ false → goal v t L26 < 2 * n
  behind_range here some =
      let (low, joined, is) = next_right c (facts_at c t 26 below here).1 some in rw is (place_range c (suc g.k) low)

  pub goal_range : meets_null (v.thread t) (first v t l) (number l) ≡ false → 2 < number l → goal v t l < 2 * n
  goal_range fine above =
      by_equal (number l) 26
      (λ q. by_line (λ (l : Line). meets_null (v.thread t) (first v t l) (number l) ≡ false → goal v t l < 2 * n) l q (behind_range (stands ∙ ap stands_at q)) fine) λ p.
      rw (written p) (by_equal (number l) 9
      (λ q. let f = facts_at c t 9 below (stands ∙ ap stands_at q) in rw q (pred_range c _ _ f.0.below f.1.gate.0 f.1.gate.1))
      (λ q. rw (ne_eqb (number l) 9 q) (own_range above)))

-- what a thread that is to run a line knows
module _ {n h : ℕ} {v : View} {g : Ledger} (c : Control n h v g) {t : ℕ} (l : Line) (below : t < n) (stands : (v.thread t).line ≡ stands_at (number l)) where
  pub known_at : {k : ℕ} → number l ≡ k → Knows n h g t (stage_of (stands_at k)) (v.thread t) (v.node (v.thread t).my.0)
  known_at q = facts_at c t _ below (stands ∙ ap stands_at q)

  -- a turn begins at its thread's position, with all before it applied, and with no other thread in its turn
  pub turn_applied : number l ≡ 13 → (g.at t ≡ g.a) × (g.a ≡ g.b)
  turn_applied q = let f = (known_at q).1 in let even = f.even f.gate in (omega (arith, f.gate, even), omega (arith, even))

  pub no_turn : number l ≡ 13 → (u : ℕ) → u < n → HasTurn v u → ⊥
  no_turn q u there p =
      let x = turn_at c u there p in
      let here : (v.thread t).line ≡ 13 = stands ∙ ap stands_at q in
      let same = alone c u t there below x.1 (rw here tt) (x.0 ∙ sym (known_at q).1.gate) in
      rw (same, here) at p

  -- line 15 has room to count, and line 16 serves the first position that is not applied
  pub room : number l ≡ 15 → (v.thread t).served < h
  room q = omega (arith, (known_at q).1.room)

  pub serving : number l ≡ 16 → ((v.thread t).tmp.0 ≡ node_at g g.a) × (g.a < g.s) × (g.a < g.b + h)
  serving q =
      let f = (known_at q).1 in
      let same : g.k ≡ g.a = omega (arith, f.applied) in
      (f.serving ∙ ap (node_at g) same, omega (arith, f.below), omega (arith, f.counted, f.room))

  -- a turn that ends has served what its counter says
  pub turn_ends : ending v t (number l) ≡ true → (v.thread t).served + g.b ≡ g.a
  turn_ends over =
      by_ending v t (number l) over
      (λ q. let f = (known_at q).1 in omega (arith, f.counted, f.applied))
      (λ q _. let f = (known_at q).1 in omega (arith, f.counted, f.applied))

  -- a Swap puts in a node that no position has from the last applied on
  pub not_given : number l ≡ 7 → (i : ℕ) → i < g.s → g.a ≤ suc i → (v.thread t).my.0 ≡ node_at g i → ⊥
  not_given q i low high e = prepared_apart c t i below (rw (stands ∙ ap stands_at q) tt) low high e

  -- who returns has been served
  pub last : last_line (number l) ≡ true → g.at t < g.a
  last over =
      by_last (number l) over
      (λ q. omega (arith, (known_at q).1.gate, c.order))
      (λ q. omega (arith, (known_at q).1.past, c.order))
      (λ q. omega (arith, (known_at q).1.past, c.order))
