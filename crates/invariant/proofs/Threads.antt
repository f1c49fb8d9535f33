-- What the invariant tells of threads by the number of their line: of those in the queue, of the turn, and of the call that line 16 serves. Assumes Control.
use Prim.Native.Nat.{ℕ, ◌+◌, ◌-◌, ◌≤◌, ◌<◌}
use native.Mathlib.Omega.{arith}
use mathlib.Core.Path.{◌≡◌, refl, sym, ap, ◌∙◌}
use mathlib.Core.Bool.{Bool, true, ◌||◌, false≢true}
use lib.Dec.{T, eqb}
use lib.ListN.{drop, take, length-drop, get_or-eq_default}
use lib.Seq.{get_or-drop}
use Rattle.object.specs.declared.Request.{Request}
use Rattle.object.specs.declared.Answer.{Answer}
use Rattle.object.specs.Each.{every}
use Rattle.cc_lines.specs.Lines.{Line, number}
use Rattle.state.proofs.Kept.{first_at}
use Rattle.cc_lines.proofs.Numbers.{by_line, by_last}
use Rattle.invariant.specs.Stages.{Stage, dummy, stages, stage_of, queued}
use Rattle.invariant.specs.Ledger.{Ledger}
use Rattle.invariant.specs.View.{View, goal, Does}
use Rattle.invariant.specs.Control.{slot_of_thread, slot, held, Control}
use Rattle.object.proofs.Choice.{by_order}
use Rattle.invariant.proofs.Slots.{slot_thread, held_queued, at_turn}
use Rattle.invariant.proofs.Seats.{node_of, one_turn, tail_facts, before_tail, linked_below, stage_at, now, known}

-- a test of the stages of lines i to i + m - 1
stage_passes : (p : Stage → Bool) (i m : ℕ) → every p (take m (drop i stages)) ≡ true → i + m ≤ 22 → (k : ℕ) → i ≤ k → k < i + m → T (p (stage_of k))
stage_passes p i m all few k from to =
    let at : i + (k - i) ≡ k = omega arith in
    let passes = first_at p m (drop i stages) (k - i) all (omega arith) (rw length-drop (omega arith)) dummy in
    rw (rw (get_or-drop i stages, at) at passes) tt

-- a thread that has done its Swap and has not returned
abbrev pub InQueue : View → ℕ → Type 0
InQueue v u = T (queued (stage_of (v.thread u).line))

-- the thread u of a linked position i: it has announced its request
pub record Linked (n : ℕ) (v : View) (g : Ledger) (i u : ℕ) : Type 0 where
  pub below : u < n
  pub queued : InQueue v u
  pub at : g.at u ≡ i
  pub node : (v.thread u).cur.0 ≡ g.node i
  pub announced : (v.thread u).line ≡ 6 → ⊥

-- line 16 points to node m, that of the first position that is not applied, a thread's
pub record Serves (n : ℕ) (v : View) (g : Ledger) (m : ℕ) : Type 0 where
  pub node : m ≡ g.node g.a
  pub below : g.a < g.s
  pub who : Linked n v g g.a (g.who g.a)

module _ {n h : ℕ} {v : View} {g : Ledger} (c : Control n h v g) where
  -- a thread's next line is one of the 21
  pub line_most_lem : (u : ℕ) → u < n → (v.thread u).line ≤ 21
  line_most_lem u below =
      by_order (v.thread u).line 22 (λ i. omega arith)
      (λ i. absurd (rw (get_or-eq_default stages dummy i) at (c.lines u below)))

  -- from line 6 on it is in the queue
  pub queued_from : (u : ℕ) → u < n → 6 ≤ (v.thread u).line → InQueue v u
  queued_from u below from = let most = line_most_lem u below in stage_passes queued 6 16 refl (omega arith) (v.thread u).line from (omega arith)

  slot_queued : (u : ℕ) → u < n → InQueue v u → T (queued (slot n v u).stage)
  slot_queued u below q = rw (slot_thread n v u below) q

  held_cur : (u : ℕ) → u < n → InQueue v u → held (slot n v u) ≡ (v.thread u).cur.0
  held_cur u below q = rw (slot_thread n v u below) (held_queued (slot_of_thread (v.thread u)) q)

  -- a thread in the queue has the node of its position
  pub node_cur : (u : ℕ) → u < n → InQueue v u → (v.thread u).cur.0 ≡ g.node (g.at u)
  node_cur u below q = sym (held_cur u below q) ∙ node_of c u (omega arith) (slot_queued u below q)

  -- and its position is before Tail's
  pub at_below : (u : ℕ) → u < n → InQueue v u → g.at u < g.s
  at_below u below q = before_tail c u (omega arith) (λ e. omega arith) (slot_queued u below q)

  -- threads in the queue have different nodes
  pub curs_apart : (u w : ℕ) → u < n → w < n → InQueue v u → InQueue v w → (v.thread u).cur.0 ≡ (v.thread w).cur.0 → u ≡ w
  curs_apart u w bu bw qu qw e = c.apart u w (omega arith) (omega arith) (held_cur u bu qu ∙ e ∙ sym (held_cur w bw qw))

  -- a linked position from the released on is a thread's
  linked_thread : (i : ℕ) → g.r ≤ i → i ≤ g.s → g.linked i ≡ true → Linked n v g i (g.who i)
  linked_thread i low high linked =
      let s = c.seat i low high in
      let w = g.who i in
      let other : w ≡ n → ⊥ = λ e. omega (arith, linked_below c i high linked, (tail_facts c).1.last, s.at, ap g.at e) in
      let below : w < n = omega (arith, s.who) in
      let q : InQueue v w = rw (slot_thread n v w below) at s.queued in
      record {
        below = below;
        queued = q;
        at = s.at;
        node = node_cur w below q ∙ ap g.node s.at;
        announced = λ e. false≢true (sym (now c w 6 below e).1.linked ∙ ap g.linked s.at ∙ linked);
      }

  -- lines 12 to 20 are the turn's, which one thread has at most
  pub one_at_turn : (u w : ℕ) → u < n → w < n → 12 ≤ (v.thread u).line → (v.thread u).line ≤ 20
      → 12 ≤ (v.thread w).line → (v.thread w).line ≤ 20 → u ≡ w
  one_at_turn u w bu bw fu tu fw tw = one_turn c u w (omega arith) (omega arith) (has_turn u bu fu tu) (has_turn w bw fw tw)
    where
      has_turn : (u : ℕ) → u < n → 12 ≤ (v.thread u).line → (v.thread u).line ≤ 20 → T (at_turn (slot n v u).stage)
      has_turn u below from to = rw (stage_at c u _ below refl) (stage_passes at_turn 12 9 refl (omega arith) (v.thread u).line from (omega arith))

  module _ {v' : View} {t : ℕ} {l : Line} {request : Request} {answer : Answer} (d : Does n h v v' t l request answer) where
    pub serving : number l ≡ 16 → Serves n v g (goal v t l)
    serving q =
        let f = (known c d q).1.1 in
        let same : g.a ≡ g.r = omega (arith, f.applied) in
        let linked = ap g.linked same ∙ f.linked tt in
        let high : g.a ≤ g.s = omega (arith, c.order) in
        record {
          node = by_line (λ (l : Line). goal v t l ≡ (v.thread t).tmp.0) l q refl ∙ f.serving ∙ ap g.node (sym same);
          below = linked_below c g.a high linked;
          who = linked_thread g.a (omega arith) high linked;
        }

    -- a call's last line points to curNode, whose request is applied
    pub last_points : (eqb (number l) 11 || eqb (number l) 21) ≡ true → (goal v t l ≡ (v.thread t).cur.0) × (g.at t < g.a)
    last_points last =
        let Back : Line → Type 0 = λ l. goal v t l ≡ (v.thread t).cur.0 in
        by_last (number l) last
        (λ q. (by_line Back l q refl, omega (arith, (known c d q).1.released tt, c.order)))
        (λ q. (by_line Back l q refl, omega (arith, (known c d q).1.past, c.order)))
