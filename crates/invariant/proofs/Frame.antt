-- The invariant after a line that keeps Tail and the node that its thread holds: it asks only for what the thread knows then, and what the others rely on.
-- Assumes Control.
use Prim.Native.Nat.{ℕ, ◌≤◌, ◌<◌}
use native.Mathlib.Omega.{arith}
use mathlib.Core.Path.{◌≡◌, refl, sym, ◌∙◌, ap}
use mathlib.Core.Bool.{Bool, true, not}
use lib.Dec.{T, T_not}
use Rattle.object.specs.declared.Request.{Request}
use Rattle.object.specs.declared.Answer.{Answer}
use Rattle.machine.specs.declared.Node.{Node}
use Rattle.machine.specs.declared.Thread.{Thread}
use Rattle.cc_lines.specs.Lines.{Line, number}
use Rattle.machine.specs.Lines.{stands_at}
use Rattle.invariant.specs.Stages.{Stage, stage_of, queued, is_thread}
use Rattle.invariant.specs.Ledger.{Ledger}
use Rattle.invariant.specs.View.{View, does, goal, Does}
use Rattle.invariant.specs.Control.{holding, slot, slot_of_thread, held, NodeFields, StageFacts, Queued, Order, Seat, Control}
use Rattle.object.proofs.Choice.{by_equal}
use Rattle.invariant.proofs.Serving.{field_left}
use Rattle.invariant.proofs.Slots.{slot_thread, slot_same, at_turn, turn_queued}
use Rattle.invariant.proofs.Waits.{waits_same, turn_same, ltb_same}
use Rattle.invariant.proofs.Seats.{stage_at, holds, queued_slot, seats_apart, node_of, owner, whose, turn_at}
use Rattle.invariant.proofs.Stable.{Grown, Rely, slot_stable, fields_same}

-- where the thread of a line stands
abbrev pub from : Line → Stage
from l = stage_of (stands_at (number l))

-- a ledger with other links and counts
abbrev pub going : Ledger → (ℕ → Bool) → ℕ → ℕ → ℕ → ℕ → Ledger
going g linked a d r b = record { s = g.s; a = a; d = d; r = r; b = b; node = g.node; who = g.who; linked = linked; at = g.at }

-- counts that a line of the turn may set: only position r is marked completed, released or given the turn
pub record Counted (g : Ledger) (a d r b : ℕ) : Type 0 where
  pub order : Order (going g g.linked a d r b)
  pub released : g.r ≤ r
  pub turned : g.b ≤ b
  pub even : (i : ℕ) → i ≡ b → (i ≡ g.b → ⊥) → (a ≡ b) × (r ≡ b)
  pub waiting : (i : ℕ) → (i ≡ g.r → ⊥) → g.r ≤ i → r ≤ i
  pub turning : (i : ℕ) → (i ≡ g.r → ⊥) → g.r ≤ i → i ≡ g.b → i ≡ b
  pub turn : (i : ℕ) → (i ≡ g.r → ⊥) → g.r ≤ i → i ≡ b → i ≡ g.b
  pub marked : (i : ℕ) → (i ≡ g.r → ⊥) → i < g.d → i < d
  pub left : (i : ℕ) → (i ≡ g.r → ⊥) → g.d ≤ i → d ≤ i

-- links that are written: none is taken back, and those of the other slots stay
pub record Links (n : ℕ) (v : View) (g : Ledger) (t : ℕ) (linked : ℕ → Bool) : Type 0 where
  pub more : (j : ℕ) → g.linked j ≡ true → linked j ≡ true
  pub same : (u : ℕ) → u ≤ n → (u ≡ t → ⊥) → T (queued (slot n v u).stage) → linked (g.at u) ≡ g.linked (g.at u)

pub no_links : {n : ℕ} {v : View} {g : Ledger} {t : ℕ} → Links n v g t g.linked
no_links = record { more = λ j e. e; same = λ u k e q. refl }

-- node m becomes y, and no other node is written
pub record Near (v v' : View) (m : ℕ) (y : Node) : Type 0 where
  pub there : v'.node m ≡ y
  pub away : (k : ℕ) → (k ≡ m → ⊥) → v'.node k ≡ v.node k

module _ {n h : ℕ} {v v' : View} {t : ℕ} {l : Line} {request : Request} {answer : Answer} (run : Does n h v v' t l request answer) where
  -- a line that writes nothing
  pub kept : (does v t l h request answer).node ≡ v.node (goal v t l) → (m : ℕ) → Near v v' m (v.node m)
  kept same m = let all = field_left (λ (x : Node). x) (goal v t l) run.there run.elsewhere same in record { there = all m; away = λ k e. all k }

  pub wrote : Near v v' (goal v t l) (does v t l h request answer).node
  wrote = record { there = run.there; away = run.elsewhere }

-- thread t runs line l, which keeps Tail, and becomes th, which holds the same node
module _ {n h : ℕ} {v v' : View} {g : Ledger} {t : ℕ} {l : Line} {request : Request} {answer : Answer} (c : Control n h v g)
    (run : Does n h v v' t l request answer) (th : Thread) (after : (does v t l h request answer).thread ≡ th)
    (tail : (does v t l h request answer).tail ≡ v.tail) (runs : T (is_thread (stage_of th.line)))
    (same : held (slot_of_thread th) ≡ holding (from l) (v.thread t)) where
  abbrev mine : ℕ
  mine = holding (from l) (v.thread t)

  -- what the other queued slots rely on, and the nodes of those out of the queue
  abbrev Others : Ledger → Type 0
  Others g' = (u : ℕ) → u ≤ n → (u ≡ t → ⊥) → T (queued (slot n v u).stage) → Rely g g' u (v'.node (held (slot n v u)))

  abbrev Outs : Type 0
  Outs = (u : ℕ) → u ≤ n → (u ≡ t → ⊥) → T (not (queued (slot n v u).stage)) → v'.node (held (slot n v u)) ≡ v.node (held (slot n v u))

  held_mine : held (slot n v t) ≡ mine
  held_mine = holds c t _ run.below run.stands

  mine_now : slot n v' t ≡ slot_of_thread th
  mine_now = slot_thread n v' t run.below ∙ ap slot_of_thread (run.mine ∙ after)

  other_now : (u : ℕ) → (u ≡ t → ⊥) → slot n v' u ≡ slot n v u
  other_now u e = slot_same n v v' u (run.tail ∙ tail) (run.others u e)

  -- every slot holds the node of before
  held_now : (u : ℕ) → held (slot n v' u) ≡ held (slot n v u)
  held_now u = by_equal u t (λ e. rw e (ap held mine_now ∙ same ∙ sym held_mine)) (λ e. ap held (other_now u e))

  -- the thread's own facts and what the others rely on make the invariant; the thread leaves the queue only from a released position
  frame : (linked : ℕ → Bool) (a d r b : ℕ)
      → Order (going g linked a d r b)
      → g.r ≤ r
      → g.b ≤ b
      → ((j : ℕ) → g.linked j ≡ true → linked j ≡ true)
      → (T (queued (from l)) → r ≤ g.at t → T (queued (stage_of th.line)))
      → StageFacts h (going g linked a d r b) t (stage_of th.line) (slot_of_thread th) (v'.node mine)
      → Others (going g linked a d r b)
      → Outs
      → Control n h v' (going g linked a d r b)
  frame linked a d r b order released turned more stays facts others outs = record {
    order = order;
    lines = λ u k. by_equal u t (λ e. rw (e, run.mine, after) runs) (λ e. rw (run.others u e) (c.lines u k));
    nodes = λ u k. rw (held_now u) (c.nodes u k);
    apart = λ u w k j e. c.apart u w k j (sym (held_now u) ∙ e ∙ held_now w);
    seat = λ i j k. seated i j (c.seat i (omega arith) k);
    facts = λ u k. by_equal u t
        (λ e. rw (e, mine_now, same) facts)
        (λ e. rw (other_now u e) (slot_stable c grown u k _ (others u k e) (outs u k e)));
  }
    where
      grown : Grown g (going g linked a d r b)
      grown = record { s = omega arith; r = released; b = turned; node = λ j z. refl; linked = λ j k. more j }

      seated : (i : ℕ) → r ≤ i → Seat n v g i → Seat n v' (going g linked a d r b) i
      seated i j f = record {
        who = f.who;
        queued = by_equal (g.who i) t
            (λ e. rw (e, mine_now) (stays (rw (e, stage_at c t _ run.below run.stands) at f.queued) (omega (arith, rw e at f.at))))
            (λ e. rw (other_now _ e) f.queued);
        at = f.at;
      }

  -- counts stay, and no node but the thread's is written
  pub home : {linked : ℕ → Bool} {y : Node}
      → Links n v g t linked
      → Near v v' mine y
      → (T (queued (from l)) → g.r ≤ g.at t → T (queued (stage_of th.line)))
      → StageFacts h (going g linked g.a g.d g.r g.b) t (stage_of th.line) (slot_of_thread th) y
      → Control n h v' (going g linked g.a g.d g.r g.b)
  home {linked = linked} links near stays facts =
      frame linked g.a g.d g.r g.b (search c.order) (omega arith) (omega arith) links.more stays (rw near.there facts) rely
      (λ u k e q. apart_now u k e)
    where
      apart_now : (u : ℕ) → u ≤ n → (u ≡ t → ⊥) → v'.node (held (slot n v u)) ≡ v.node (held (slot n v u))
      apart_now u k e = near.away _ (λ z. e (c.apart u t k (omega (arith, run.below)) (z ∙ sym held_mine)))

      rely : Others (going g linked g.a g.d g.r g.b)
      rely u k e q = record {
        at = refl;
        who = refl;
        linked = links.same u k e q;
        still = λ z. record { a = refl; d = refl; r = refl; b = refl };
        even = λ i j. absurd (j i);
        top = λ z. refl;
        fields = rw (apart_now u k e) (fields_same g _ _ _ (links.same u k e q) (λ z. refl) refl refl (queued_slot c u k q).fields);
      }

  -- the thread has the turn, sets counts, and no node but that of position r is written
  pub far : (a d r b : ℕ)
      → T (at_turn (from l))
      → T (queued (stage_of th.line))
      → goal v t l ≡ g.node g.r
      → Counted g a d r b
      → NodeFields (going g g.linked a d r b) g.r (does v t l h request answer).node
      → ((y : Node)
      → Queued (going g g.linked a d r b) t (v.thread t).cur.0 y
      → StageFacts h (going g g.linked a d r b) t (stage_of th.line) (slot_of_thread th) y)
      → Control n h v' (going g g.linked a d r b)
  far a d r b turn stays at counts there facts =
      frame g.linked a d r b counts.order counts.released counts.turned (λ j z. z) (λ q k. stays) (facts _ mine_queued) rely out_now
    where
      in_range : t ≤ n
      in_range = omega (arith, run.below)

      has_turn : T (at_turn (slot n v t).stage)
      has_turn = rw (stage_at c t _ run.below run.stands) turn

      in_turn : T (queued (slot n v t).stage)
      in_turn = turn_queued (slot n v t).stage has_turn

      top : g.r ≤ g.s
      top = omega (arith, c.order)

      away : (k : ℕ) → (k ≡ g.node g.r → ⊥) → v'.node k ≡ v.node k
      away k e = run.elsewhere k (λ z. e (z ∙ at))

      -- the slot at position r sees the written node, the others the fields of before
      fields_now : (u : ℕ) → u ≤ n → T (queued (slot n v u).stage) → NodeFields (going g g.linked a d r b) (g.at u) (v'.node (held (slot n v u)))
      fields_now u k q =
          by_equal (g.at u) g.r
          (λ e. rw (node_of c u k q, e, ← at, run.there) there)
          (λ e. rw (away _ (λ z. e (whose c u g.r k (omega arith) top z)))
          (fields_same g _ _ _ refl (λ z. refl)
          (waits_same g.r g.b true r b true (g.at u) (λ z. omega (arith, counts.released)) (counts.waiting _ e)
          (λ z. turn_same g.b b true (g.at u) (counts.turning _ e z) (counts.turn _ e z)))
          (ltb_same (g.at u) g.d d (counts.marked _ e) (counts.left _ e))
          (queued_slot c u k q).fields))

      mine_queued : Queued (going g g.linked a d r b) t (v.thread t).cur.0 (v'.node mine)
      mine_queued =
          let f = queued_slot c t in_range in_turn in
          record {
            who = f.who;
            node = f.node ∙ ap (λ x. x.cur) (slot_thread n v t run.below);
            fields = rw held_mine at (fields_now t in_range in_turn);
          }

      out_now : Outs
      out_now u k e q =
          away _ (λ z. T_not (queued (slot n v u).stage) q
          (rw (owner c u g.r k (omega arith) top z) at (c.seat g.r (omega arith) top).queued))

      rely : Others (going g g.linked a d r b)
      rely u k e q = record {
        at = refl;
        who = refl;
        linked = refl;
        still = λ z. absurd (e (seats_apart c u t k in_range q in_turn (z ∙ sym (turn_at c t in_range has_turn))));
        even = counts.even _;
        top = λ z. refl;
        fields = fields_now u k q;
      }
