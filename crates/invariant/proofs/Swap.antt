-- The Swap keeps the invariant: the thread takes the dummy and its position, and the thread's own node is the new dummy at the next position. Assumes Control.
use Prim.Native.Nat.{ℕ, suc, ◌≤◌, ◌<◌}
use native.Mathlib.Omega.{arith}
use mathlib.Core.Path.{◌≡◌, refl, sym, ◌∙◌, ap}
use mathlib.Core.Bool.{true, false, false≢true}
use lib.Dec.{T}
use borrow.Author.Tests.{le-ltb}
use Rattle.object.specs.declared.Request.{Request}
use Rattle.object.specs.declared.Answer.{Answer}
use Rattle.cc_lines.specs.Lines.{L5}
use Rattle.machine.specs.Threads.{with_cur}
use Rattle.invariant.specs.Stages.{w6, queued}
use Rattle.invariant.specs.Ledger.{Ledger, swapped}
use Rattle.invariant.specs.View.{View, Does}
use Rattle.invariant.specs.Control.{slot, slot_of_thread, slot_of_tail, held, Queued, WaitFacts, wait_row, DummyFacts, StageFacts, Seat, Control}
use Rattle.object.proofs.Choice.{by_equal}
use Rattle.invariant.proofs.Upd.{upd_same, upd_other, by_two, exchange, exchange_first, exchange_second, exchange_other, exchange_twice}
use Rattle.invariant.proofs.Noted.{at_swap, at_kept, node_kept}
use Rattle.invariant.proofs.Waits.{waits_beyond}
use Rattle.invariant.proofs.Slots.{slot_thread, slot_tail}
use Rattle.invariant.proofs.Frame.{kept}
use Rattle.invariant.proofs.Seats.{queued_slot, stage_at, holds, known, tail_facts, before_tail}
use Rattle.invariant.proofs.Stable.{slot_stable, fields_same}

module _ {n h : ℕ} {v v' : View} {g : Ledger} {t : ℕ} {request : Request} {answer : Answer} (c : Control n h v g)
    (run : Does n h v v' t L5 request answer) where
  abbrev own : ℕ
  own = (v.thread t).own.0

  abbrev after : Ledger
  after = swapped n t own g

  -- the ledger after the Swap
  apart_tail : t ≡ n → ⊥
  apart_tail e = omega (arith, run.below)

  at_mine : after.at t ≡ g.s
  at_mine = at_swap n t own g L5 refl run.below

  at_tail : after.at n ≡ suc g.s
  at_tail = upd_same _ _ _

  at_other : (u : ℕ) → u ≤ n → (u ≡ t → ⊥) → (u ≡ n → ⊥) → after.at u ≡ g.at u
  at_other u k e z = at_kept n t own g L5 u (omega arith) (λ q _. e q)

  who_mine : after.who g.s ≡ t
  who_mine = upd_other _ _ _ g.s (λ e. omega arith) ∙ upd_same _ _ _

  who_tail : after.who (suc g.s) ≡ n
  who_tail = upd_same _ _ _

  who_other : (i : ℕ) → i < g.s → after.who i ≡ g.who i
  who_other i k = upd_other _ _ _ i (λ e. omega arith) ∙ upd_other _ _ _ i (λ e. omega arith)

  node_other : (i : ℕ) → i ≤ g.s → after.node i ≡ g.node i
  node_other = node_kept n t own g L5

  linked_other : (i : ℕ) → i ≤ g.s → after.linked i ≡ g.linked i
  linked_other i k = upd_other _ _ _ i (λ e. omega arith)

  -- the slots after the Swap
  mine_now : slot n v' t ≡ slot_of_thread (with_cur (v.thread t) 6 v.tail)
  mine_now = slot_thread n v' t run.below ∙ ap slot_of_thread run.mine

  tail_now : slot n v' n ≡ slot_of_tail own
  tail_now = slot_tail n v' ∙ ap (λ k. slot_of_tail k.0) run.tail

  other_now : (u : ℕ) → u ≤ n → (u ≡ t → ⊥) → (u ≡ n → ⊥) → slot n v' u ≡ slot n v u
  other_now u k e z = slot_thread n v' u (omega arith) ∙ ap slot_of_thread (run.others u e) ∙ sym (slot_thread n v u (omega arith))

  node_now : (k : ℕ) → v'.node k ≡ v.node k
  node_now k = (kept run refl k).there

  -- slots t and n exchange what they hold
  held_now : (u : ℕ) → u ≤ n → held (slot n v' u) ≡ held (slot n v (exchange t n u))
  held_now =
      by_two (λ u. u ≤ n → held (slot n v' u) ≡ held (slot n v (exchange t n u))) t n
      (λ k. rw (mine_now, exchange_first t n apart_tail, slot_tail n v))
      (λ k. rw (tail_now, exchange_second t n apart_tail) (sym (holds c t 5 run.below run.stands)))
      (λ u e z k. rw (exchange_other t n apart_tail u e z) (ap held (other_now u k e z)))

  in_range : (u : ℕ) → u ≤ n → exchange t n u ≤ n
  in_range =
      by_two (λ u. u ≤ n → exchange t n u ≤ n) t n
      (λ k. rw (exchange_first t n apart_tail) (omega arith))
      (λ k. rw (exchange_second t n apart_tail) (omega (arith, run.below)))
      (λ u e z k. rw (exchange_other t n apart_tail u e z) k)

  seated : (i w : ℕ) → after.who i ≡ w → w ≤ n → T (queued (slot n v' w).stage) → after.at w ≡ i → Seat n v' after i
  seated i w e k q a = record { who = rw e k; queued = rw e q; at = rw e a }

  out_mine : T (queued (slot n v t).stage) → ⊥
  out_mine q = rw (stage_at c t 5 run.below run.stands) at q

  -- the positions below s are not those of t and n
  still_seated : (i : ℕ) → g.r ≤ i → i < g.s → Seat n v' after i
  still_seated i j k =
      let f = c.seat i j (omega arith) in
      let x : g.who i ≡ t → ⊥ = λ e. out_mine (rw e at f.queued) in
      let y : g.who i ≡ n → ⊥ = λ e. omega (arith, rw e at f.at, (tail_facts c).1.last) in
      seated i (g.who i) (who_other i k) f.who (rw (other_now _ f.who x y) f.queued) (at_other _ f.who x y ∙ f.at)

  seat_now : (i : ℕ) → g.r ≤ i → i ≤ suc g.s → Seat n v' after i
  seat_now =
      by_two (λ i. g.r ≤ i → i ≤ suc g.s → Seat n v' after i) g.s (suc g.s)
      (λ j k. seated _ t who_mine (omega (arith, run.below)) (rw mine_now tt) at_mine)
      (λ j k. seated _ n who_tail (omega arith) (rw tail_now tt) at_tail)
      (λ i e z j k. still_seated i j (omega arith))

  -- the thread has the dummy's node and position
  mine_facts : Queued after t v.tail.0 (v.node v.tail.0) × WaitFacts (wait_row w6) after (after.at t) own v.tail.0 (v.thread t).served
  mine_facts =
      let f = tail_facts c in
      let o = known c run refl in
      let l = linked_other g.s (omega arith) in
      let none = o.none_served tt in
      let linked = l ∙ f.1.linked in
      let owned : own ≡ after.node (suc g.s) = sym (upd_same _ _ _) in
      rw at_mine (
        record {
          who = rw at_mine who_mine;
          node = rw at_mine (node_other g.s (omega arith) ∙ ap g.node (sym f.1.last) ∙ f.0.node);
          fields = rw at_mine (fields_same g after g.s _ l (λ z. absurd (false≢true (sym f.1.linked ∙ z))) refl refl (rw f.1.last at f.0.fields));
        },
        search (arith, absurd, o, f, l, owned, linked),
      )

  -- the own node is the dummy, at the position after it
  dummy_facts : Queued after n own (v.node own) × DummyFacts after (after.at n)
  dummy_facts =
      let o = known c run refl in
      let l : after.linked (suc g.s) ≡ false = upd_same _ _ _ in
      rw at_tail (
        record {
          who = rw at_tail who_tail;
          node = rw at_tail (upd_same _ _ _);
          fields = rw at_tail (record {
            next = rw l (o.next tt);
            wait = o.wait tt ∙ sym (waits_beyond g.r g.b true (suc g.s) (omega (arith, c.order)) (λ e. omega (arith, c.order)));
            completed = o.completed tt ∙ sym (le-ltb (suc g.s) g.d (omega (arith, c.order)));
          });
        },
        record { last = refl; linked = l; even = λ e. absurd (omega (arith, c.order)) },
      )

  -- the others are before Tail
  other_facts : (u : ℕ) → u ≤ n → (u ≡ t → ⊥) → (u ≡ n → ⊥) → StageFacts h after u (slot n v u).stage (slot n v u) (v.node (held (slot n v u)))
  other_facts u k e z =
      slot_stable c
      (record { s = omega arith; r = omega arith; b = omega arith; node = node_other; linked = λ j i x. linked_other j i ∙ x })
      u k _
      (λ q.
      let i = before_tail c u k z q in
      let l = linked_other (g.at u) (omega arith) in
      record {
        at = at_other u k e z;
        who = who_other _ i;
        linked = l;
        still = λ x. record { a = refl; d = refl; r = refl; b = refl };
        even = λ x y. absurd (y x);
        top = λ x. absurd (omega arith);
        fields = fields_same g after _ _ l (λ x. node_other _ i) refl refl (queued_slot c u k q).fields;
      })
      (λ q. refl)

  pub swap : Control n h v' after
  swap = record {
    order = search (arith, c.order);
    lines = λ u k. by_equal u t (λ e. rw (e, run.mine) tt) (λ e. rw (run.others u e) (c.lines u k));
    nodes = λ u k. rw (held_now u k) (c.nodes _ (in_range u k));
    apart = λ u w k j e. sym (exchange_twice t n apart_tail u)
        ∙ ap (exchange t n) (c.apart _ _ (in_range u k) (in_range w j) (sym (held_now u k) ∙ e ∙ held_now w j))
        ∙ exchange_twice t n apart_tail w;
    seat = seat_now;
    facts =
        by_two (λ u. u ≤ n → StageFacts h after u (slot n v' u).stage (slot n v' u) (v'.node (held (slot n v' u)))) t n
        (λ k. rw (mine_now, node_now) mine_facts)
        (λ k. rw (tail_now, node_now) dummy_facts)
        (λ u e z k. rw (other_now u k e z, node_now) (other_facts u k e z));
  }
