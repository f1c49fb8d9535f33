-- Calls not begun, open and returned, entry by entry. Assumes Moves, SwapOrder, Turns and Calls before the entry, what it costs,
-- and what the last parameters say of a call that returns.
use Prim.Native.Nat.{ℕ, suc, ◌+◌, ◌≤◌, ◌<◌}
use native.Mathlib.Omega.{arith}
use mathlib.Core.Path.{◌≡◌, refl, sym, ap, subst, ◌∙◌}
use mathlib.Core.Bool.{Bool, true, false, cond, false≢true}
use mathlib.Core.List.{List, [], ◌∷◌, ◌++◌}
use lib.ListN.{length, get_or, get_or-append}
use lib.Seq.{get_or_at}
use lib.Dec.{leb}
use borrow.Author.Tests.{eq-eqb, ne_eqb, le-leb, lt-leb, leb-true}
use Rattle.object.proofs.Choice.{by_equal, by_order, by_test}
use Rattle.machine.specs.declared.ThreadId.{ThreadId}
use Rattle.machine.specs.declared.Event.TheVariants.{Blank, CallBegins, Swaps, TurnBegins, Applies, TurnEnds, Returns}
use Rattle.history.specs.Entries.{Entry, thread_id, is, Is, how_many, remote_in}
use Rattle.history.specs.Terms.{Call, Serving, call_of, is_of, does, swap_order, turn_of, turn_of_call, served_in, serving_of, servings, cost_of, returned, combined}
use Rattle.history.specs.Method.{Seen, Positions, idle, waiting, combining, leaving, Moves}
use Rattle.history.specs.History.{last_call, SwapOrder, Turns, Ended, Untouched, Open, Served, Settled, Calls}
use Rattle.history.proofs.Told.{is_so, is_not, by_event, by_thread, goes, later, was_queued}
use Rattle.history.proofs.OfCall.{blank_of_none, not_of, is_of_lem, does_told, left, Added, added}
use Rattle.history.proofs.Shown.{applied}
use Rattle.history.proofs.Swaps.{of_last, order_kept}
use Rattle.history.proofs.Turns.{turn_begun, turn_kept, ended_kept, frozen, turn_ends}

module _ (Paid : Bool → ℕ → ℕ → Type 0) {n h : ℕ} {x x' : Seen} {p p' : Positions} {t : ℕ} {e : Entry} {past : List Entry} {cost cost' : ℕ → ℕ}
    (m : Moves n h x x' p p' t e) (swaps : SwapOrder n x p past) (turns : Turns n h x p past) (calls : Calls Paid n x p cost past)
    (spends : cost' t ≡ cond (is CallBegins e) 0 (cost t) + remote_in e.remote) (keeps : (u : ℕ) → (u ≡ t → ⊥) → cost' u ≡ cost u)
    (answered : Is Returns e → (w : Serving) → e.ret ≡ (get_or (servings past) (p.at t) w).answer)
    (by_another : Is Returns e → x.phase t ≡ waiting → Paid false 0 (cost t + remote_in e.remote))
    (by_itself : Is Returns e → x.phase t ≡ leaving → Paid true (x.counter t) (cost t + remote_in e.remote)) where
  -- the thread has a call, unless the entry is a blank
  has_call : (Is Blank e → ⊥) → 0 < x'.begun t
  has_call q =
      by_event e CallBegins (λ z. omega (arith, (goes m).begins z))
      (λ z. omega (arith, (goes m).same z, swaps.busy t m.below ((goes m).active q z)))

  -- which calls the entry is of
  mine : (Is Blank e → ⊥) → is_of (last_call x' t) e past ≡ true
  mine q = subst (λ (c : Call). is_of c e past ≡ true) (of_last m swaps) (is_of_lem e past q)

  another : (c : Call) → ((Is Blank e → ⊥) → c.thread.0 ≡ t → suc c.request ≡ x'.begun t → ⊥) → is_of c e past ≡ false
  another c f =
      by_event e Blank (λ q. blank_of_none e past c q) λ q.
      not_of e past c λ z.
      let is = z ∙ of_last m swaps in
      f q (ap (λ (c : Call). c.thread.0) is) (omega (arith, has_call q, ap (λ (c : Call). c.request) is))

  -- a call not begun
  fresh_kept : (c : Call) → c.thread.0 < n → x'.begun c.thread.0 ≤ c.request → Untouched (e ∷ past) c
  fresh_kept c below q =
      let old = calls.fresh c below (omega (arith, (later m c.thread.0).more)) in
      let same = left e past c (another c (λ z y o. omega (arith, rw y at q))) in
      record { cost = same.cost ∙ old.cost; returned = same.returned ∙ old.returned; combined = same.combined ∙ old.combined }

  -- a thread stays on its side of a turn's beginning, but where a turn begins or a call returns
  same_side : (u : ℕ) → (u ≡ t → Is TurnBegins e → ⊥) → 0 < x'.phase u → leb combining (x'.phase u) ≡ leb combining (x.phase u)
  same_side u apart z = by_equal u t (λ q. rw q (side ((goes m).side (apart q) (rw q at z)))) (λ q. rw (m.others u q).phase)
    where
      side : {i j : ℕ} → (i < combining → j < combining) × (combining ≤ i → combining ≤ j) → leb combining j ≡ leb combining i
      side {i} {j} s =
          by_order i combining (λ z. lt-leb combining j (s.0 z) ∙ sym (lt-leb combining i z)) (λ z. le-leb combining j (s.1 z) ∙ sym (le-leb combining i z))

  was_turned : (u : ℕ) → (u ≡ t → Is TurnBegins e → ⊥) → combining ≤ x'.phase u → combining ≤ x.phase u
  was_turned u apart z = leb-true combining (x.phase u) (sym (same_side u apart (omega arith)) ∙ le-leb combining (x'.phase u) z)

  -- equal turns have served as many
  served_then : {turn turn' : ℕ} → turn ≡ turn' → served_in turn (e ∷ past) ≡ served_in turn' (e ∷ past)
  served_then = ap (λ (turn : ℕ). served_in turn (e ∷ past))

  -- open calls: of another thread
  abbrev OpenNow : ℕ → Type 0
  OpenNow u = Open n x' u (x'.phase u) (x'.begun u) (x'.counter u) (cost' u) (e ∷ past)

  other_open : (u : ℕ) → u < n → (u ≡ t → ⊥) → 0 < x'.phase u → OpenNow u
  other_open u below q z =
      let o = m.others u q in
      let old = calls.open_call u below (rw o.phase at z) in
      let same = left e past (last_call x u) (another (last_call x u) (λ _ y _. q y)) in
      let turn = turn_kept past m u (λ y _. q y) in
      rw (o.phase, o.begun, o.counter, keeps u q) (record {
        cost = same.cost ∙ old.cost;
        returned = same.returned ∙ old.returned;
        combined = same.combined ∙ old.combined;
        turn = λ y. same.turn ∙ old.turn y ∙ sym turn;
        served = λ y. served_then turn ∙ frozen past m turns _ (old.ended y) ∙ old.served y;
        ended = rw turn (λ y. ended_kept past m _ (old.ended y));
      })

  -- what the past says of the call that the entry is of: the entry has begun it, or it was open
  record Was : Type 0 where
    spent : cost_of (last_call x' t) past ≡ cond (is CallBegins e) 0 (cost t)
    returned : returned (last_call x' t) past ≡ false
    combined : combined (last_call x' t) past ≡ leb combining (x.phase t)
    turn : combining ≤ x.phase t → turn_of_call (last_call x' t) past ≡ turn_of (thread_id t) past

  was : (Is Blank e → ⊥) → Was
  was z =
      by_event e CallBegins
      (λ q.
      let f = calls.fresh (last_call x' t) m.below (omega (arith, (goes m).begins q)) in
      let from = ((goes m).begins q).0 in
      record { spent = rw q f.cost; returned = f.returned; combined = rw from f.combined; turn = λ y. absurd (omega arith) })
      (λ q.
      let o = calls.open_call t m.below ((goes m).active z q) in
      let same = (goes m).same q in
      record {
        spent = rw (is_not e CallBegins q, same) o.cost;
        returned = rw same o.returned;
        combined = rw same o.combined;
        turn = rw same o.turn;
      })

  -- and of the thread itself
  -- an entry is of a call that has not returned
  pub still_open : (Is Blank e → ⊥) → returned (call_of e past) past ≡ false
  still_open q = subst (λ (c : Call). returned c past ≡ false) (sym (of_last m swaps)) (was q).returned

  own_open : 0 < x'.phase t → OpenNow t
  own_open z =
      let on = (goes m).busy z in
      let old = was on.0 in
      let more = added e past (last_call x' t) (mine on.0) in
      record {
        cost = omega (arith, more.cost, old.spent, spends);
        returned = more.returned ∙ rw (is_not e Returns on.1) old.returned;
        combined = more.combined ∙ by_event e TurnBegins
            (λ q. rw (is_so e TurnBegins q, ((goes m).turn q).1))
            (λ q. rw (is_not e TurnBegins q, same_side t (λ _. q) z) old.combined);
        turn = λ f. more.turn ∙ by_event e TurnBegins
            (λ q. either_turn (is_so e TurnBegins q) ∙ sym (turn_begun past m q))
            (λ q. either_turn (is_not e TurnBegins q) ∙ old.turn (was_turned t (λ _. q) f) ∙ sym (turn_kept past m t (λ _. q)));
        served = λ f. (left_turn f).1;
        ended = λ f. (left_turn f).0;
      }
    where
      either_turn : {b : Bool} → is TurnBegins e ≡ b
          → cond (is TurnBegins e) (how_many TurnBegins past) (turn_of_call (last_call x' t) past)
          ≡ cond b (how_many TurnBegins past) (turn_of_call (last_call x' t) past)
      either_turn q = rw q

      -- its turn has just ended, or had
      left_turn : x'.phase t ≡ leaving
          → Ended n x' (e ∷ past) (turn_of (thread_id t) (e ∷ past)) × (served_in (turn_of (thread_id t) (e ∷ past)) (e ∷ past) ≡ x'.counter t)
      left_turn f =
          rw (m.counter f) (by_event e TurnEnds (turn_ends past m turns) λ q.
          let was_out = (goes m).left f q in
          let o = calls.open_call t m.below (omega arith) in
          let turn = turn_kept past m t (λ _. was_out.1) in
          (rw turn (ended_kept past m _ (o.ended was_out.0)), served_then turn ∙ frozen past m turns _ (o.ended was_out.0) ∙ o.served was_out.0))

  open_kept : (u : ℕ) → u < n → 0 < x'.phase u → OpenNow u
  open_kept u below z = by_equal u t (λ q. rw q (own_open (rw q at z))) (λ q. other_open u below q z)

  -- how the open call of thread u was served, if serving i of the entries is of it
  abbrev ServedNow : ℕ → ℕ → Serving → Type 0
  ServedNow u i w = Served u (x'.phase u) (e ∷ past) (get_or (servings (e ∷ past)) i w)

  all_served : length (servings past) ≡ p.a
  all_served = applied swaps m.order

  servings_at : (i : ℕ) (w : Serving) → i < p.a → get_or (servings (e ∷ past)) i w ≡ get_or (servings past) i w
  servings_at i w b = get_or-append (servings past) _ w i (rw all_served b)

  -- the serving that an entry adds
  newly_served : (w : Serving) → Is Applies e → get_or (servings (e ∷ past)) p.a w ≡ serving_of e past
  newly_served w q =
      ap (λ (b : Bool). get_or (servings past ++ cond b (serving_of e past ∷ []) []) p.a w) (is_so e Applies q)
      ∙ get_or_at (servings past) (serving_of e past) [] w p.a all_served

  -- a call that was served already
  still_served : (u : ℕ) (w : Serving) → u < n → (u ≡ t → Is Swaps e → ⊥) → waiting ≤ x'.phase u → p.at u < p.a → ServedNow u (p.at u) w
  still_served u w below apart z y =
      let old = calls.served u w below (was_queued m u apart z) y in
      let turned : u ≡ t → Is TurnBegins e → ⊥ = λ q o. omega (arith, m.turn_at o, rw q at y) in
      rw (servings_at (p.at u) w y) (record {
        server = old.server ∙ sym (same_side u turned (omega arith));
        own_turn = λ o. old.own_turn (was_turned u turned o) ∙ sym (turn_kept past m u turned);
      })

  -- the call that the entry serves
  now_served : (u : ℕ) (w : Serving) → u < n → Is Applies e → waiting ≤ x'.phase u → p.at u ≡ p.a → ServedNow u p.a w
  now_served u w below q y z =
      rw (newly_served w q) (by_equal u t
      (λ same. rw same (record {
        server = rw (m.thread, eq-eqb t t refl) (sym (le-leb combining (x'.phase t) (omega (arith, (goes m).applies q))));
        own_turn = λ y. ap (λ (u : ThreadId). turn_of u past) (by_thread m) ∙ sym (turn_kept past m t (λ _ o. omega arith));
      }))
      (λ apart.
      let here = (m.others u apart).phase in
      let low = m.waits q u below apart (omega arith) z in
      rw here (record {
        server = rw (m.thread, ne_eqb t u (λ o. apart (sym o))) (sym (lt-leb combining (x.phase u) (omega arith)));
        own_turn = λ y. absurd (omega arith);
      })))

  served_kept : (u : ℕ) (w : Serving) → u < n → waiting ≤ x'.phase u → p'.at u < p'.a → ServedNow u (p'.at u) w
  served_kept u w below z y =
      let a_after = m.notes.a in
      let apart : u ≡ t → Is Swaps e → ⊥ = λ q o. omega (arith, m.notes.at_swap o, rw q at y, rw o at a_after, m.order) in
      let here : p'.at u ≡ p.at u = m.notes.at_kept u below apart in
      rw here (by_order (p.at u) p.a (still_served u w below apart z) λ high.
      by_event e Applies
      (λ q. let is : p.at u ≡ p.a = omega (arith, rw q at a_after) in rw is (now_served u w below q z is))
      (λ q. absurd (omega (arith, rw (is_not e Applies q) at a_after))))

  -- a returned call: no entry is of it any more
  not_of_settled : (c : Call) → Settled Paid n x p past c → is_of c e past ≡ false
  not_of_settled c o =
      another c λ z y last.
      let b : c.request < x.begun t = rw y at o.begun in
      by_event e CallBegins (λ q. omega (arith, (goes m).begins q))
      (λ q. omega (arith, (goes m).same q, (rw y at o.closed) ((goes m).active z q)))

  still_closed : (c : Call) → Settled Paid n x p past c → 0 < x'.phase c.thread.0 → suc c.request < x'.begun c.thread.0
  still_closed c o z =
      let f = later m c.thread.0 in
      by_order (x.begun c.thread.0) (x'.begun c.thread.0) (λ more. omega (arith, o.begun))
      (λ same. omega (arith, f.more, o.closed (f.busy z (omega (arith, f.more)))))

  -- its position stays, and what stands at it
  order_at : (i : ℕ) (c : Call) → i < p.a → get_or (swap_order (e ∷ past)) i c ≡ get_or (swap_order past) i c
  order_at i c b = order_kept m swaps i c (omega (arith, m.order))

  still_settled : (c : Call) → Settled Paid n x p past c → Settled Paid n x' p' (e ∷ past) c
  still_settled c o =
      let same = left e past c (not_of_settled c o) in
      record {
        thread = o.thread;
        begun = omega (arith, o.begun, (later m c.thread.0).more);
        closed = still_closed c o;
        position = o.position;
        applied = omega (arith, o.applied, m.notes.a);
        call = λ d. order_at o.position d o.applied ∙ o.call d;
        serving = λ w.
            let how = o.serving w in
            rw (servings_at o.position w o.applied) (record {
              server = how.server ∙ sym same.combined;
              own_turn = λ z. how.own_turn (sym same.combined ∙ z) ∙ sym same.turn;
              answer = same.returns ∙ how.answer;
            });
        by_another = λ z. rw same.cost (o.by_another (sym same.combined ∙ z));
        by_itself = λ z.
            let y = sym same.combined ∙ z in
            rw (same.cost, served_then same.turn ∙ frozen past m turns _ (o.ended y)) (o.by_itself y);
        ended = λ z. rw same.turn (ended_kept past m _ (o.ended (sym same.combined ∙ z)));
      }

  -- the call that returns
  module _ (last : Is Returns e) where
    active : waiting ≤ x.phase t
    active = ((goes m).returns last).0

    old : Open n x t (x.phase t) (x.begun t) (x.counter t) (cost t) past
    old = calls.open_call t m.below (omega (arith, active))

    no_turn : is TurnBegins e ≡ false
    no_turn = is_not e TurnBegins (λ z. omega arith)

    begun_same : x'.begun t ≡ x.begun t
    begun_same = (goes m).same (λ z. omega arith)

    more : Added e past (last_call x t)
    more = added e past (last_call x t) (rw (← begun_same) (mine (λ z. omega arith)))

    did_combine : combined (last_call x t) (e ∷ past) ≡ leb combining (x.phase t)
    did_combine = more.combined ∙ rw no_turn old.combined

    its_turn : combining ≤ x.phase t → turn_of_call (last_call x t) (e ∷ past) ≡ turn_of (thread_id t) past
    its_turn z = more.turn ∙ rw no_turn (old.turn z)

    its_cost : cost_of (last_call x t) (e ∷ past) ≡ cost t + remote_in e.remote
    its_cost = omega (arith, more.cost, old.cost)

    combined_then : combined (last_call x t) (e ∷ past) ≡ true → combining ≤ x.phase t
    combined_then z = leb-true combining (x.phase t) (sym did_combine ∙ z)

    waited_then : combined (last_call x t) (e ∷ past) ≡ false → x.phase t ≡ waiting
    waited_then z =
        by_order (x.phase t) combining (λ y. omega (arith, active))
        (λ y. absurd (false≢true (sym z ∙ did_combine ∙ le-leb combining (x.phase t) y)))

    returned_now : Settled Paid n x' p' (e ∷ past) (last_call x t)
    returned_now =
        let then = m.last last in
        record {
          thread = m.below;
          begun = omega (arith, begun_same, swaps.busy t m.below (omega (arith, active)));
          closed = λ z. absurd (omega (arith, ((goes m).returns last).1));
          position = p.at t;
          applied = omega (arith, then, m.notes.a);
          call = λ c. order_at (p.at t) c then ∙ swaps.mine t c m.below active;
          serving = λ w.
              let how = calls.served t w m.below active then in
              rw (servings_at (p.at t) w then) (record {
                server = how.server ∙ sym did_combine;
                own_turn = λ z. how.own_turn (combined_then z) ∙ sym (its_turn (combined_then z));
                answer = more.returns ∙ rw (is_so e Returns last) (answered last w);
              });
          by_another = λ z. rw its_cost (by_another last (waited_then z));
          by_itself = λ z.
              let from = combined_then z in
              let left = (goes m).returns_turn last from in
              rw (served_then (its_turn from) ∙ frozen past m turns _ (old.ended left) ∙ old.served left, its_cost) (by_itself last left);
          ended = λ z.
              let from = combined_then z in
              rw (its_turn from) (ended_kept past m _ (old.ended ((goes m).returns_turn last from)));
        }

  -- an entry returns its own call, or it returns none
  settled_kept : (c : Call) → returned c (e ∷ past) ≡ true → Settled Paid n x' p' (e ∷ past) c
  settled_kept c z =
      by_test (does Returns c e past)
      (λ now.
      let told = does_told e past Returns c now in
      rw (told.0 ∙ of_last m swaps, begun_same told.1) (returned_now told.1))
      (λ not_now. still_settled c (calls.settled c (rw not_now at z)))

  pub calls_kept : Calls Paid n x' p' cost' (e ∷ past)
  calls_kept = record { fresh = fresh_kept; open_call = open_kept; served = served_kept; settled = settled_kept }

-- the start: no call has begun
pub calls_fresh : (Paid : Bool → ℕ → ℕ → Type 0) (n : ℕ) (x : Seen) (p : Positions) (cost : ℕ → ℕ) → ((u : ℕ) → u < n → x.phase u ≡ idle)
    → Calls Paid n x p cost []
calls_fresh Paid n x p cost still = record {
  fresh = λ c b q. record { cost = refl; returned = refl; combined = refl };
  open_call = λ u b q. absurd (omega (arith, still u b));
  served = λ u w b q z. absurd (omega (arith, still u b));
  settled = λ c q. absurd (false≢true q);
}
