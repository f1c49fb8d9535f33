-- Swap order, entry by entry: positions, the calls that nodes were given to, and the calls served. Assumes Moves and Swaps before the entry.
use Prim.Native.Nat.{ℕ, suc, ◌+◌, ◌≤◌, ◌<◌}
use native.Mathlib.Omega.{arith}
use mathlib.Core.Path.{◌≡◌, refl, sym, ◌∙◌, ap, subst}
use mathlib.Core.Bool.{Bool, true, false, cond, ◌&&◌}
use mathlib.Core.List.{List, [], ◌∷◌, ◌++◌, map, append-nil, map-append}
use lib.ListN.{length, get_or, take, length-append, get_or-append}
use lib.Seq.{take-append-le, take-suc, get_or_at}
use lib.Dec.{eqb}
use borrow.Author.Tests.{eq-eqb, ne_eqb}
use Rattle.object.proofs.Choice.{by_equal, by_order}
use Rattle.machine.specs.declared.ThreadId.{ThreadId}
use Rattle.machine.specs.declared.Event.TheVariants.{CallBegins, Swaps, Applies}
use Rattle.step.specs.Entry.{one_if}
use Rattle.history.specs.Entries.{Entry, thread_id, is, Is}
use Rattle.history.specs.Terms.{Call, Serving, begun_by, call_of, swap_order, call_assigned, servings}
use Rattle.history.specs.Method.{Seen, Positions, idle, waiting, Notes, Moves}
use Rattle.history.specs.History.{node_id, last_of, last_call, Swapped, SwapOrder}
use Rattle.history.proofs.Told.{is_so, is_not, by_event, by_thread, goes, later}

-- what one entry adds to a list
pub length_more : {A : Type 0} (b : Bool) (l : List A) (x : A) → length (l ++ cond b (x ∷ []) []) ≡ length l + one_if b
length_more true l x = length-append l (x ∷ [])
length_more false l x = length-append l []

module _ {n h : ℕ} {x x' : Seen} {p p' : Positions} {t : ℕ} {e : Entry} {past : List Entry} (m : Moves n h x x' p p' t e) (w : SwapOrder n x p past) where
  note : Notes n t e p p'
  note = m.notes

  begun_kept : (u : ℕ) → u < n → begun_by (thread_id u) (e ∷ past) ≡ x'.begun u
  begun_kept u below =
      by_equal u t
      (λ same.
      let was = w.begun u below ∙ ap x.begun same in
      rw (same, m.thread, eq-eqb t t refl)
      (by_event e CallBegins
      (λ q. rw q (omega (arith, (goes m).begins q)))
      (λ q. rw (is_not e CallBegins q) (omega (arith, (goes m).same q)))))
      (λ apart. rw (m.thread, ne_eqb t u (λ q. apart (sym q)), (m.others u apart).begun) (omega (arith, w.begun u below)))

  busy_kept : (u : ℕ) → u < n → 0 < x'.phase u → 0 < x'.begun u
  busy_kept u below i =
      let f = later m u in
      by_order (x.begun u) (x'.begun u) (λ j. omega arith)
      (λ j. let was = w.busy u below (f.busy i (omega (arith, f.more))) in omega (arith, f.more))

  -- the entry is of the last call of its thread
  pub of_last : call_of e past ≡ last_call x' t
  of_last = ap (λ (u : ThreadId). last_of u.0 (begun_by u (e ∷ past))) (by_thread m) ∙ ap (last_of t) (begun_kept t m.below)

  -- positions up to the last Swap, and the entry's own
  pub by_position : {P : Type 0} (i : ℕ) → i < p'.s → (i < p.s → P) → (Is Swaps e → i ≡ p.s → P) → P
  by_position i below old new =
      let more = note.s in
      by_order i p.s old
      (λ j.
      by_event e Swaps (λ q. new q (omega (arith, rw q at more))) (λ q. absurd (omega (arith, rw (is_not e Swaps q) at more))))

  pub order_kept : (i : ℕ) (c : Call) → i < p.s → get_or (swap_order (e ∷ past)) i c ≡ get_or (swap_order past) i c
  order_kept i c below = get_or-append (swap_order past) _ c i (omega (arith, w.swaps))

  pub order_new : (c : Call) → Is Swaps e → get_or (swap_order (e ∷ past)) p.s c ≡ last_call x' t
  order_new c swap = rw (is_so e Swaps swap) (get_or_at (swap_order past) (call_of e past) [] c p.s w.swaps ∙ of_last)

  swapped_kept : (c : Call) → Swapped n x c → Swapped n x' c
  swapped_kept c s =
      let f = later m c.thread.0 in
      record {
        thread = s.thread;
        begun = omega (arith, s.begun, f.more);
        before = λ i.
            by_order (x.begun c.thread.0) (x'.begun c.thread.0) (λ j. omega (arith, s.begun))
            (λ j. let q = s.before (f.before i (omega (arith, f.more))) in omega (arith, f.more));
      }

  -- the Swap's own call has now done it, and had not
  swapped_now : Is Swaps e → Swapped n x' (last_call x' t)
  swapped_now swap =
      let next = (goes m).swaps swap in
      record { thread = m.below; begun = omega (arith, busy_kept t m.below (omega arith)); before = λ i. absurd (omega arith) }

  pub not_yet : (c : Call) → Is Swaps e → Swapped n x c → c ≡ last_call x' t → ⊥
  not_yet c swap f same =
      let last : Swapped n x (last_call x' t) = rw same at f in
      let early = last.before ((goes m).swaps swap).0 in
      omega (arith, (goes m).same (λ q. omega arith))

  mine_kept : (u : ℕ) (c : Call) → u < n → waiting ≤ x'.phase u → get_or (swap_order (e ∷ past)) (p'.at u) c ≡ last_call x' u
  mine_kept u c below i =
      let f = later m u in
      by_order (x.phase u) waiting (λ j. let q = f.enters i j in rw (q.0, note.at_swap q.1) (order_new c q.1))
      (λ j.
      let in_queue_lem = f.within j in
      rw (note.at_kept u below in_queue_lem.1, in_queue_lem.0) (order_kept (p.at u) c (m.at_below u below j) ∙ w.mine u c below j))

  -- a Swap's node is no position's whose request is still to be applied
  not_given : (i : ℕ) → p.a ≤ i → i < p.s → (is Swaps e && eqb e.node.0 (p.node i)) ≡ false
  not_given i low high =
      by_event e Swaps
      (λ q. rw (is_so e Swaps q) (ne_eqb e.node.0 (p.node i) (λ z. m.not_given q i low high (sym z))))
      (λ q. rw (is_not e Swaps q))

  given_kept : (i : ℕ) (c : Call) → p'.a ≤ i → i < p'.s → call_assigned (node_id (p'.node i)) (e ∷ past) ≡ get_or (swap_order (e ∷ past)) i c
  given_kept i c low high =
      let more = note.a in
      by_position i high
      (λ j.
      subst (λ (k : ℕ). call_assigned (node_id k) (e ∷ past) ≡ get_or (swap_order (e ∷ past)) i c) (sym (note.node i j))
      (rw (order_kept i c j, not_given i (omega arith) j) (w.given i c (omega arith) j)))
      (λ swap same. rw (same, note.new swap, order_new c swap, is_so e Swaps swap, eq-eqb e.node.0 e.node.0 refl) of_last)

  -- what is applied is the request of the first call that is not served
  pub serves_next : Is Applies e → (c : Call) → call_assigned e.node past ≡ get_or (swap_order past) p.a c
  serves_next q c = let f = m.serving q in rw f.0 (w.given p.a c (omega arith) f.1)

  served_kept : map (λ (w : Serving). w.call) (servings (e ∷ past)) ≡ take p'.a (swap_order (e ∷ past))
  served_kept =
      by_event e Applies
      (λ q.
      let more : p'.a ≡ suc p.a = omega (arith, rw q at note.a) in
      let high : suc p.a ≤ length (swap_order past) = omega (arith, (m.serving q).1, w.swaps) in
      rw (
        is_so e Applies q,
        more,
        take-append-le (suc p.a) (swap_order past) _ high,
        take-suc (swap_order past) p.a (last_call x t) high,
        ← w.served,
        ← serves_next q (last_call x t),
      )
      (map-append _ (servings past) _))
      (λ q.
      let same : p'.a ≡ p.a = omega (arith, rw (is_not e Applies q) at note.a) in
      let high : p.a ≤ length (swap_order past) = omega (arith, w.swaps, m.order) in
      rw (is_not e Applies q, append-nil, same, take-append-le p.a (swap_order past) _ high) w.served)

  pub swaps_kept : SwapOrder n x' p' (e ∷ past)
  swaps_kept = record {
    begun = begun_kept;
    busy = busy_kept;
    swaps = length_more (is Swaps e) (swap_order past) (call_of e past) ∙ omega (arith, w.swaps, note.s);
    swapped = λ i c below.
        by_position i below (λ j. rw (order_kept i c j) (swapped_kept _ (w.swapped i c j))) (λ swap same. rw (same, order_new c swap) (swapped_now swap));
    once = λ i j c below high.
        by_position j high (λ k. rw (order_kept i c (omega arith), order_kept j c k) (w.once i j c below k))
        (λ swap last. rw (last, order_kept i c (omega arith), order_new c swap) (not_yet _ swap (w.swapped i c (omega arith))));
    mine = mine_kept;
    given = given_kept;
    served = served_kept;
  }

-- the start: every thread is idle and has begun nothing, and nothing is swapped or applied
pub swaps_fresh : (n : ℕ) (x : Seen) (p : Positions) → ((u : ℕ) → u < n → x.phase u ≡ idle) → ((u : ℕ) → u < n → x.begun u ≡ 0)
    → p.s ≡ 0 → p.a ≡ 0 → SwapOrder n x p []
swaps_fresh n x p still none s a = record {
  begun = λ u below. sym (none u below);
  busy = λ u below k. absurd (omega (arith, still u below));
  swaps = sym s;
  swapped = λ i c k. absurd (omega arith);
  once = λ i j c k m. absurd (omega arith);
  mine = λ u c below k. absurd (omega (arith, still u below));
  given = λ i c k m. absurd (omega arith);
  served = rw a;
}
