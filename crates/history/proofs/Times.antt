-- Calls in time, entry by entry, and what the numbers of entries say of them. Assumes, entry by entry, Moves and what held before; where numbers are compared, a
-- history of at most 32,768 entries.
use Prim.Native.Nat.{ℕ, suc, ◌≤◌, ◌<◌}
use native.Mathlib.Omega.{arith}
use mathlib.Core.Path.{◌≡◌, refl, sym, ap, ap₂, subst, ◌∙◌}
use mathlib.Core.Bool.{Bool, true, false, cond, ◌&&◌, ◌||◌, false≢true, and-false, or-true, and-eq-true_iff}
use mathlib.Core.List.{List, [], ◌∷◌}
use lib.ListN.{length, get_or}
use Rattle.object.proofs.Choice.{by_equal, by_order, by_test}
use Rattle.machine.specs.declared.Event.{Event}
use Rattle.machine.specs.declared.Event.TheVariants.{Blank, CallBegins, Swaps, Returns}
use Rattle.machine.specs.Events.{event_number}
use Rattle.history.specs.Entries.{Entry, happened, is, Is}
use Rattle.history.specs.Terms.{Call, call_of, is_of, does, swap_order, returned, no_entry, number_where, began_at, swapped_at, returned_at, precedes}
use Rattle.history.specs.Method.{Seen, Positions, Moves}
use Rattle.history.specs.History.{last_call, Swapped, SwapOrder, SwapTime, Ordered, Times}
use Rattle.history.proofs.Told.{is_so, is_not, by_event, goes}
use Rattle.history.proofs.OfCall.{call, is_of_lem, does_told, does_so, not_returned, left}
use Rattle.history.proofs.Swaps.{of_last, by_position, order_kept, order_new, not_yet}

-- the number of the latest entry that passes a test: one of the past's, or of none
module _ (test : Entry → List Entry → Bool) where
  abbrev number : List Entry → ℕ
  number = number_where test

  pub number_below : (past : List Entry) → happened test past ≡ true → number past < length past
  number_below [] z = absurd (false≢true z)
  number_below (e ∷ past) z = go (test e past) (number_below past) z
    where
      go : (b : Bool) → (happened test past ≡ true → number past < length past) → (b || happened test past) ≡ true
          → cond b (length past) (number past) < suc (length past)
      go true on y = omega arith
      go false on y = omega (arith, on y)

  pub number_none : (past : List Entry) → happened test past ≡ false → number past ≡ no_entry
  number_none [] z = refl
  number_none (e ∷ past) z = go (test e past) (number_none past) z
    where
      go : (b : Bool) → (happened test past ≡ false → number past ≡ no_entry) → (b || happened test past) ≡ false → cond b (length past) (number past) ≡ no_entry
      go true on y = absurd (false≢true (sym y))
      go false on y = on y

  -- so it has 32 bits
  pub number_most : (past : List Entry) → length past ≤ 32768 → number past ≤ no_entry
  number_most past short =
      by_test (happened test past) (λ y. omega (arith, number_below past y)) (λ y. omega (arith, number_none past y))

  -- a number below that of none is one of the past's
  pub number_some : (past : List Entry) → number past < no_entry → (happened test past ≡ true) × (number past < length past)
  number_some past z =
      by_test (happened test past) (λ y. (y, number_below past y)) (λ y. absurd (omega (arith, number_none past y)))

-- an entry is one event, and passes no test for another
neither : (e : Entry) (event other : Event) → (event_number event ≡ event_number other → ⊥) → Is event e → (b : Bool) → (b && is other e) ≡ false
neither e event other apart q b = ap (λ (c : Bool). b && c) (is_not e other (λ z. apart (sym q ∙ z))) ∙ and-false b

-- a call whose return has a lower number than another's beginning had returned when that began
pub by_numbers : (c other : Call) (past : List Entry) → length past ≤ 32768 → began_at other past < length past → returned_at c past < began_at other past
    → precedes c other past ≡ true
by_numbers c other [] short begun z = absurd (omega arith)
by_numbers c other (e ∷ past) short begun z =
    by_test (does CallBegins other e past)
    (λ now.
    let begins = (does_told e past CallBegins other now).1 in
    let before : returned_at c past < length past = rw (now, neither e CallBegins Returns (λ q. omega arith) begins (is_of c e past)) at z in
    rw (now, (number_some (does Returns c) past (omega arith)).0))
    (λ not_now.
    let old : began_at other past < length past = (number_some (does CallBegins other) past (omega (arith, rw not_now at begun))).1 in
    by_test (does Returns c e past)
    (λ returns. absurd (omega (arith, rw (not_now, returns) at z)))
    (λ no_return. rw (by_numbers c other past (omega arith) old (rw (not_now, no_return) at z), or-true)))

module _ {n h : ℕ} {x x' : Seen} {p p' : Positions} {t : ℕ} {e : Entry} {past : List Entry} (m : Moves n h x x' p p' t e) (swaps : SwapOrder n x p past)
    (still : (Is Blank e → ⊥) → returned (call_of e past) past ≡ false) (times : Times n x p past) where
  -- a call that has begun now and had not before begins with this entry
  new_begins : (c : Call) → x.begun c.thread.0 ≤ c.request → c.request < x'.begun c.thread.0 → does CallBegins c e past ≡ true
  new_begins c old new =
      by_equal c.thread.0 t
      (λ z.
      let low : x.begun t ≤ c.request = rw z at old in
      let high : c.request < x'.begun t = rw z at new in
      by_event e CallBegins
      (λ q.
      let is : c ≡ call_of e past = ap₂ call z (omega (arith, (goes m).begins q)) ∙ sym (of_last m swaps) in
      rw (is, is_of_lem e past (λ y. omega arith)) (is_so e CallBegins q))
      (λ q. absurd (omega (arith, (goes m).same q))))
      (λ z. absurd (omega (arith, (m.others c.thread.0 z).begun)))

  began_kept : (c : Call) → c.thread.0 < n → c.request < x'.begun c.thread.0 → began_at c (e ∷ past) < suc (length past)
  began_kept c below begun =
      by_test (does CallBegins c e past) (λ now. rw now (omega arith)) λ not_now.
      rw not_now
      (by_order c.request (x.begun c.thread.0) (λ old. omega (arith, times.began c below old))
      (λ new. absurd (false≢true (sym not_now ∙ new_begins c new begun))))

  -- a call that had returned has, and one that no longer is its thread's open call returns with this entry
  still_returned : (c : Call) → returned c past ≡ true → returned c (e ∷ past) ≡ true
  still_returned c old = ap (λ (b : Bool). does Returns c e past || b) old ∙ or-true (does Returns c e past)

  closed_kept : (c : Call) → c.thread.0 < n → c.request < x'.begun c.thread.0 → (0 < x'.phase c.thread.0 → suc c.request < x'.begun c.thread.0)
      → returned c (e ∷ past) ≡ true
  closed_kept c below begun shut =
      by_equal c.thread.0 t
      (λ z.
      let begun : c.request < x'.begun t = rw z at begun in
      let shut : 0 < x'.phase t → suc c.request < x'.begun t = rw z at shut in
      let before : c.request < x.begun t → (0 < x.phase t → suc c.request < x.begun t) → returned c (e ∷ past) ≡ true =
      λ b s. still_returned c (times.closed c below (rw z b) (rw z s)) in
      by_event e Returns
      (λ q.
      let same : x'.begun t ≡ x.begun t = (goes m).same (λ y. omega arith) in
      by_equal (suc c.request) (x.begun t)
      (λ last.
      let mine : call_of e past ≡ c = of_last m swaps ∙ ap₂ call (sym z) (omega arith) in
      rw (subst (λ (d : Call). does Returns d e past ≡ true) mine (does_so e past Returns (λ y. omega arith) q)))
      (λ other. before (omega arith) (λ on. omega arith)))
      (λ q.
      by_event e CallBegins (λ y. before (omega (arith, (goes m).begins y, shut (omega (arith, (goes m).begins y)))) (λ on. absurd (omega (arith, (goes m).begins y))))
      (λ y.
      let same : x'.begun t ≡ x.begun t = (goes m).same y in
      before (omega arith) (λ on. by_equal (x'.phase t) 0 (λ w. absurd (q ((goes m).stops on w))) (λ w. let s = shut (omega arith) in omega arith)))))
      (λ z.
      let o = m.others c.thread.0 z in
      still_returned c (times.closed c below (rw o.begun at begun) (rw (o.begun, o.phase) at shut)))

  -- of a call that has returned there is no entry more
  no_more : (c : Call) → returned c past ≡ true → is_of c e past ≡ false
  no_more c old = by_test (is_of c e past) (λ y. absurd (false≢true (sym (not_returned e past still c y) ∙ old))) (λ y. y)

  -- what holds of the calls whose Swap is done: none begins again or does another
  module _ (c : Call) (there : Swapped n x c) where
    -- an entry that is an event of the call is of its thread's last call
    none : (event : Event) → (Is event e → c ≡ last_call x' t → ⊥) → does event c e past ≡ false
    none event apart =
        by_test (does event c e past) (λ z. let told = does_told e past event c z in absurd (apart told.1 (told.0 ∙ of_last m swaps))) (λ z. z)

    no_begin : does CallBegins c e past ≡ false
    no_begin = none CallBegins (λ q is. let last : Swapped n x (last_call x' t) = subst (Swapped n x) is there in omega (arith, last.begun, (goes m).begins q))

    no_swap : does Swaps c e past ≡ false
    no_swap = none Swaps (λ q is. not_yet m swaps c q there is)

    still_swapped : swapped_at c (e ∷ past) ≡ swapped_at c past
    still_swapped = ap (λ (b : Bool). cond b (length past) (swapped_at c past)) no_swap

    time_kept : SwapTime past c → SwapTime (e ∷ past) c
    time_kept o = record {
      began = rw (no_begin, no_swap) o.began;
      done = rw no_swap (omega (arith, o.done));
      returned = λ z.
          by_test (does Returns c e past) (λ now. rw (now, no_swap) o.done) (λ not_now. rw (not_now, no_swap) (o.returned (rw not_now at z)));
    }

  -- and of the call that does it now
  time_now : Is Swaps e → SwapTime (e ∷ past) (call_of e past)
  time_now q =
      let c = call_of e past in
      let here = does_so e past Swaps (λ z. omega arith) q in
      let busy = swaps.busy t m.below (omega (arith, (goes m).swaps q)) in
      let begun : began_at c past < length past = rw (of_last m swaps) (times.began (last_call x' t) m.below (omega (arith, (goes m).same (λ z. omega arith)))) in
      record {
        began = rw (here, neither e Swaps CallBegins (λ z. omega arith) q (is_of c e past)) begun;
        done = rw here (omega arith);
        returned = λ z. absurd (false≢true (sym (still (λ y. omega arith)) ∙ rw (neither e Swaps Returns (λ y. omega arith) q (is_of c e past)) at z));
      }

  swapped_kept : (i : ℕ) (d : Call) → i < p'.s → SwapTime (e ∷ past) (get_or (swap_order (e ∷ past)) i d)
  swapped_kept i d below =
      by_position m swaps i below
      (λ old. rw (order_kept m swaps i d old) (time_kept _ (swaps.swapped i d old) (times.swapped i d old)))
      (λ swap new. rw (new, order_new m swaps d swap, ← of_last m swaps) (time_now swap))

  -- the Swaps done before keep their numbers, and this one's is higher
  number_kept : (i : ℕ) (d : Call) → i < p.s → swapped_at (get_or (swap_order (e ∷ past)) i d) (e ∷ past) ≡ swapped_at (get_or (swap_order past) i d) past
  number_kept i d old = ap (λ (c : Call). swapped_at c (e ∷ past)) (order_kept m swaps i d old) ∙ still_swapped _ (swaps.swapped i d old)

  number_now : (k : ℕ) (d : Call) → Is Swaps e → k ≡ p.s → swapped_at (get_or (swap_order (e ∷ past)) k d) (e ∷ past) ≡ length past
  number_now k d swap new =
      let is : get_or (swap_order (e ∷ past)) k d ≡ call_of e past = rw new (order_new m swaps d swap) ∙ sym (of_last m swaps) in
      ap (λ (c : Call). swapped_at c (e ∷ past)) is
      ∙ ap (λ (b : Bool). cond b (length past) (swapped_at (call_of e past) past)) (does_so e past Swaps (λ z. omega arith) swap)

  in_time_kept : (i k : ℕ) (d : Call) → i < k → k < p'.s → swapped_at (get_or (swap_order (e ∷ past)) i d) (e ∷ past) < swapped_at (get_or (swap_order (e ∷ past)) k d) (e ∷ past)
  in_time_kept i k d less below =
      by_position m swaps k below
      (λ old. omega (arith, number_kept i d (omega arith), number_kept k d old, times.in_time i k d less old))
      (λ swap new. omega (arith, number_kept i d (omega arith), number_now k d swap new, (times.swapped i d (omega arith)).done))

  -- a call that has returned is ordered before one that begins with this entry, and before those that it was
  still_ordered : (c other : Call) → returned c past ≡ true → (does CallBegins other e past ≡ false → returned_at c past < began_at other past)
      → Ordered (e ∷ past) c other
  still_ordered c other old less =
      let same = left e past c (no_more c old) in
      record {
        returned = same.returned ∙ old;
        numbers =
            by_test (does CallBegins other e past)
            (λ now. rw (same.number Returns, now) (number_below (does Returns c) past old))
            (λ not_now. rw (same.number Returns, not_now) (less not_now));
      }

  ordered_kept : (c other : Call) → precedes c other (e ∷ past) ≡ true → Ordered (e ∷ past) c other
  ordered_kept c other z =
      by_test (does CallBegins other e past && returned c past)
      (λ now.
      let both = (and-eq-true_iff (does CallBegins other e past) (returned c past)).0 now in
      still_ordered c other both.1 (λ no. absurd (false≢true (sym no ∙ both.0))))
      (λ not_now. let o = times.ordered c other (rw not_now at z) in still_ordered c other o.returned (λ no. o.numbers))

  pub times_kept : Times n x' p' (e ∷ past)
  times_kept = record { began = began_kept; closed = closed_kept; ordered = ordered_kept; swapped = swapped_kept; in_time = in_time_kept }

-- the start: no call has begun
pub times_fresh : (n : ℕ) (x : Seen) (p : Positions) → ((u : ℕ) → u < n → x.begun u ≡ 0) → p.s ≡ 0 → Times n x p []
times_fresh n x p none s = record {
  began = λ c b q. absurd (omega (arith, none c.thread.0 b));
  closed = λ c b q shut. absurd (omega (arith, none c.thread.0 b));
  ordered = λ c other z. absurd (false≢true z);
  swapped = λ i d b. absurd (omega arith);
  in_time = λ i k d b b'. absurd (omega arith);
}
