-- What the arrays of a run in place say of its entries so far, and that every entry keeps it. Assumes the invariant of a file's run, and room in Swap order for
-- one Swap more.
use Prim.Native.Nat.{ℕ, ◌+◌, ◌-◌, ◌*◌, ◌%◌, ◌^◌, ◌≤◌, ◌<◌}
use native.Mathlib.Omega.{arith}
use native.Mathlib.Nat.{mod-eq_of_lt, div-add-mod}
use mathlib.Core.Path.{◌≡◌, refl, sym, ap, ap₂, subst, ◌∙◌}
use mathlib.Core.Bool.{and-false, Bool, true, false, cond, ◌&&◌}
use mathlib.Core.List.{List, [], ◌∷◌, ◌++◌, map, map-append, append-nil}
use lib.ListN.{length, get_or, set, replicate, length-map, length-set, get_or-replicate}
use lib.Seq.{get_or-set_same, get_or-set_other, set-get_or}
use lib.Dec.{eqb}
use borrow.Author.Tests.{eq-eqb, ne_eqb}
use Rattle.std.specs.Prelude.{Option, Some}
use Rattle.object.specs.declared.Answer.{Answer}
use Rattle.bench_file.specs.Layout.{Fields}
use Rattle.bench_file.specs.Bytes.{InRange}
use Rattle.machine.specs.declared.Method.{Method}
use Rattle.machine.specs.declared.ThreadId.{ThreadId}
use Rattle.machine.specs.declared.Event.{Event}
use Rattle.machine.specs.declared.Event.TheVariants.{Blank, CallBegins, Swaps, TurnBegins, Applies, Returns}
use Rattle.machine.specs.Sizes.{most_calls, most_nodes}
use Rattle.state.specs.declared.Counts.{Counts}
use Rattle.state.specs.declared.State.{State}
use Rattle.step.specs.ByMethod.{points_to_by, applied_by, effect_by}
use Rattle.object.specs.Each.{Each}
use Rattle.object.proofs.Choice.{by_equal}
use Rattle.object.proofs.Each.{each_map}
use Rattle.history.specs.Entries.{Entry, thread_id, is, Is, how_many, remote_in}
use Rattle.history.specs.Terms.{Call, Serving, Shown, no_thread, no_call, no_turn, call_of, same, swap_order, call_assigned, turn_of, serving_of, servings, cost_of, number_of, began_at, returned_at, shown, unshown, shown_of}
use Rattle.history.specs.History.{node_id, last_of, Swapped}
use Rattle.history.proofs.OfCall.{call, same_itself, not_same, blank_of_none, not_of, is_of_lem, left, added}
use Rattle.history.proofs.Places.{get_d_any}
use Rattle.history.proofs.Shown.{shown_none}
use Rattle.history.proofs.Sums.{one_each, tests_few, cost_fits}
use Rattle.history.proofs.Swaps.{of_last, serves_next}
use Rattle.history.proofs.Told.{is_so, is_not, by_event}
use Rattle.claims.specs.Entries.{assigned_by, entry_by, filled}
use Rattle.claims.proofs.Filled.{set_filled}
use Rattle.claims.proofs.Counted.{counted_next}
use Rattle.claims.proofs.Cut.{entry_thread}
use Rattle.claims.proofs.Run.{Going}
use Rattle.kept.specs.declared.Kept.{Kept}
use Rattle.runner.proofs.Invariant.{Next}
use Rattle.kept.specs.Kept.{place_of, call_at, kept_by, kept_of, unkept, after_entry, after_serving}

-- what the arrays say of the entries so far, the latest first
pub record Tables (past : List Entry) (kept : List Kept) (order given turns : List ℕ) : Type 0 where
  pub calls_long : length kept ≡ most_calls
  pub nodes_long : length given ≡ most_nodes
  pub threads_long : length turns ≡ 16
  pub calls : (p : ℕ) → p < most_calls → get_or kept p unkept ≡ kept_of past (call_at p)
  pub swaps : order ≡ filled most_calls 0 (map place_of (swap_order past))
  pub nodes : (m : ℕ) → m < most_nodes → get_or given m 0 ≡ place_of (call_assigned (node_id m) past)
  pub threads : (u : ℕ) → u < 16 → get_or turns u 0 ≡ turn_of (thread_id u) past

pub tables_start : Tables [] (replicate most_calls unkept) (replicate most_calls 0) (replicate most_nodes (place_of no_call)) (replicate 16 no_turn)
tables_start = record {
  calls_long = refl;
  nodes_long = refl;
  threads_long = refl;
  calls = λ p b. get_or-replicate most_calls p unkept unkept b;
  swaps = refl;
  nodes = λ m b. get_or-replicate most_nodes m (place_of no_call) 0 b;
  threads = λ u b. get_or-replicate 16 u no_turn 0 b;
}

-- what holds of the value set, and of the others, holds of all after it is set
set_all : {A : Type 0} (P : ℕ → A → Type 0) (l : List A) (i : ℕ) (x a : A) → i < length l → P i x → (p : ℕ) → ((p ≡ i → ⊥) → P p (get_or l p a)) → P p (get_or (set l i x) p a)
set_all P l i x a k here p others =
    by_equal p i (λ z. rw z (subst (P i) (sym (get_or-set_same l i x a k)) here))
    (λ apart. subst (P p) (sym (get_or-set_other l i p x a apart)) (others apart))

-- a call of the first 16 of its thread has its place, and each place its call
pub call_there : (c : Call) → c.request < 16 → call_at (place_of c) ≡ c
call_there c b = ap₂ call (omega arith) (omega arith)

place_there : (p : ℕ) (c : Call) → call_at p ≡ c → p ≡ place_of c
place_there p c e = sym (div-add-mod p 16) ∙ ap place_of e

-- one serving more: a call that it is not of shows what it did, and one that no thread has served shows it
module _ (c : Call) (w : Serving) where
  shown_before : same c w.call ≡ false → (l : List Serving) → shown_of c (l ++ w ∷ []) ≡ shown_of c l
  shown_before apart [] = rw apart
  shown_before apart (x ∷ l) = ap (λ (z : Shown). cond (same c x.call) (shown x) z) (shown_before apart l)

  shown_now : (l : List Serving) → Each (λ (x : Serving). x.server.0 < no_thread.0) l → shown_of c l ≡ unshown → shown_of c (l ++ w ∷ []) ≡ shown_of c (w ∷ [])
  shown_now [] each none = refl
  shown_now (x ∷ l) each none = by_test (same c x.call) (shown_now l each.1) none
    where
      by_test : (b : Bool) → (shown_of c l ≡ unshown → shown_of c (l ++ w ∷ []) ≡ shown_of c (w ∷ [])) → cond b (shown x) (shown_of c l) ≡ unshown
          → cond b (shown x) (shown_of c (l ++ w ∷ [])) ≡ shown_of c (w ∷ [])
      by_test true on p = absurd (omega (arith, each.0, ap (λ (z : Shown). z.server.0) p))
      by_test false on p = on p

-- what is kept of equal numbers is equal
kept_alike : (w : Shown) {remote remote' began began' returned returned' : ℕ} → remote ≡ remote' → began ≡ began' → returned ≡ returned'
    → kept_by w remote began returned ≡ kept_by w remote' began' returned'
kept_alike w r b e = rw (r, b, e)

module _ (m : Method) (s : State) (t : ThreadId) where
  -- the place of the entry's call, and of the call that it serves if it does
  abbrev pub place : ℕ
  place = 16 * t.0 + ((effect_by m s t).thread.begun - 1)

  abbrev pub served : List ℕ → ℕ
  served given = cond (is Applies (entry_by m s t)) (get_or given (points_to_by m s t).0 0) place

  -- the arrays after the entry, which has a number; d stands for the places past the calls'
  abbrev pub entered_calls : ℕ → Kept → List Kept → List Kept
  entered_calls number d kept = set kept place (after_entry (get_or kept place d) (entry_by m s t).event (remote_in (entry_by m s t).remote) number)

  abbrev pub served_calls : Kept → List ℕ → List ℕ → List Kept → List Kept
  served_calls d given turns kept =
      set kept (served given)
      (after_serving (get_or kept (served given) d) (is Applies (entry_by m s t)) (applied_by m s t).answer t (get_or turns t.0 0))

  abbrev pub order_after : List ℕ → List ℕ
  order_after order = cond (is Swaps (entry_by m s t)) (set order s.counts.records (place % 65536)) order

  abbrev pub given_after : List ℕ → List ℕ
  given_after given = cond (is Swaps (entry_by m s t)) (set given (assigned_by m s t).0 (place % 65536)) given

  abbrev pub turns_after : List ℕ → List ℕ
  turns_after turns = cond (is TurnBegins (entry_by m s t)) (set turns t.0 (s.counts.turns % 65536)) turns

module _ (m : Method) (f : Fields) (fits : InRange f) (s : State) (past : List Entry) (t : ThreadId) (going : Going m f s past) (now : Next m f s past t) (short : length past < 32768) where
  abbrev e : Entry
  e = entry_by m s t

  few : f.head.n ≤ 16
  few = fits.head.n.1

  inside : t.0 < f.head.n
  inside = now.moved.below

  pub place_below : place m s t < most_calls
  place_below = omega (arith, few, inside, now.begun_most)

  place_call : call_at (place m s t) ≡ call_of e past
  place_call =
      call_there (last_of t.0 (effect_by m s t).thread.begun) (omega (arith, now.begun_most))
      ∙ sym (of_last now.moved now.swaps ∙ ap (last_of t.0) now.begun_after)

  call_place : place_of (call_of e past) ≡ place m s t
  call_place = sym (place_there (place m s t) (call_of e past) place_call)

  -- what the entry adds to its call: remote references, which fit 32 bits
  adds : cost_of (call_of e past) past + remote_in e.remote ≡ cost_of (call_of e past) (e ∷ past)
  adds =
      let c = call_of e past in
      by_event e Blank
      (λ q. omega (arith, (left e past c (blank_of_none e past c q)).cost, now.silent q))
      (λ q. omega (arith, (added e past c (is_of_lem e past q)).cost))

  adds_fit : (cost_of (call_of e past) past + remote_in e.remote) % 2 ^ 32 ≡ cost_of (call_of e past) (e ∷ past)
  adds_fit =
      ap (λ (k : ℕ). k % 2 ^ 32) adds
      ∙ mod-eq_of_lt (cost_fits (e ∷ past) (counted_next m s past t going.counted).few (omega arith) (call_of e past))

  -- and its number, where it is such an event
  numbers_it : (told : Event) → (Is told e → Is Blank e → ⊥) → cond (is told e) (length past) (number_of told (call_of e past) past) ≡ number_of told (call_of e past) (e ∷ past)
  numbers_it told apart =
      let c = call_of e past in
      by_event e Blank
      (λ q. ap (λ (b : Bool). cond b (length past) (number_of told c past)) (is_not e told (λ z. apart z q)) ∙ sym ((left e past c (blank_of_none e past c q)).number told))
      (λ q. sym ((added e past c (is_of_lem e past q)).number told))

  -- what is kept of a call after the entry, with how it was served
  abbrev kept_now : Shown → Call → Kept
  kept_now w c = kept_by w (cost_of c (e ∷ past)) (began_at c (e ∷ past)) (returned_at c (e ∷ past))

  -- and before the serving
  abbrev between : Call → Kept
  between c = kept_now (shown_of c (servings past)) c

  between_own : (k : Kept) → k ≡ kept_of past (call_of e past) → after_entry k e.event (remote_in e.remote) (length past) ≡ between (call_of e past)
  between_own k is =
      ap (λ (k : Kept). after_entry k e.event (remote_in e.remote) (length past)) is
      ∙ kept_alike (shown_of (call_of e past) (servings past)) adds_fit (numbers_it CallBegins (λ q z. omega arith)) (numbers_it Returns (λ q z. omega arith))

  between_other : (c : Call) → (c ≡ call_of e past → ⊥) → kept_of past c ≡ between c
  between_other c apart =
      let same = left e past c (not_of e past c apart) in
      kept_alike (shown_of c (servings past)) (sym same.cost) (sym (same.number CallBegins)) (sym (same.number Returns))

  -- what the entry is decides a test
  if_is : {A : Type 0} (told : Event) (x y : A) → Is told e → cond (is told e) x y ≡ x
  if_is told x y q = ap (λ (b : Bool). cond b x y) (is_so e told q)

  if_not : {A : Type 0} (told : Event) (x y : A) → (Is told e → ⊥) → cond (is told e) x y ≡ y
  if_not told x y q = ap (λ (b : Bool). cond b x y) (is_not e told q)

  by_told : {A : Type 0} (P : A → Type 0) (told : Event) (x y : A) → (Is told e → P x) → ((Is told e → ⊥) → P y) → P (cond (is told e) x y)
  by_told P told x y on off = by_event e told (λ q. subst P (sym (if_is told x y q)) (on q)) (λ q. subst P (sym (if_not told x y q)) (off q))

  -- and with it what the entry adds to a list in order of time
  one_more : {A : Type 0} (told : Event) (l : List A) (x : A) → Is told e → l ++ cond (is told e) (x ∷ []) [] ≡ l ++ x ∷ []
  one_more {A} told l x q = ap (λ (z : List A). l ++ z) (if_is told (x ∷ []) [] q)

  no_more : {A : Type 0} (told : Event) (l : List A) (x : A) → (Is told e → ⊥) → l ++ cond (is told e) (x ∷ []) [] ≡ l
  no_more {A} told l x q = ap (λ (z : List A). l ++ z) (if_not told (x ∷ []) [] q) ∙ append-nil l

  -- what is kept of a call once it is known how it was served
  known : (c : Call) (w : Shown) → shown_of c (servings (e ∷ past)) ≡ w → kept_now w c ≡ kept_of (e ∷ past) c
  known c w is = ap (λ (w : Shown). kept_now w c) (sym is)

  not_serving : (Is Applies e → ⊥) → (c : Call) → between c ≡ kept_of (e ∷ past) c
  not_serving q c = known c _ (ap (shown_of c) (no_more Applies (servings past) (serving_of e past) q))

  module _ (q : Is Applies e) where
    abbrev w : Serving
    w = serving_of e past

    high : now.positions.a < now.positions.s
    high = (now.moved.serving q).1

    -- the call served is the first of Swap order that was not
    is_next : w.call ≡ get_or (swap_order past) now.positions.a no_call
    is_next = serves_next now.moved now.swaps q no_call

    swapped : Swapped f.head.n now.seen w.call
    swapped = rw is_next (now.swaps.swapped now.positions.a no_call high)

    request_few : w.call.request < 16
    request_few = omega (arith, swapped.begun, now.begun_few w.call.thread.0 swapped.thread)

    given_below : place_of w.call < most_calls
    given_below = omega (arith, swapped.thread, few, request_few)

    unserved : shown_of w.call (servings past) ≡ unshown
    unserved = rw is_next (shown_none now.swaps now.order now.positions.a no_call (omega arith) high)

    servers : Each (λ (x : Serving). x.server.0 < no_thread.0) (servings past)
    servers = each_map (λ (x : Serving) b. omega (arith, few)) (servings past) now.servers

    shown_more : (c : Call) → shown_of c (servings (e ∷ past)) ≡ shown_of c (servings past ++ w ∷ [])
    shown_more c = ap (shown_of c) (one_more Applies (servings past) w q)

    -- the serving as it is shown
    abbrev shows : Shown
    shows = record { ret = Some (applied_by m s t).answer; server = t; turn = turn_of t past }

    shown_so : shown w ≡ shows
    shown_so = ap₂ (λ (answer : Option Answer) (server : ThreadId). record { ret = answer; server = server; turn = turn_of server past }) (now.answers q) (entry_thread m s t)

    serving_own : (k : Kept) → k ≡ between w.call
        → after_serving k (is Applies e) (applied_by m s t).answer t (turn_of t past) ≡ kept_of (e ∷ past) w.call
    serving_own k is =
        if_is Applies _ k q ∙ ap (λ (k : Kept). kept_by shows k.remote k.began k.returned) is
        ∙ known w.call shows
        (shown_more w.call ∙ shown_now w.call w (servings past) servers unserved ∙ ap (λ (b : Bool). cond b (shown w) unshown) (same_itself w.call) ∙ shown_so)

    serving_other : (c : Call) → (c ≡ w.call → ⊥) → between c ≡ kept_of (e ∷ past) c
    serving_other c apart = known c _ (shown_more c ∙ shown_before c w (not_same c w.call apart) (servings past))

  -- the latest Swap that assigned a node
  given_by : (m : ℕ) (b : Bool) → (is Swaps e && eqb e.node.0 m) ≡ b → call_assigned (node_id m) (e ∷ past) ≡ cond b (call_of e past) (call_assigned (node_id m) past)
  given_by m b is = ap (λ (b : Bool). cond b (call_of e past) (call_assigned (node_id m) past)) is

  -- and the turn that a thread began last
  turn_by : (u : ℕ) (b : Bool) → (eqb e.thread.0 u && is TurnBegins e) ≡ b → turn_of (thread_id u) (e ∷ past) ≡ cond b (how_many TurnBegins past) (turn_of (thread_id u) past)
  turn_by u b is = ap (λ (b : Bool). cond b (how_many TurnBegins past) (turn_of (thread_id u) past)) is

  -- the turns begun so far number the next
  turns_begun : s.counts.turns % 65536 ≡ how_many TurnBegins past
  turns_begun =
      let begun : s.counts.turns ≡ how_many TurnBegins past = ap (λ (c : Counts). c.turns) going.counted.counts in
      ap (λ (k : ℕ). k % 65536) begun ∙ mod-eq_of_lt (omega (arith, tests_few (is TurnBegins) past))

  swaps_counted : s.counts.records ≡ length (map place_of (swap_order past))
  swaps_counted = ap (λ (c : Counts). c.records) going.counted.counts ∙ sym (one_each Swaps call_of past) ∙ sym (length-map (swap_order past) place_of)

  module _ {kept : List Kept} {order given turns : List ℕ} (tables : Tables past kept order given turns) where
    served_given : Is Applies e → served m s t given ≡ place_of (call_assigned e.node past)
    served_given q =
        if_is Applies (get_or given (points_to_by m s t).0 0) (place m s t) q ∙ tables.nodes (points_to_by m s t).0 (now.serves q)
        ∙ ap (λ (m : ℕ). place_of (call_assigned (node_id m) past)) (sym (now.tells.serves q))

    pub served_below : served m s t given < most_calls
    served_below =
        by_event e Applies (λ q. rw (served_given q) (given_below q))
        (λ q. rw (if_not Applies (get_or given (points_to_by m s t).0 0) (place m s t) q) place_below)

    nodes_next : (k : ℕ) → k < most_nodes → get_or (given_after m s t given) k 0 ≡ place_of (call_assigned (node_id k) (e ∷ past))
    nodes_next k b =
        by_told (λ (l : List ℕ). get_or l k 0 ≡ place_of (call_assigned (node_id k) (e ∷ past))) Swaps _ given
        (λ q.
        let assigned : e.node.0 ≡ (assigned_by m s t).0 = now.tells.assigned q in
        set_all (λ k place_held. place_held ≡ place_of (call_assigned (node_id k) (e ∷ past))) given (assigned_by m s t).0 _ 0 (omega (arith, now.assigns q, tables.nodes_long))
        (mod-eq_of_lt (omega (arith, place_below)) ∙ sym call_place
        ∙ ap place_of (sym (given_by (assigned_by m s t).0 true (ap₂ ◌&&◌ (is_so e Swaps q) (eq-eqb e.node.0 (assigned_by m s t).0 assigned)))))
        k
        (λ apart. tables.nodes k b ∙ ap place_of (sym (given_by k false (ap₂ ◌&&◌ (is_so e Swaps q) (ne_eqb e.node.0 k (λ z. apart (sym z ∙ assigned))))))))
        (λ q. tables.nodes k b ∙ ap place_of (sym (given_by k false (ap (λ (b : Bool). b && eqb e.node.0 k) (is_not e Swaps q)))))

    threads_next : (u : ℕ) → u < 16 → get_or (turns_after m s t turns) u 0 ≡ turn_of (thread_id u) (e ∷ past)
    threads_next u b =
        by_told (λ (l : List ℕ). get_or l u 0 ≡ turn_of (thread_id u) (e ∷ past)) TurnBegins _ turns
        (λ q.
        set_all (λ u k. k ≡ turn_of (thread_id u) (e ∷ past)) turns t.0 _ 0 (omega (arith, few, tables.threads_long))
        (turns_begun ∙ sym (turn_by t.0 true (rw (is_so e TurnBegins q, now.tells.thread, eq-eqb t.0 t.0 refl))))
        u
        (λ apart. tables.threads u b ∙ sym (turn_by u false (rw (now.tells.thread, ne_eqb t.0 u (λ z. apart (sym z)))))))
        (λ q. tables.threads u b ∙ sym (turn_by u false (rw (is_not e TurnBegins q) (and-false (eqb e.thread.0 u)))))

    swaps_next : (Is Swaps e → s.counts.records < most_calls) → order_after m s t order ≡ filled most_calls 0 (map place_of (swap_order (e ∷ past)))
    swaps_next room =
        let places = map place_of (swap_order past) in
        by_told (λ (l : List ℕ). l ≡ filled most_calls 0 (map place_of (swap_order (e ∷ past)))) Swaps _ order
        (λ q.
        ap₂ (λ (l : List ℕ) (i : ℕ). set l i (place m s t % 65536)) tables.swaps swaps_counted
        ∙ ap (set (filled most_calls 0 places) (length places)) (mod-eq_of_lt (omega (arith, place_below)) ∙ sym call_place)
        ∙ set_filled 0 most_calls (length places) places (place_of (call_of e past)) refl (omega (arith, swaps_counted, room q))
        ∙ ap (filled most_calls 0) (sym (ap (map place_of) (one_more Swaps (swap_order past) (call_of e past) q) ∙ map-append place_of (swap_order past) (call_of e past ∷ []))))
        (λ q. tables.swaps ∙ ap (λ (l : List Call). filled most_calls 0 (map place_of l)) (sym (no_more Swaps (swap_order past) (call_of e past) q)))

    -- d stands for the places past the calls', which nothing reads
    module _ (d : Kept) where
      abbrev kept' : List Kept
      kept' = entered_calls m s t (length past) d kept

      entered_long : length kept' ≡ most_calls
      entered_long = length-set kept (place m s t) _ ∙ tables.calls_long

      calls_entered : (p : ℕ) → p < most_calls → get_or kept' p unkept ≡ between (call_at p)
      calls_entered p b =
          let i = place m s t in
          let inside : i < length kept = omega (arith, place_below, tables.calls_long) in
          set_all (λ p k. k ≡ between (call_at p)) kept i _ unkept inside
          (between_own (get_or kept i d) (get_d_any kept i d unkept inside ∙ tables.calls i place_below ∙ ap (kept_of past) place_call) ∙ ap between (sym place_call))
          p
          (λ apart. tables.calls p b ∙ between_other (call_at p) (λ z. apart (place_there p (call_of e past) z ∙ call_place)))

      calls_serving : Is Applies e → (p : ℕ) → p < most_calls → get_or (served_calls m s t d given turns kept') p unkept ≡ kept_of (e ∷ past) (call_at p)
      calls_serving q p b =
          let i = served m s t given in
          let c = call_assigned e.node past in
          let there : call_at i ≡ c = ap call_at (served_given q) ∙ call_there c (request_few q) in
          let inside : i < length kept' = omega (arith, served_below, entered_long) in
          set_all (λ p k. k ≡ kept_of (e ∷ past) (call_at p)) kept' i _ unkept inside
          (ap (after_serving (get_or kept' i d) (is Applies e) (applied_by m s t).answer t) (tables.threads t.0 (omega (arith, few)))
          ∙ serving_own q (get_or kept' i d) (get_d_any kept' i d unkept inside ∙ calls_entered i served_below ∙ ap between there)
          ∙ ap (kept_of (e ∷ past)) (sym there))
          p
          (λ apart. calls_entered p b ∙ serving_other q (call_at p) (λ z. apart (place_there p c z ∙ sym (served_given q))))

      calls_next : (p : ℕ) → p < most_calls → get_or (served_calls m s t d given turns kept') p unkept ≡ kept_of (e ∷ past) (call_at p)
      calls_next p b =
          let i = served m s t given in
          by_event e Applies (λ q. calls_serving q p b)
          (λ q.
          ap (λ (l : List Kept). get_or l p unkept) (ap (set kept' i) (if_not Applies _ (get_or kept' i d) q) ∙ set-get_or kept' i d)
          ∙ calls_entered p b ∙ not_serving q (call_at p))

      -- every entry keeps the tables
      pub tables_next : (Is Swaps (entry_by m s t) → s.counts.records < most_calls)
          → Tables (entry_by m s t ∷ past) (served_calls m s t d given turns (entered_calls m s t (length past) d kept)) (order_after m s t order) (given_after m s t given) (turns_after m s t turns)
      tables_next room = record {
        calls_long = length-set kept' (served m s t given) _ ∙ entered_long;
        nodes_long = by_told (λ (l : List ℕ). length l ≡ most_nodes) Swaps _ given (λ q. length-set given (assigned_by m s t).0 _ ∙ tables.nodes_long) (λ q. tables.nodes_long);
        threads_long = by_told (λ (l : List ℕ). length l ≡ 16) TurnBegins _ turns (λ q. length-set turns t.0 _ ∙ tables.threads_long) (λ q. tables.threads_long);
        calls = calls_next;
        swaps = swaps_next room;
        nodes = nodes_next;
        threads = threads_next;
      }
