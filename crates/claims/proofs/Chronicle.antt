-- What the entries of a file's run say, by whichever method: the laws of a history, with the file's requests and the answers given, and that every entry
-- keeps them. Assumes of an entry that it moves as a history asks, and what `Shows` says. Nothing here looks at a printed line.
use Prim.Native.Nat.{ℕ, ◌+◌, ◌-◌, ◌≤◌, ◌<◌}
use native.Mathlib.Omega.{arith}
use mathlib.Core.Path.{◌≡◌, refl, sym, ap, ◌∙◌}
use mathlib.Core.Bool.{Bool, true, false, cond, and-false}
use mathlib.Core.List.{List, [], ◌∷◌, ◌++◌, map, map-append, append-nil}
use lib.ListN.{length, get_or, length-map}
use borrow.Author.Tests.{eqb-true, le-ltb}
use Rattle.std.specs.Prelude.{Option, Some, None}
use Rattle.object.specs.declared.Request.{Request}
use Rattle.object.specs.declared.Request.TheVariants.{Put}
use Rattle.object.specs.declared.Answer.{Answer}
use Rattle.object.specs.declared.Answer.TheVariants.{Empty}
use Rattle.object.specs.Each.{Each}
use Rattle.object.proofs.Choice.{by_equal, either}
use Rattle.object.proofs.Each.{each_append}
use Rattle.bench_file.specs.Layout.{Fields}
use Rattle.machine.specs.declared.Event.TheVariants.{Blank, CallBegins, Swaps, TurnBegins, Applies, Returns}
use Rattle.machine.specs.Events.{event_number}
use Rattle.invariant.specs.Serving.{grown}
use Rattle.history.specs.Entries.{Entry, thread_id, happened, is, Is, remote_in}
use Rattle.history.specs.Terms.{Serving, returned, call_of, call_assigned, no_call, swap_order, serving_of, servings}
use Rattle.history.specs.Method.{Seen, Positions, Moves, idle, waiting, combining, leaving}
use Rattle.history.specs.History.{SwapOrder, Turns, Calls, Times}
use Rattle.history.proofs.Places.{map_at}
use Rattle.history.proofs.Told.{is_so, is_not, by_event, by_thread, goes}
use Rattle.history.proofs.Shown.{applied as all_served}
use Rattle.history.proofs.Swaps.{of_last, serves_next, swaps_kept, swaps_fresh}
use Rattle.history.proofs.Turns.{turns_kept, applies_combining, turns_fresh}
use Rattle.history.proofs.Calls.{still_open, calls_kept, calls_fresh}
use Rattle.history.proofs.Times.{times_kept, times_fresh}
use Rattle.claims.specs.Claims.{asked_of, asked_by, early_blank, outside_turn, after_return}

-- request q of thread t, by the file
abbrev pub asks : Fields → ℕ → ℕ → Request
asks f t q = asked_by f (record { thread = thread_id t; request = q })

-- the requests in Swap order
abbrev pub jobs_of : Fields → List Entry → List Request
jobs_of f past = map (asked_by f) (swap_order past)

-- what a method claims of a returned call: whether it combined, how many its turn then served, and its remote references
module _ (Paid : Bool → ℕ → ℕ → Type 0) where
  -- threads as they are seen, positions, the cost of each thread's open call, the answers given and the entries so far
  pub record Chronicle (f : Fields) (x : Seen) (p : Positions) (cost : ℕ → ℕ) (answers : List Answer) (past : List Entry) : Type 0 where
    pub swaps : SwapOrder f.head.n x p past
    pub turns : Turns f.head.n f.head.h x p past
    pub calls : Calls Paid f.head.n x p cost past
    pub times : Times f.head.n x p past
    pub order : p.a ≤ p.s
    pub one_turn : (u w : ℕ) → u < f.head.n → w < f.head.n → x.phase u ≡ combining → x.phase w ≡ combining → u ≡ w
    -- a thread has begun no more calls than its row of the file has requests
    pub begun : (u : ℕ) → u < f.head.n → x.begun u ≤ length (asked_of f (thread_id u))
    -- a serving has an answer; what is applied is the request of the call served, and by a combiner
    pub answered : map (λ (w : Serving). w.answer) (servings past) ≡ map Some answers
    pub asked : map (λ (w : Serving). w.req) (servings past) ≡ map (λ (w : Serving). Some (asked_by f w.call)) (servings past)
    pub by_combiner : happened outside_turn past ≡ false
    -- who serves is one of the threads
    pub servers : Each (λ (w : Serving). w.server.0 < f.head.n) (servings past)
    -- a blank is of a thread with no request left, and no entry is of a call that has returned
    pub blanks : happened (early_blank f) past ≡ false
    pub over : happened after_return past ≡ false

  -- what a method shows of thread t's entry, beyond how it moves
  pub record Shows (f : Fields) (x : Seen) (p : Positions) (cost cost' : ℕ → ℕ) (answers : List Answer) (past : List Entry) (t : ℕ) (e : Entry) (answer : Answer) : Type 0 where
    -- an entry that applies takes the request at the next position, and gives an answer to it
    pub takes : Is Applies e → e.req ≡ Some (get_or (jobs_of f past) p.a (Put 0))
    pub gives : Is Applies e → e.answer ≡ Some answer
    -- one that returns has the answer at its thread's position, and what its call has cost is as the method claims
    pub returns : Is Returns e → e.ret ≡ Some (get_or answers (p.at t) Empty)
    pub by_another : Is Returns e → x.phase t ≡ waiting → Paid false 0 (cost t + remote_in e.remote)
    pub by_itself : Is Returns e → x.phase t ≡ leaving → Paid true (x.counter t) (cost t + remote_in e.remote)
    -- a blank comes with no request left, a call begins with one
    pub none_left : Is Blank e → length (asked_of f (thread_id t)) ≤ x.begun t
    pub some_left : Is CallBegins e → x.begun t < length (asked_of f (thread_id t))
    -- what it costs
    pub spends : cost' t ≡ cond (is CallBegins e) 0 (cost t) + remote_in e.remote
    pub keeps : (u : ℕ) → (u ≡ t → ⊥) → cost' u ≡ cost u

  -- the start: every thread is idle and has begun nothing, and nothing is swapped or applied
  pub chronicle_fresh : (f : Fields) (x : Seen) (p : Positions) (cost : ℕ → ℕ) → ((u : ℕ) → u < f.head.n → x.phase u ≡ idle)
      → ((u : ℕ) → u < f.head.n → x.begun u ≡ 0) → p.s ≡ 0 → p.a ≡ 0 → Chronicle f x p cost [] []
  chronicle_fresh f x p cost still none s a = record {
    swaps = swaps_fresh f.head.n x p still none s a;
    turns = turns_fresh f.head.n f.head.h x p still;
    calls = calls_fresh Paid f.head.n x p cost still;
    times = times_fresh f.head.n x p none s;
    order = omega arith;
    one_turn = λ u w b b' z y. absurd (omega (arith, still u b));
    begun = λ u b. omega (arith, none u b);
    answered = refl;
    asked = refl;
    by_combiner = refl;
    servers = tt;
    blanks = refl;
    over = refl;
  }

-- what an entry adds to a list in order of time, or not
added_to : {A B : Type 0} (of : A → B) (xs : List A) (x : A) (y : B) (test : Bool) → (test ≡ true → of x ≡ y)
    → map of (xs ++ cond test (x ∷ []) []) ≡ grown test (map of xs) y
added_to of xs x y true e = map-append of xs (x ∷ []) ∙ ap (λ z. map of xs ++ z ∷ []) (e refl)
added_to of xs x y false e = ap (map of) (append-nil xs)

map_grown : {A B : Type 0} (of : A → B) (test : Bool) (xs : List A) (x : A) → map of (grown test xs x) ≡ grown test (map of xs) (of x)
map_grown of true xs x = map-append of xs (x ∷ [])
map_grown of false xs x = refl

module _ (f : Fields) {n : ℕ} {x : Seen} {p : Positions} {past : List Entry} (swaps : SwapOrder n x p past) where
  -- each position has its request
  job_at : (i : ℕ) → i < p.s → get_or (jobs_of f past) i (Put 0) ≡ asked_by f (get_or (swap_order past) i no_call)
  job_at i b = map_at (asked_by f) (swap_order past) i no_call (Put 0) (omega (arith, swaps.swaps))

module _ {n h : ℕ} {x x' : Seen} {p p' : Positions} {t : ℕ} {e : Entry} (moved : Moves n h x x' p p' t e) where
  -- no more is applied than swapped
  order_next : p'.a ≤ p'.s
  order_next =
      by_event e Applies (λ q. omega (arith, moved.serving q, moved.notes.s, rw (is_so e Applies q) at moved.notes.a))
      (λ q. omega (arith, moved.order, moved.notes.s, rw (is_not e Applies q) at moved.notes.a))

  -- one thread at most is in its turn
  was_turned : (u : ℕ) → (u ≡ t → Is TurnBegins e → ⊥) → x'.phase u ≡ combining → x.phase u ≡ combining
  was_turned u apart z =
      by_equal u t (λ same. rw same ((goes moved).into_turn (rw same at z) (apart same)).0) (λ other. sym (moved.others u other).phase ∙ z)

  one_turn_next : (u w : ℕ) → u < n → w < n → x'.phase u ≡ combining → x'.phase w ≡ combining → u ≡ w
  one_turn_next u w b b' z y =
      by_event e TurnBegins
      (λ q.
      let none : (v : ℕ) → v < n → x'.phase v ≡ combining → (v ≡ t → ⊥) → ⊥ = λ v d i other.
      moved.no_turn q v d (was_turned v (λ same. absurd (other same)) i) in
      by_equal u t (λ same. by_equal w t (λ same'. same ∙ sym same') (λ other. absurd (none w b' y other))) (λ other. absurd (none u b z other)))
      (λ q. moved.one_turn u w b b' (was_turned u (λ _. q) z) (was_turned w (λ _. q) y))

  module _ (f : Fields) {past : List Entry} (swaps : SwapOrder n x p past) where
    -- a Swap's call asks for what its thread has begun last
    pub jobs_next : jobs_of f (e ∷ past) ≡ grown (is Swaps e) (jobs_of f past) (asks f t (x.begun t - 1))
    jobs_next =
        added_to (asked_by f) (swap_order past) (call_of e past) _ (is Swaps e) λ z.
        ap (asked_by f) (of_last moved swaps)
        ∙ ap (λ (b : ℕ). asks f t (b - 1)) ((goes moved).same (λ q. omega (arith, eqb-true (event_number e.event) 2 z)))

module _ {Paid : Bool → ℕ → ℕ → Type 0} {f : Fields} {x x' : Seen} {p p' : Positions} {cost cost' : ℕ → ℕ} {answers : List Answer} {past : List Entry} {t : ℕ}
    {e : Entry} {answer : Answer} (moved : Moves f.head.n f.head.h x x' p p' t e) (now : Chronicle Paid f x p cost answers past)
    (shows : Shows Paid f x p cost cost' answers past t e answer) where
  begun_next : (u : ℕ) → u < f.head.n → x'.begun u ≤ length (asked_of f (thread_id u))
  begun_next u b =
      by_equal u t
      (λ same.
      rw same
      (by_event e CallBegins (λ q. omega (arith, (goes moved).begins q, shows.some_left q)) (λ q. omega (arith, (goes moved).same q, now.begun t moved.below))))
      (λ other. rw (moved.others u other).begun (now.begun u b))

  answered_next : map (λ (w : Serving). w.answer) (servings (e ∷ past)) ≡ map Some (grown (is Applies e) answers answer)
  answered_next =
      added_to (λ (w : Serving). w.answer) (servings past) (serving_of e past) (Some answer) (is Applies e) (λ z. shows.gives (eqb-true _ 4 z))
      ∙ ap (λ (l : List (Option Answer)). grown (is Applies e) l (Some answer)) now.answered
      ∙ sym (map_grown Some (is Applies e) answers answer)

  -- what is applied is the request of the call that is served
  req_served : Is Applies e → e.req ≡ Some (asked_by f (call_assigned e.node past))
  req_served q =
      shows.takes q ∙ ap Some (job_at f now.swaps p.a (moved.serving q).1 ∙ ap (asked_by f) (sym (serves_next moved now.swaps q no_call)))

  asked_next : map (λ (w : Serving). w.req) (servings (e ∷ past)) ≡ map (λ (w : Serving). Some (asked_by f w.call)) (servings (e ∷ past))
  asked_next =
      let w = serving_of e past in
      let asked = Some (asked_by f w.call) in
      added_to (λ (w : Serving). w.req) (servings past) w asked (is Applies e) (λ z. req_served (eqb-true _ 4 z))
      ∙ ap (λ (l : List (Option Request)). grown (is Applies e) l asked) now.asked
      ∙ sym (added_to (λ (w : Serving). Some (asked_by f w.call)) (servings past) w asked (is Applies e) (λ z. refl))

  by_combiner_next : happened outside_turn (e ∷ past) ≡ false
  by_combiner_next =
      by_event e Applies (λ q. rw (by_thread moved, applies_combining past moved now.turns q, and-false) now.by_combiner)
      (λ q. rw (is_not e Applies q) now.by_combiner)

  servers_next : Each (λ (w : Serving). w.server.0 < f.head.n) (servings (e ∷ past))
  servers_next =
      let Within : Serving → Type 0 = λ w. w.server.0 < f.head.n in
      each_append Within (servings past) (cond (is Applies e) (serving_of e past ∷ []) []) now.servers
      (either (Each Within) (is Applies e) (λ applies. (omega (arith, moved.thread, moved.below), tt)) (λ other. tt))

  blanks_next : happened (early_blank f) (e ∷ past) ≡ false
  blanks_next =
      by_event e Blank
      (λ q. rw (by_thread moved, now.swaps.begun t moved.below, le-ltb (x.begun t) (length (asked_of f (thread_id t))) (shows.none_left q), and-false) now.blanks)
      (λ q. rw (is_not e Blank q) now.blanks)

  -- a call that returns returns the answer that it was served
  returns_answer : Is Returns e → (w : Serving) → e.ret ≡ (get_or (servings past) (p.at t) w).answer
  returns_answer q w =
      let there = moved.last q in
      let given : length answers ≡ length (servings past) = sym (length-map answers Some) ∙ ap length (sym now.answered) ∙ length-map (servings past) _ in
      let served = all_served now.swaps now.order in
      shows.returns q
      ∙ sym (map_at Some answers (p.at t) Empty None (omega arith))
      ∙ ap (λ (l : List (Option Answer)). get_or l (p.at t) None) (sym now.answered)
      ∙ map_at (λ (w : Serving). w.answer) (servings past) (p.at t) w None (omega arith)

  -- an entry is of a call that has not returned
  open_yet : (Is Blank e → ⊥) → returned (call_of e past) past ≡ false
  open_yet =
      still_open Paid moved now.swaps now.turns now.calls shows.spends shows.keeps returns_answer shows.by_another shows.by_itself

  over_next : happened after_return (e ∷ past) ≡ false
  over_next = by_event e Blank (λ q. rw (is_so e Blank q) now.over) (λ q. rw (open_yet q, and-false) now.over)

  pub chronicle_next : Chronicle Paid f x' p' cost' (grown (is Applies e) answers answer) (e ∷ past)
  chronicle_next = record {
    swaps = swaps_kept moved now.swaps;
    turns = turns_kept past moved now.turns;
    calls =
        calls_kept Paid moved now.swaps now.turns now.calls shows.spends shows.keeps returns_answer shows.by_another shows.by_itself;
    times = times_kept moved now.swaps open_yet now.times;
    order = order_next moved;
    one_turn = one_turn_next moved;
    begun = begun_next;
    answered = answered_next;
    asked = asked_next;
    by_combiner = by_combiner_next;
    servers = servers_next;
    blanks = blanks_next;
    over = over_next;
  }
