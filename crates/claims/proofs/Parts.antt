-- What the invariant of a file's run by either method says of its entries: each part of the claim. Assumes `Going` and a chronicle of the state and its entries.
use Prim.Native.Nat.{ℕ, ◌≤◌, ◌<◌, ◌^◌}
use native.Mathlib.Omega.{arith}
use mathlib.Core.Path.{◌≡◌, sym, ap, ◌∙◌}
use mathlib.Core.Bool.{Bool, true}
use mathlib.Core.List.{List, [], ◌∷◌, map, map-map}
use lib.ListN.{length, get_or, take, drop, length-map}
use lib.Seq.{get_or-take}
use lib.Dec.{ltb}
use borrow.Author.Tests.{lt-ltb, le-ltb}
use Rattle.std.specs.Prelude.{Option, Some, None}
use Rattle.object.specs.declared.Request.{Request}
use Rattle.object.specs.declared.Request.TheVariants.{Put}
use Rattle.object.specs.declared.Answer.{Answer}
use Rattle.object.specs.declared.Answer.TheVariants.{Empty}
use Rattle.object.specs.Paper.{request_value, answer_mark, answer_value}
use Rattle.object.specs.Plain.{fresh}
use Rattle.object.specs.Each.{Each}
use Rattle.object.proofs.Each.{each_there, each_get_or, each_take, each_map, each_get_or_default, each_all, each_mapped, each_unmapped}
use Rattle.object.proofs.Choice.{by_equal, by_order, by_test}
use Rattle.object.proofs.Counting.{count_by_mark}
use Rattle.object.proofs.Fitting.{AnswerFits, answers_fit}
use Rattle.bench_file.specs.Layout.{Fields}
use Rattle.bench_file.specs.Bytes.{low_first, Byte, InRange}
use Rattle.bench_file.proofs.RoundTrip.{capacity_byte, request_fits}
use Rattle.machine.specs.declared.Method.{Method}
use Rattle.machine.specs.declared.Event.{Event}
use Rattle.machine.specs.declared.Event.TheVariants.{CallBegins, Swaps, TurnBegins, Applies, Returns}
use Rattle.state.specs.declared.State.{State}
use Rattle.step.specs.Entry.{one_if}
use Rattle.invariant.proofs.Feeding.{answers_take}
use Rattle.history.specs.Entries.{Entry, thread_id, is, how_many}
use Rattle.history.specs.Terms.{Call, Serving, Shown, no_thread, no_call, no_turn, does, swap_order, swap_at, servings, shown, unshown, shown_of, ret_mark, ret_value, number_at, records_of, record_of, cost_of, returned, no_entry, number_of, began_at, swapped_at, returned_at, precedes, serving_of, call_of}
use Rattle.history.specs.Method.{Positions}
use Rattle.history.specs.History.{Settled, SwapTime}
use Rattle.history.proofs.Places.{map_at}
use Rattle.history.proofs.Shown.{record_at_lem, applied, shown_each, shown_at, shown_none}
use Rattle.history.proofs.Sums.{one_each, cost_fits, tests_few, servings_few}
use Rattle.history.proofs.Times.{number_below, number_none, number_most, by_numbers}
use Rattle.history.proofs.Turns.{one_combiner}
use Rattle.claims.specs.Claims.{RecordSized, ReturnedCall, Timed, Earlier, ClaimedBy, HasAnswer, plain_answers, asked_of, asked_by}
use Rattle.claims.proofs.InTurns.{in_turns}
use Rattle.claims.proofs.Bytes.{mark_below, record_sized, mark_byte, server_byte, value_bytes, state_byte, turn_bytes, began_bytes, returned_bytes}
use Rattle.claims.proofs.Chronicle.{Chronicle, jobs_of}
use Rattle.invariant.specs.View.{view_of}
use Rattle.claims.proofs.Seen.{seen_by}
use Rattle.claims.proofs.Chronicled.{Chronicled}
use Rattle.claims.proofs.Run.{Going}
use Rattle.claims.proofs.Start.{row_few}

-- bytes of a record
module _ (history : List Entry) where
  record_shows : (i : ℕ) (d : Call) (w : Shown) → i < length (swap_order history) → shown_of (get_or (swap_order history) i d) (servings history) ≡ w
      → HasAnswer (get_or (records_of history) i []) (ret_mark w.ret) (ret_value w.ret)
  unfolding low_first
  record_shows i d w k e = rw (record_at_lem history i d k) (ap (λ (x : Shown). ret_mark x.ret) e, ap (λ (x : Shown). low_first 4 (ret_value x.ret)) e)

  names : (i : ℕ) (d : Call) → i < length (swap_order history)
      → take 2 (get_or (records_of history) i []) ≡ (get_or (swap_order history) i d).thread.0 ∷ (get_or (swap_order history) i d).request ∷ []
  names i d k = rw (record_at_lem history i d k)

module _ (Paid : Bool → ℕ → ℕ → Type 0) (m : Method) (f : Fields) (fits : InRange f) (s : State) (history : List Entry) (going : Going m f s history)
    (kept : Chronicled Paid m f s history) where
  abbrev p : Positions
  p = kept.positions

  abbrev now : Chronicle Paid f (seen_by kept.phase (view_of s)) p kept.cost kept.answers history
  now = kept.chronicle

  swaps_done : how_many Swaps history ≡ p.s
  swaps_done = sym (one_each Swaps call_of history) ∙ now.swaps.swaps

  all_served : length (servings history) ≡ p.a
  all_served = applied now.swaps now.order

  requests_applied : how_many Applies history ≡ p.a
  requests_applied = sym (one_each Applies serving_of history) ∙ all_served

  -- what stands where no serving does
  abbrev none : Serving
  none = record { call = no_call; req = None; server = no_thread; turn = no_turn; answer = None }

  swap_there : (i : ℕ) → i < how_many Swaps history → i < length (swap_order history)
  swap_there i b = omega (arith, one_each Swaps call_of history)

  -- each call is one of the file's
  of_the_file : (i : ℕ) → i < how_many Swaps history → (swap_at history i).request < length (asked_of f (swap_at history i).thread)
  of_the_file i b =
      let c = now.swaps.swapped i no_call (omega (arith, swaps_done)) in
      omega (arith, c.begun, now.begun (swap_at history i).thread.0 c.thread)

  -- the answers given are the plain object's
  plain : kept.answers ≡ take p.a (plain_answers f history)
  plain = kept.fed.plain ∙ sym (answers_take f.head.object f.head.capacity fresh p.a (jobs_of f history))

  plain_answer : (i : ℕ) → i < p.a → (get_or (servings history) i none).answer ≡ Some (get_or (plain_answers f history) i Empty)
  plain_answer i b =
      sym (map_at (λ (w : Serving). w.answer) (servings history) i none None (omega (arith, all_served)))
      ∙ ap (λ (l : List (Option Answer)). get_or l i None) now.answered
      ∙ map_at Some kept.answers i Empty None (omega (arith, kept.fed.applied))
      ∙ ap Some (ap (λ (l : List Answer). get_or l i Empty) plain ∙ get_or-take p.a (plain_answers f history) i Empty b)

  shown_there : (i : ℕ) → i < p.a → shown_of (swap_at history i) (servings history) ≡ shown (get_or (servings history) i none)
  shown_there i b = shown_at now.swaps now.order i none no_call b

  -- what serves is a thread of the file
  served_by : (i : ℕ) → i < how_many Applies history → (shown_of (swap_at history i) (servings history)).server.0 < f.head.n
  served_by i b =
      rw (shown_there i (omega (arith, requests_applied)))
      (each_get_or (λ (w : Serving). w.server.0 < f.head.n) (servings history) i none now.servers (omega (arith, all_served, requests_applied)))

  served_turn : (i : ℕ) → i < how_many Applies history → (shown_of (swap_at history i) (servings history)).turn < how_many TurnBegins history
  served_turn i b =
      rw (shown_there i (omega (arith, requests_applied)))
      (each_get_or (λ (w : Serving). w.turn < how_many TurnBegins history) (servings history) i none (in_turns history now.by_combiner) (omega (arith, all_served, requests_applied)))

  unserved : (i : ℕ) → how_many Applies history ≤ i → i < how_many Swaps history → shown_of (swap_at history i) (servings history) ≡ unshown
  unserved i low high = shown_none now.swaps now.order i no_call (omega (arith, requests_applied)) (omega (arith, swaps_done))

  shows_answer : (i : ℕ) → i < how_many Applies history
      → HasAnswer (get_or (records_of history) i []) (answer_mark (get_or (plain_answers f history) i Empty)) (answer_value (get_or (plain_answers f history) i Empty))
  shows_answer i b =
      let k : i < p.a = omega (arith, requests_applied) in
      let shows = record_shows history i no_call (shown (get_or (servings history) i none)) (omega (arith, now.order, now.swaps.swaps)) (shown_there i k) in
      rw (plain_answer i k) at shows

  -- a returned call
  settles : (c : Call) → Settled Paid f.head.n (seen_by kept.phase (view_of s)) p history c → ReturnedCall m history c (shown_of c (servings history))
  settles c o =
      let is : shown_of c (servings history) ≡ shown (get_or (servings history) o.position none) = rw (← o.call no_call) (shown_there o.position o.applied) in
      rw is (record {
        served = rw (plain_answer o.position o.applied) (mark_below (get_or (plain_answers f history) o.position Empty));
        by_itself = (o.serving none).server;
        own_turn = (o.serving none).own_turn;
        answer = (o.serving none).answer;
        by_another = λ z. kept.by_another c o (sym (o.serving none).server ∙ z);
        combining = kept.combining c o;
      })

  cost : (i : ℕ) → i < how_many Swaps history → take 4 (drop 8 (get_or (records_of history) i [])) ≡ low_first 4 (cost_of (swap_at history i) history)
  unfolding low_first
  cost i b = rw (record_at_lem history i no_call (swap_there i b))

  -- a record has its length, in bytes
  record_bytes : Each RecordSized (records_of history)
  record_bytes =
      each_there RecordSized [] (records_of history) (λ i b.
      let b : i < length (swap_order history) = omega (arith, length-map (swap_order history) (record_of history)) in
      let c = now.swaps.swapped i no_call (omega (arith, now.swaps.swaps)) in
      let t = (swap_at history i).thread.0 in
      rw (record_at_lem history i no_call b)
      (record_sized history (swap_at history i) (omega (arith, c.thread, fits.head.n)) (omega (arith, c.begun, now.begun t c.thread, row_few f fits t c.thread))
      (shown_each (λ (w : Shown). Byte w.server.0) (omega arith) (swap_at history i) (servings history)
      (each_map (λ (w : Serving) h. omega (arith, h, fits.head.n)) (servings history) now.servers))))

  -- the value of every answer fits 32 bits, since those of the file's requests do, and a done count is in range
  asked_fits : (c : Call) → request_value (asked_by f c) < 2 ^ 32
  asked_fits c =
      let Fits : Request → Type 0 = λ r. request_value r < 2 ^ 32 in
      let rows : Each (Each Fits) f.rows = each_map (λ (l : List Request) h. each_map (request_fits f.head.object) l h.requests) f.rows fits.rows in
      each_get_or_default Fits (asked_of f c.thread) c.request (Put 0) (each_get_or_default (Each Fits) f.rows c.thread.0 [] rows tt) (omega arith)

  answers_given : Each (AnswerFits f.head.capacity) (plain_answers f history)
  answers_given =
      let small = capacity_byte f.head.object f.head.capacity fits.head.capacity in
      answers_fit f.head.object f.head.capacity (omega arith) (jobs_of f history)
      (each_mapped (λ (r : Request). request_value r < 2 ^ 32) (asked_by f) (swap_order history) (each_all asked_fits (swap_order history)))

  -- what holds of no answer and of such an answer holds of the response that a call shows
  shown_fits : (P : Option Answer → Type 0) → P None → ((a : Answer) → AnswerFits f.head.capacity a → P (Some a))
      → (c : Call) → P (shown_of c (servings history)).ret
  shown_fits P unserved holds c =
      let plainly = each_take _ p.a (plain_answers f history) (each_map holds (plain_answers f history) answers_given) in
      let given : Each P (map Some kept.answers) = rw plain (each_mapped P Some (take p.a (plain_answers f history)) plainly) in
      let served : Each P (map (λ (w : Serving). w.answer) (servings history)) = rw now.answered given in
      shown_each (λ (w : Shown). P w.ret) unserved c (servings history) (each_unmapped P (λ (w : Serving). w.answer) (servings history) served)

  value_fits : (c : Call) → ret_value (shown_of c (servings history)).ret < 2 ^ 32
  value_fits = shown_fits (λ r. ret_value r < 2 ^ 32) (omega arith) (λ a h. h.value)

  -- the calls in time
  timed : (i : ℕ) → i < how_many Swaps history → Timed history (swap_at history i)
  timed i b =
      let c = swap_at history i in
      let o = now.times.swapped i no_call (omega (arith, swaps_done)) in
      record {
        begins = o.began;
        swaps = o.done;
        returns = λ z. (o.returned z, number_below (does Returns c) history z);
        still_open = number_none (does Returns c) history;
      }

  -- and the numbers in their records
  number_fits : (c : Call) (event : Event) → number_of event c history ≤ no_entry
  number_fits c event = number_most (does event c) history going.short

  in_record : (from width : ℕ) (number : Call → ℕ) → ((c : Call) → number_at (record_of history c) from width ≡ number c) → (i : ℕ) → i < how_many Swaps history
      → number_at (get_or (records_of history) i []) from width ≡ number (swap_at history i)
  in_record from width number of_call i b =
      ap (λ (bytes : List ℕ). number_at bytes from width) (record_at_lem history i no_call (swap_there i b)) ∙ of_call (swap_at history i)

  done_counts : (i : ℕ) → i < how_many Swaps history → number_at (get_or (records_of history) i []) 2 1 ≡ 0
      → (1 ≤ number_at (get_or (records_of history) i []) 4 4) × (number_at (get_or (records_of history) i []) 4 4 ≤ f.head.capacity)
  done_counts i b mark =
      rw (in_record 4 4 (λ c. ret_value (shown_of c (servings history)).ret) (λ c. value_bytes history c (value_fits c)) i b)
      (shown_fits (λ r. ret_mark r ≡ 0 → (1 ≤ ret_value r) × (ret_value r ≤ f.head.capacity)) (λ e. absurd (omega arith))
      (λ a h. count_by_mark f.head.capacity a h.in_range) (swap_at history i)
      (sym (in_record 2 1 (λ c. ret_mark (shown_of c (servings history)).ret) (mark_byte history) i b) ∙ mark))

  began_entry : (i : ℕ) → i < how_many Swaps history → number_at (get_or (records_of history) i []) 16 4 ≡ began_at (swap_at history i) history
  began_entry = in_record 16 4 (λ c. began_at c history) (λ c. began_bytes history c (number_fits c CallBegins))

  returned_entry : (i : ℕ) → i < how_many Swaps history → number_at (get_or (records_of history) i []) 20 4 ≡ returned_at (swap_at history i) history
  returned_entry = in_record 20 4 (λ c. returned_at c history) (λ c. returned_bytes history c (number_fits c Returns))

  turn_fits : (c : Call) → (shown_of c (servings history)).turn ≤ no_turn
  turn_fits c = shown_each (λ (w : Shown). w.turn ≤ no_turn) (omega arith) c (servings history) (servings_few history going.short)

  -- the Swap of a call that returned before another began came before the other's
  precedence : (c : Call) (k : ℕ) → k < how_many Swaps history → precedes c (swap_at history k) history ≡ true → Earlier history c k
  precedence c k b z =
      let o = now.times.ordered c (swap_at history k) z in
      let mine = now.calls.settled c o.returned in
      let inside : mine.position < p.s = omega (arith, mine.applied, now.order) in
      let time : SwapTime history c = rw (mine.call no_call) at (now.times.swapped mine.position no_call inside) in
      let less : swapped_at c history < swapped_at (swap_at history k) history = omega (arith, time.returned o.returned, o.numbers, (timed k b).begins) in
      by_order mine.position k (λ before. record { position = mine.position; before = before; call = mine.call no_call })
      (λ behind.
      by_equal k mine.position
      (λ same. let its : swap_at history k ≡ c = rw same (mine.call no_call) in absurd (omega (arith, less, ap (λ (c : Call). swapped_at c history) its)))
      (λ other. absurd (omega (arith, less, rw (mine.call no_call) at (now.times.in_time k mine.position no_call (omega arith) inside)))))

  as_numbered : (c : Call) (k : ℕ) → k < how_many Swaps history → precedes c (swap_at history k) history ≡ ltb (returned_at c history) (began_at (swap_at history k) history)
  as_numbered c k b =
      let d = swap_at history k in
      by_order (returned_at c history) (began_at d history)
      (λ less. by_numbers c d history going.short (omega (arith, (timed k b).begins, (timed k b).swaps)) less ∙ sym (lt-ltb (returned_at c history) (began_at d history) less))
      (λ most.
      by_test (precedes c d history) (λ z. absurd (omega (arith, (now.times.ordered c d z).numbers)))
      (λ z. z ∙ sym (le-ltb (returned_at c history) (began_at d history) most)))

  by_records : (i k : ℕ) → i < how_many Swaps history → k < how_many Swaps history
      → number_at (get_or (records_of history) i []) 20 4 < number_at (get_or (records_of history) k []) 16 4 → i < k
  by_records i k b b' z =
      let less : returned_at (swap_at history i) history < began_at (swap_at history k) history = omega (arith, returned_entry i b, began_entry k b') in
      let o = precedence (swap_at history i) k b' (as_numbered (swap_at history i) k b' ∙ lt-ltb _ _ less) in
      by_order o.position i (λ low. absurd (now.swaps.once o.position i no_call low (omega (arith, swaps_done)) o.call)) (λ high. omega (arith, o.before))

  pub claim : ClaimedBy m f history
  claim = record {
    of_the_file = of_the_file;
    distinct = λ i k b m. now.swaps.once i k no_call b (omega (arith, swaps_done));
    blanks = now.blanks;
    over = now.over;
    at_most_swapped = omega (arith, requests_applied, swaps_done, now.order);
    in_swap_order = rw requests_applied now.swaps.served;
    requests = rw (requests_applied, ← now.swaps.served) (now.asked ∙ sym (map-map (λ (c : Call). Some (asked_by f c)) (λ (w : Serving). w.call) (servings history)));
    answers = rw (requests_applied, ← plain) now.answered;
    records = length-map (swap_order history) (record_of history) ∙ one_each Swaps call_of history;
    bytes = record_bytes;
    names = λ i b. names history i no_call (swap_there i b);
    shows_answer = shows_answer;
    shows_none = λ i a b. record_shows history i no_call unshown (swap_there i b) (unserved i a b);
    server = in_record 3 1 (λ c. (shown_of c (servings history)).server.0) (server_byte history);
    turn = in_record 13 2 (λ c. (shown_of c (servings history)).turn) (λ c. turn_bytes history c (turn_fits c));
    served_by = served_by;
    served_turn = served_turn;
    unserved = unserved;
    value_fits = value_fits;
    done_counts = done_counts;
    one_combiner = λ t u p q. ap thread_id (one_combiner now.one_turn now.turns t.0 u.0 p q);
    combiner_applies = now.by_combiner;
    at_most_h = now.turns.most;
    turns_fit = omega (arith, tests_few (is TurnBegins) history, going.short);
    turn_fits = turn_fits;
    settled = λ c z. settles c (now.calls.settled c z);
    cost = cost;
    cost_fits = cost_fits history going.counted.few going.short;
    remote = kept.said;
    began_entry = began_entry;
    returned_entry = returned_entry;
    timed = timed;
    has_returned = in_record 12 1 (λ c. one_if (returned c history)) (state_byte history);
    entries_fit = omega (arith, going.short);
    numbers_fit = number_fits;
    in_time = λ i k less b. now.times.in_time i k no_call less (omega (arith, swaps_done));
    precedence = precedence;
    as_numbered = as_numbered;
    by_records = by_records;
  }
