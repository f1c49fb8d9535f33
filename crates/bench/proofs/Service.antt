-- What a run in place leaves gives the file's result, its records in Swap order, and so what the service promises. Assumes that the file's bytes are bytes.
use Prim.Native.Nat.{ℕ, zero, suc, ◌*◌, ◌≤◌, ◌<◌}
use native.Mathlib.Omega.{arith}
use mathlib.Core.Path.{◌≡◌, refl, sym, ap, ◌∙◌}
use mathlib.Core.Bool.{Bool, true, false, cond, not}
use mathlib.Core.List.{List, [], ◌∷◌, map, map-map}
use lib.ListN.{length, get_or, take, drop, length-map, get_or-append}
use lib.Seq.{take_at}
use lib.Dec.{ltb, eqb}
use borrow.Author.Tests.{ltb-false, eq-eqb, ne_eqb}
use Rattle.object.specs.declared.Kind.{Kind}
use Rattle.object.specs.declared.Request.{Request}
use Rattle.object.specs.Each.{Each, sum_of}
use Rattle.object.proofs.Choice.{by_test}
use Rattle.object.proofs.Each.{each_there, each_get_or, each_map, map_each}
use Rattle.bench_file.specs.Layout.{Fields, requests_of, Judgement, accepted, refused_by, judge_of}
use Rattle.bench_file.specs.Bytes.{Byte, RowInRange, InRange}
use Rattle.bench_file.proofs.RoundTrip.{accepted_in_range}
use Rattle.machine.specs.declared.Event.TheVariants.{Swaps, Returns}
use Rattle.machine.specs.Sizes.{most_calls}
use Rattle.history.specs.Entries.{Entry, how_many}
use Rattle.history.specs.Terms.{Call, no_call, call_of, does, swap_order, returned, no_entry, returned_at, record_length, record_of, records_of, counts_of}
use Rattle.history.proofs.Places.{map_at}
use Rattle.history.proofs.Sums.{one_each}
use Rattle.history.proofs.Times.{number_below, number_none}
use Rattle.claims.specs.Entries.{history_of, clear_of}
use Rattle.claims.specs.Claims.{Claimed}
use Rattle.claims.specs.Result.{Result, refused_result}
use Rattle.dsm_claims.proofs.Either.{demand_3_of_files, claim_whole, all_swaps_asked, all_swaps_few}
use Rattle.kept.specs.Kept.{place_of, call_at, kept_of, unkept}
use Rattle.runner.specs.Played.{Played, played_by, unplayed, played_in}
use Rattle.runner.proofs.Tabled.{tabled_at}
use Rattle.runner.proofs.Tables.{call_there}
use Rattle.bench.specs.Answer.{RunAnswer}
use Rattle.bench.specs.Records.{kept_record, record_at, records_in}
use Rattle.bench.specs.Run.{result_in, written}
use Rattle.bench.specs.Promise.{answer_of, Runs}
use Rattle.bench.proofs.InPlace.{in_place}

-- a request of the file is one of at most 16 of a thread of the file
row_there : (object : Kind) (rows : List (List Request)) (t q : ℕ) → Each (RowInRange object) rows → q < length (get_or rows t []) → (t < length rows) × (q < 16)
row_there object [] t q each b = absurd (omega arith)
row_there object (row ∷ rows) zero q each b = omega (arith, each.0.count)
row_there object (row ∷ rows) (suc t) q each b = omega (arith, row_there object rows t q each.1 b)

-- a run in which no entry meets null
module _ (f : Fields) (fits : InRange f) (clear : clear_of f ≡ true) where
  abbrev history : List Entry
  history = history_of f

  claim : Claimed f history
  claim = claim_whole f.head.method f fits clear

  -- a call of Swap order has one of the 256 places
  abbrev pub Placed : Call → Type 0
  Placed c = (c.thread.0 < 16) × (c.request < 16)

  pub placed : Each Placed (swap_order history)
  placed =
      each_there Placed no_call (swap_order history) (λ i b.
      let there = row_there f.head.object f.rows _ _ fits.rows (claim.of_the_file i (omega (arith, one_each Swaps call_of history))) in
      omega (arith, there, fits.threads, fits.head.n))

  swapped : length (map place_of (swap_order history)) ≡ how_many Swaps history
  swapped = length-map (swap_order history) place_of ∙ one_each Swaps call_of history

  place_below : (i : ℕ) → i < how_many Swaps history → get_or (played_by history).order i 0 < most_calls
  place_below i b =
      let there : i < length (swap_order history) = omega (arith, one_each Swaps call_of history) in
      rw (get_or-append (map place_of (swap_order history)) _ 0 i (omega (arith, swapped)), map_at place_of (swap_order history) i no_call 0 there)
      (omega (arith, each_get_or Placed (swap_order history) i no_call placed there))

  -- a call has returned exactly if it has an entry for that
  has_returned : (c : Call) → not (eqb (returned_at c history) no_entry) ≡ returned c history
  has_returned c =
      by_test (returned c history)
      (λ z. rw (z, ne_eqb (returned_at c history) no_entry (λ e. omega (arith, number_below (does Returns c) history z, claim.entries_fit))))
      (λ z. rw (z, eq-eqb (returned_at c history) no_entry (number_none (does Returns c) history z)))

  -- what is kept at its place gives its record
  record_there : (c : Call) → Placed c → record_at (played_by history).kept (place_of c) ≡ record_of history c
  record_there c b =
      ap (kept_record (call_at (place_of c))) (tabled_at (λ p. kept_of history (call_at p)) most_calls (place_of c) unkept (omega arith))
      ∙ ap (λ (c : Call). kept_record c (kept_of history c)) (call_there c b.1)
      ∙ rw (has_returned c)

  records_there : records_in (how_many Swaps history) (played_by history).kept (played_by history).order ≡ records_of history
  records_there =
      ap (map (record_at (played_by history).kept)) (take_at (map place_of (swap_order history)) _ (how_many Swaps history) swapped)
      ∙ map-map (record_at (played_by history).kept) place_of (swap_order history)
      ∙ map_each _ (record_of history) (swap_order history) (each_map record_there (swap_order history) placed)

-- the answer and the records of what was played
abbrev answer_by : Played → RunAnswer
answer_by p = record { refusal = p.refusal; counts = p.counts }

abbrev records_by : Played → List (List ℕ)
records_by p = records_in p.counts.records p.kept p.order

-- they are the result's; and the records, with so many bytes lent, can be laid
pub record Shows (lent : ℕ) (p : Played) (result : Result) : Type 0 where
  pub answer : answer_by p ≡ answer_of result
  pub records : records_by p ≡ result.records
  pub few : p.counts.records ≤ most_calls
  pub room : record_length * p.counts.records ≤ lent
  pub places : (i : ℕ) → i < p.counts.records → get_or p.order i 0 < most_calls

-- the result of a file's run in which no entry meets null, and of one that is too short or in which one does
abbrev clear_result : Fields → Result
clear_result f = let history = history_of f in record { refusal = 0; counts = counts_of history; records = records_of history }

abbrev lent_result : Fields → Bool → Bool → Result
lent_result f short clear = cond short (refused_result 13) (cond clear (clear_result f) (refused_result 14))

module _ (lent : ℕ) where
  refused_shows : (number : ℕ) → Shows lent (unplayed number) (refused_result number)
  refused_shows number = record { answer = refl; records = refl; few = omega arith; room = omega arith; places = λ i b. absurd (omega arith) }

  run_shows : (f : Fields) → InRange f → clear_of f ≡ true → record_length * sum_of length f.rows ≤ lent → Shows lent (played_by (history_of f)) (clear_result f)
  run_shows f fits clear room = record {
    answer = refl;
    records = records_there f fits clear;
    few = all_swaps_few f.head.method f fits clear;
    room = omega (arith, all_swaps_asked f.head.method f fits clear);
    places = place_below f fits clear;
  }

  shows : (j : Judgement) → ((f : Fields) → j ≡ accepted f → InRange f) → Shows lent (played_in lent j) (result_in lent j)
  shows (refused_by number) fits = refused_shows number
  shows (accepted f) fits = if_run (ltb lent (record_length * sum_of length f.rows)) (clear_of f) (ltb-false _ _) (λ e. e)
    where
      if_run : (short clear : Bool) → (short ≡ false → record_length * sum_of length f.rows ≤ lent) → (clear ≡ true → clear_of f ≡ true)
          → Shows lent (cond short (unplayed 13) (cond clear (played_by (history_of f)) (unplayed 14))) (lent_result f short clear)
      if_run true clear enough met = refused_shows 13
      if_run false true enough met = run_shows f (fits f refl) (met refl) (enough refl)
      if_run false false enough met = refused_shows 14

-- a result that is not refused is of a run in which no entry meets null, and has its records
records_run : (lent : ℕ) (f : Fields) → (result_in lent (accepted f)).refusal ≡ 0 → (clear_of f ≡ true) × ((result_in lent (accepted f)).records ≡ records_of (history_of f))
records_run lent f = if_run (ltb lent (record_length * requests_of f)) (clear_of f)
  where
    if_run : (short clear : Bool) → (lent_result f short clear).refusal ≡ 0 → (clear ≡ true) × ((lent_result f short clear).records ≡ records_of (history_of f))
    if_run true clear e = absurd (omega (arith, e))
    if_run false true e = (refl, refl)
    if_run false false e = absurd (omega (arith, e))

-- the service: what was played gives its answer, and its records the buffer
module _ (bytes old : List ℕ) (p : Played) (each : Each Byte bytes) (is : p ≡ played_in (length old) (judge_of bytes)) where
  pub played_shows : Shows (length old) p (result_in (length old) (judge_of bytes))
  played_shows = rw is (shows (length old) (judge_of bytes) (λ f e. accepted_in_range bytes f each e))

  pub runs : (new : List ℕ) → new ≡ written old (records_by p) → Runs bytes old new (answer_by p)
  runs new laid = record {
    answer = played_shows.answer;
    buffer = laid ∙ ap (written old) played_shows.records;
    demand_3 = λ f e. demand_3_of_files bytes f each e;
    whole = λ f e clear. claim_whole f.head.method f (accepted_in_range bytes f each e) clear;
    in_place = λ f e done i b.
        let not_refused : (result_in (length old) (accepted f)).refusal ≡ 0 =
        rw e at (sym (ap (λ (r : RunAnswer). r.refusal) played_shows.answer) ∙ done) in
        let (clear, has) = records_run (length old) f not_refused in
        let claim = claim_whole f.head.method f (accepted_in_range bytes f each e) clear in
        let here : (result_in (length old) (judge_of bytes)).records ≡ records_of (history_of f) = ap (λ (j : Judgement). (result_in (length old) j).records) e ∙ has in
        let laid_so : new ≡ written old (records_of (history_of f)) = laid ∙ ap (written old) (played_shows.records ∙ here) in
        ap (λ (l : List ℕ). take record_length (drop (record_length * i) l)) laid_so
        ∙ in_place (records_of (history_of f)) _ (each_map (λ (bytes : List ℕ) size. size.0) (records_of (history_of f)) claim.bytes) i (rw claim.records b);
  }
