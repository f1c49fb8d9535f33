-- Demand 3 of document 01, the precedence of request No. 1, the counts of No. 3, the bounds of No. 5 and DSM-Synch of No. 6: one claim about the whole list of
-- entries of a file's run, by either method. The entries are in Entries.antt, the terms in the crate `history`. Up to `Holds` each definition reads the file and
-- the entries alone; `Demand3` ties them to the machine.
-- The parts: 1 what is served, 2 the records, 3 the combiner, 4 turns, 5 remote references, 6 no refusal, 7 when calls began and returned.
use Rattle.std.specs.Prelude.{ℕ, suc, ◌+◌, ◌-◌, ◌≤◌, ◌<◌, ◌^◌, ◌≡◌, Bool, true, false, cond, not, ◌&&◌, ◌||◌, List, [], ◌∷◌, map, reverse, length, get_or, take, drop, ltb, eqb, Some}
use Rattle.object.specs.declared.Request.{Request}
use Rattle.object.specs.declared.Request.TheVariants.{Put}
use Rattle.object.specs.declared.Answer.{Answer}
use Rattle.object.specs.declared.Answer.TheVariants.{Empty}
use Rattle.object.specs.Paper.{answer_mark, answer_value}
use Rattle.object.specs.Plain.{fresh, answers_from}
use Rattle.bench_file.specs.Layout.{Fields}
use Rattle.object.specs.Each.{Each}
use Rattle.bench_file.specs.Bytes.{low_first, Byte, InRange}
use Rattle.machine.specs.declared.Method.{Method}
use Rattle.machine.specs.declared.Method.TheVariants.{CcSynch, DsmSynch}
use Rattle.machine.specs.declared.ThreadId.{ThreadId}
use Rattle.machine.specs.declared.Event.{Event}
use Rattle.machine.specs.declared.Event.TheVariants.{Blank, Swaps, TurnBegins, Applies}
use Rattle.machine.specs.Accesses.{to_null}
use Rattle.machine.specs.Fields.{is_null}
use Rattle.state.specs.declared.State.{State}
use Rattle.state.specs.Range.{counts_in_range}
use Rattle.step.specs.Entry.{one_if, zero_thread, line}
use Rattle.step.specs.DsmEntry as dsm
use Rattle.step.specs.Steps.{steps_of}
use Rattle.history.specs.Entries.{Entry, happened, is, how_many}
use Rattle.history.specs.Copies.{RemoteAsSaid}
use Rattle.history.specs.Terms.{Call, begun_by, call_of, swap_order, swap_at, no_turn, turn_of_call, combines, Serving, servings, gives_own, gave_other, served_in, cost_of, returned, combined, returns, Shown, unshown, shown_of, no_entry, number_of, began_at, swapped_at, returned_at, precedes, ret_mark, ret_value, record_length, number_at, records_of, counts_of}
use Rattle.claims.specs.Entries.{start_by, state_after, meets_no_null, entries_by, history_by, cut}

-- the file's requests of a thread, and its request of a call. Past these, where no call of a run is (`of_the_file`), it is put 0
abbrev pub asked_of : Fields → ThreadId → List Request
asked_of f t = get_or f.rows t.0 []

abbrev pub asked_by : Fields → Call → Request
asked_by f c = get_or (asked_of f c.thread) c.request (Put 0)

-- the answers of the plain object of the file's kind and capacity, fed the file's requests in Swap order and nothing else
abbrev pub plain_answers : Fields → List Entry → List Answer
plain_answers f history = answers_from f.head.object f.head.capacity fresh (map (asked_by f) (swap_order history))

-- what no entry does: give a blank while its thread has a request left, apply a request outside a turn of its thread, be of a call that has returned
abbrev pub early_blank : Fields → Entry → List Entry → Bool
early_blank f e past = is Blank e && ltb (begun_by e.thread past) (length (asked_of f e.thread))

abbrev pub outside_turn : Entry → List Entry → Bool
outside_turn e past = is Applies e && not (combines e.thread past)

abbrev pub after_return : Entry → List Entry → Bool
after_return e past = not (is Blank e) && returned (call_of e past) past

-- as many bytes as a record has
abbrev pub RecordSized : List ℕ → Type 0
RecordSized bytes = (length bytes ≡ record_length) × Each Byte bytes

-- bytes 2 and 4 to 7 of a record are a mark and a value
abbrev pub HasAnswer : List ℕ → ℕ → ℕ → Type 0
HasAnswer bytes mark value = (get_or bytes 2 0 ≡ mark) × (take 4 (drop 4 bytes) ≡ low_first 4 value)

-- the most remote references of a returned call of CC-Synch: of one that another thread served, and of one that combined and served k
abbrev pub most_by_another : ℕ
most_by_another = 6

abbrev pub most_combining : ℕ → ℕ
most_combining k = k + 5

-- what is claimed of the remote references of a returned call that another thread served: in DSM-Synch it costs exactly 2, or exactly 1 if its Swap gave its own
-- thread's other node (which no Swap does: `own_never` of `Demand3`)
abbrev pub CostByAnother : Method → List Entry → Call → Type 0
CostByAnother CcSynch history c = cost_of c history ≤ most_by_another
CostByAnother DsmSynch history c = cost_of c history ≡ cond (gave_other c history) 1 2

-- and of one that combined; of DSM-Synch's no bound is asked
abbrev pub CostCombining : Method → List Entry → Call → Type 0
CostCombining CcSynch history c = cost_of c history ≤ most_combining (served_in (turn_of_call c history) history)
CostCombining DsmSynch history c = Unit

-- a returned call: it was served, by its own thread exactly if it combined, and then in its own turn; it returns the answer that it was served; and its remote
-- references are as the method has them
pub record ReturnedCall (m : Method) (history : List Entry) (c : Call) (w : Shown) : Type 0 where
  pub served : ret_mark w.ret < 255
  pub by_itself : eqb w.server.0 c.thread.0 ≡ combined c history
  pub own_turn : combined c history ≡ true → w.turn ≡ turn_of_call c history
  pub answer : returns c history ≡ w.ret
  pub by_another : eqb w.server.0 c.thread.0 ≡ false → CostByAnother m history c
  pub combining : combined c history ≡ true → CostCombining m history c

-- a call in time: it begins, does its Swap later, and returns, if it has, later still
pub record Timed (history : List Entry) (c : Call) : Type 0 where
  pub begins : began_at c history < swapped_at c history
  pub swaps : swapped_at c history < length history
  pub returns : returned c history ≡ true → (swapped_at c history < returned_at c history) × (returned_at c history < length history)
  pub still_open : returned c history ≡ false → returned_at c history ≡ no_entry

-- a call stands earlier in Swap order than Swap k
pub record Earlier (history : List Entry) (c : Call) (k : ℕ) : Type 0 where
  pub position : ℕ
  pub before : position < k
  pub call : swap_at history position ≡ c

-- the claim about a file and the history of its run by a method, with s Swaps done and a requests applied
pub record Holds (m : Method) (f : Fields) (history : List Entry) (s a : ℕ) : Type 0 where
  -- 1, of the calls: each Swap's is one of the file's, no call does two, no blank comes while a request is left, and no entry of a call once it has returned
  pub of_the_file : (i : ℕ) → i < s → (swap_at history i).request < length (asked_of f (swap_at history i).thread)
  pub distinct : (i k : ℕ) → i < k → k < s → swap_at history i ≡ swap_at history k → ⊥
  pub blanks : happened (early_blank f) history ≡ false
  pub over : happened after_return history ≡ false
  -- 1, of what is served: the calls, in order, are the first a of Swap order, each with its own request, and the answers are the plain object's
  pub at_most_swapped : a ≤ s
  pub in_swap_order : map (λ (w : Serving). w.call) (servings history) ≡ take a (swap_order history)
  pub requests : map (λ (w : Serving). w.req) (servings history) ≡ map (λ (c : Call). Some (asked_by f c)) (take a (swap_order history))
  pub answers : map (λ (w : Serving). w.answer) (servings history) ≡ map Some (take a (plain_answers f history))
  -- 2: there are s records, of `record_length` bytes. Record i names the thread and request of Swap i, shows the plain object's answer i, whose value has 32 bits, or
  -- none from a on, and which thread of the file served it, in which turn that has begun, or none; where its mark is done it shows a count of 1 to the capacity
  pub records : length (records_of history) ≡ s
  pub bytes : Each RecordSized (records_of history)
  pub names : (i : ℕ) → i < s → take 2 (get_or (records_of history) i []) ≡ (swap_at history i).thread.0 ∷ (swap_at history i).request ∷ []
  pub shows_answer : (i : ℕ) → i < a
      → HasAnswer (get_or (records_of history) i []) (answer_mark (get_or (plain_answers f history) i Empty)) (answer_value (get_or (plain_answers f history) i Empty))
  pub shows_none : (i : ℕ) → a ≤ i → i < s → HasAnswer (get_or (records_of history) i []) 255 0
  pub server : (i : ℕ) → i < s → number_at (get_or (records_of history) i []) 3 1 ≡ (shown_of (swap_at history i) (servings history)).server.0
  pub turn : (i : ℕ) → i < s → number_at (get_or (records_of history) i []) 13 2 ≡ (shown_of (swap_at history i) (servings history)).turn
  pub served_by : (i : ℕ) → i < a → (shown_of (swap_at history i) (servings history)).server.0 < f.head.n
  pub served_turn : (i : ℕ) → i < a → (shown_of (swap_at history i) (servings history)).turn < how_many TurnBegins history
  pub unserved : (i : ℕ) → a ≤ i → i < s → shown_of (swap_at history i) (servings history) ≡ unshown
  pub value_fits : (c : Call) → ret_value (shown_of c (servings history)).ret < 2 ^ 32
  pub done_counts : (i : ℕ) → i < s → number_at (get_or (records_of history) i []) 2 1 ≡ 0
      → (1 ≤ number_at (get_or (records_of history) i []) 4 4) × (number_at (get_or (records_of history) i []) 4 4 ≤ f.head.capacity)
  -- 3: at most one thread is combiner, and no other applies a request
  pub one_combiner : (t u : ThreadId) → combines t history ≡ true → combines u history ≡ true → t ≡ u
  pub combiner_applies : happened outside_turn history ≡ false
  -- 4: no turn has served more than h; fewer than 65,535 turns begin, so a turn's number fits its two bytes and is never that of no turn
  pub at_most_h : (turn : ℕ) → served_in turn history ≤ f.head.h
  pub turns_fit : how_many TurnBegins history < no_turn
  pub turn_fits : (c : Call) → (shown_of c (servings history)).turn ≤ no_turn
  -- 5: what a returned call costs; bytes 8 to 11 are a call's remote references, which have 32 bits; and each access is remote as document 01 says, with the
  -- locations of request No. 5, or by the owner rule of No. 6
  pub settled : (c : Call) → returned c history ≡ true → ReturnedCall m history c (shown_of c (servings history))
  pub cost : (i : ℕ) → i < s → take 4 (drop 8 (get_or (records_of history) i [])) ≡ low_first 4 (cost_of (swap_at history i) history)
  pub cost_fits : (c : Call) → cost_of c history < 2 ^ 32
  pub remote : RemoteAsSaid m history
  -- 7: bytes 16 to 19 of a record are the number of the entry that its call began with, 20 to 23 of the one that it returned with, or of none while it is
  -- open, as byte 12 says; no entry has the number of none
  pub began_entry : (i : ℕ) → i < s → number_at (get_or (records_of history) i []) 16 4 ≡ began_at (swap_at history i) history
  pub returned_entry : (i : ℕ) → i < s → number_at (get_or (records_of history) i []) 20 4 ≡ returned_at (swap_at history i) history
  pub has_returned : (i : ℕ) → i < s → number_at (get_or (records_of history) i []) 12 1 ≡ one_if (returned (swap_at history i) history)
  pub timed : (i : ℕ) → i < s → Timed history (swap_at history i)
  pub entries_fit : length history < no_entry
  pub numbers_fit : (c : Call) (event : Event) → number_of event c history ≤ no_entry
  -- Swap order is the order of the Swaps in time. A call that returned before another began stands earlier in it, if the other has run Swap; said of the
  -- numbers, and of the bytes of two records
  pub in_time : (i k : ℕ) → i < k → k < s → swapped_at (swap_at history i) history < swapped_at (swap_at history k) history
  pub precedence : (c : Call) (k : ℕ) → k < s → precedes c (swap_at history k) history ≡ true → Earlier history c k
  pub as_numbered : (c : Call) (k : ℕ) → k < s → precedes c (swap_at history k) history ≡ ltb (returned_at c history) (began_at (swap_at history k) history)
  pub by_records : (i k : ℕ) → i < s → k < s → number_at (get_or (records_of history) i []) 20 4 < number_at (get_or (records_of history) k []) 16 4 → i < k

-- the claim of a history by its own counts, and by the file's method
abbrev pub ClaimedBy : Method → Fields → List Entry → Type 0
ClaimedBy m f history = Holds m f history (how_many Swaps history) (how_many Applies history)

abbrev pub Claimed : Fields → List Entry → Type 0
Claimed f = ClaimedBy f.head.method f

-- an entry's number is its place in the schedule: a file's run stopped after k entries has not begun a call, or the call has not returned, and after one more it
-- has
pub record BeginsAt (m : Method) (f : Fields) (c : Call) (k : ℕ) : Type 0 where
  pub not_yet : begun_by c.thread (history_by m (cut k f)) ≡ c.request
  pub then : begun_by c.thread (history_by m (cut (suc k) f)) ≡ suc c.request

pub record ReturnsAt (m : Method) (f : Fields) (c : Call) (k : ℕ) : Type 0 where
  pub not_yet : returned c (history_by m (cut k f)) ≡ false
  pub then : returned c (history_by m (cut (suc k) f)) ≡ true

-- how many calls of a thread have returned, in a state: those that it has begun, but for the open one of a thread that is not idle
abbrev pub left_by : State → ThreadId → ℕ
left_by s t = let thread = get_or s.threads t.0 zero_thread in thread.begun - one_if (not (eqb thread.line 0))

-- the entry of a thread by DSM-Synch meets null exactly if one of its accesses goes to null or it would put null into tmpNode, by line 21; of the causes of 14
-- that a line has, it has no other; and it meets null at line 21 or 26 alone
pub record NullAlone (s : State) (t : ThreadId) : Type 0 where
  pub exactly : dsm.null_met s t ≡ (to_null (dsm.accesses s t) || eqb (line s t) 21 && is_null (dsm.node s t).next)
  pub alone : dsm.out s t ≡ dsm.null_met s t
  pub lines : dsm.null_met s t ≡ true → (eqb (line s t) 21 || eqb (line s t) 26) ≡ true

-- 6, of DSM-Synch after the first j entries: the next entry's line, of whichever thread, has no other cause of 14, and only lines 21 and 26 meet null
abbrev pub OnlyNull : Method → Fields → State → Type 0
OnlyNull CcSynch f after = Unit
OnlyNull DsmSynch f after = (t : ThreadId) → t.0 < f.head.n → NullAlone after t

-- 5, of every Swap of DSM-Synch: it never gives a node of the caller's own
abbrev pub OwnNever : Method → List Entry → Type 0
OwnNever CcSynch history = Unit
OwnNever DsmSynch history = happened gives_own history ≡ false

-- the claim for the run stopped after j entries
pub record Demand3 (m : Method) (f : Fields) (j : ℕ) (history : List Entry) (after : State) : Type 0 where
  pub claim : ClaimedBy m f history
  pub own_never : OwnNever m history
  -- 6: no entry is refused, the run is the fold of the step, and of DSM-Synch only null can refuse the next; the machine's counts are those of the entries and have
  -- 32 bits, it has begun the calls that they begin, and those have returned that it has left
  pub steps : steps_of (start_by m f) (take j f.schedule) ≡ record { refusal = 0; state = after }
  pub only_null : OnlyNull m f after
  pub counts : after.counts ≡ counts_of history
  pub counts_fit : counts_in_range after.counts ≡ true
  pub begun : (t : ThreadId) → t.0 < f.head.n → (get_or after.threads t.0 zero_thread).begun ≡ begun_by t history
  pub closed : (c : Call) → c.thread.0 < f.head.n → returned c history ≡ ltb c.request (left_by after c.thread)
  -- there is one entry for each of the schedule's first j, in their order, and the numbers of a call's entries are their places
  pub entries : map (λ (e : Entry). e.thread.0) (reverse history) ≡ take j f.schedule
  pub began_there : (c : Call) → c.request < begun_by c.thread history → BeginsAt m f c (began_at c history)
  pub returned_there : (c : Call) → returned c history ≡ true → ReturnsAt m f c (returned_at c history)
  -- it is the run of the file with its schedule cut to j, which is a file again
  pub stopped : history_by m (cut j f) ≡ history
  pub cut_file : InRange (cut j f)

-- the claim after j entries of a file's run
abbrev pub Demand3At : Method → Fields → ℕ → Type 0
Demand3At m f j = Demand3 m f j (reverse (take j (entries_by m f))) (state_after m (start_by m f) (take j f.schedule))

-- the claim for every j; from the schedule's length on that is the whole run. Of DSM-Synch for every j such that none of the first j entries meets null:
-- document 02, No. 6, "for every run up to such an entry". The theorem is for all fields in range
abbrev pub Demand3By : Method → Fields → Type 0
Demand3By CcSynch f = (j : ℕ) → Demand3At CcSynch f j
Demand3By DsmSynch f = (j : ℕ) → meets_no_null DsmSynch (start_by DsmSynch f) (take j f.schedule) ≡ true → Demand3At DsmSynch f j

-- a file's claim is its method's
abbrev pub Demand3Of : Fields → Type 0
Demand3Of f = Demand3By f.head.method f
