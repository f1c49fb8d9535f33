-- The terms of demand 3 as document 01 has them, each by the entries of a history alone: calls, Swap order, turns, servings, remote references, when calls began
-- and returned, records, counts.
-- They go by what an entry is, and by no line's number, so they are the same for every method; which line is which: the last column of `printed_line` in
-- cc_lines/specs/Lines.antt, and `event_in` in dsm_lines/specs/Lines.antt.
use Rattle.std.specs.Prelude.{ℕ, ◌-◌, Bool, false, cond, not, ◌&&◌, ◌||◌, List, [], ◌∷◌, ◌++◌, map, length, get_or, take, drop, eqb, Option, Some, None}
use Rattle.object.specs.declared.Request.{Request}
use Rattle.object.specs.declared.Answer.{Answer}
use Rattle.object.specs.Paper.{answer_mark, answer_value}
use Rattle.bench_file.specs.Bytes.{low_first}
use Rattle.bench_file.specs.Reading.{little_endian}
use Rattle.machine.specs.declared.ThreadId.{ThreadId}
use Rattle.machine.specs.declared.NodeId.{NodeId}
use Rattle.machine.specs.declared.Event.{Event}
use Rattle.machine.specs.declared.Event.TheVariants.{Blank, CallBegins, Swaps, TurnBegins, Applies, TurnEnds, Returns, Spins}
use Rattle.machine.specs.Accesses.{whole}
use Rattle.machine.specs.Owners.{its_own}
use Rattle.state.specs.declared.Counts.{Counts}
use Rattle.step.specs.Entry.{one_if}
use Rattle.history.specs.Entries.{Entry, thread_id, sum_over, happened, in_order, latest, is, is_by, how_many, remote_in}

-- a call: its thread, and the number of its request within it
pub record Call : Type 0 where
  pub thread : ThreadId
  pub request : ℕ

-- how many calls a thread has begun
abbrev pub begun_by : ThreadId → List Entry → ℕ
begun_by t = sum_over (λ e past. one_if (is_by t CallBegins e))

-- an entry's call is the last that its thread has begun. A blank is of no call
abbrev pub call_of : Entry → List Entry → Call
call_of e past = record { thread = e.thread; request = begun_by e.thread (e ∷ past) - 1 }

-- whether two calls are one, and whether an entry is of a call
abbrev pub same : Call → Call → Bool
same c c' = eqb c.thread.0 c'.thread.0 && eqb c.request c'.request

abbrev pub is_of : Call → Entry → List Entry → Bool
is_of c e past = not (is Blank e) && same c (call_of e past)

-- whether an entry is such an event of a call
abbrev pub does : Event → Call → Entry → List Entry → Bool
does event c e past = is_of c e past && is event e

-- Swap order: the entries that do a Swap, each standing for its call
abbrev pub swap_order : List Entry → List Call
swap_order = in_order (λ e past. cond (is Swaps e) (call_of e past ∷ []) [])

-- no thread, and no thread's call: what stands where there is none
abbrev pub no_thread : ThreadId
no_thread = thread_id 255

abbrev pub no_call : Call
no_call = record { thread = no_thread; request = 255 }

-- the call of Swap i
abbrev pub swap_at : List Entry → ℕ → Call
swap_at history i = get_or (swap_order history) i no_call

-- the call that a node was assigned to last: by the latest Swap that assigned it
abbrev pub call_assigned : NodeId → List Entry → Call
call_assigned m = latest no_call (λ e past. is Swaps e && eqb e.node.0 m.0) call_of

-- no turn: of a thread that has begun none, and of a call that is not served
abbrev pub no_turn : ℕ
no_turn = 65535

-- turns are numbered from 0, in the order in which they begin: the turn that a thread began last, and the turn that a call began
abbrev pub turn_of : ThreadId → List Entry → ℕ
turn_of t = latest no_turn (λ e past. is_by t TurnBegins e) (λ e past. how_many TurnBegins past)

abbrev pub turn_of_call : Call → List Entry → ℕ
turn_of_call c = latest no_turn (does TurnBegins c) (λ e past. how_many TurnBegins past)

-- a thread is combiner while its turn has begun and not ended
abbrev pub combines : ThreadId → List Entry → Bool
combines t = latest false (λ e past. is_by t TurnBegins e || is_by t TurnEnds e) (λ e past. is TurnBegins e)

-- a request is served when an entry applies it: the call, the req that is applied, the thread that serves, its turn, and the answer
pub record Serving : Type 0 where
  pub call : Call
  pub req : Option Request
  pub server : ThreadId
  pub turn : ℕ
  pub answer : Option Answer

abbrev pub serving_of : Entry → List Entry → Serving
serving_of e past = record { call = call_assigned e.node past; req = e.req; server = e.thread; turn = turn_of e.thread past; answer = e.answer }

abbrev pub servings : List Entry → List Serving
servings = in_order (λ e past. cond (is Applies e) (serving_of e past ∷ []) [])

-- how many a turn has served
abbrev pub served_in : ℕ → List Entry → ℕ
served_in turn = sum_over (λ e past. one_if (is Applies e && eqb (turn_of e.thread past) turn))

-- a call's remote references: the remote accesses of its entries, from its first on
abbrev pub cost_of : Call → List Entry → ℕ
cost_of c = sum_over (λ e past. cond (is_of c e past) (remote_in e.remote) 0)

-- whether a Swap of DSM-Synch gives a node of its own thread, and whether that is another than the one that it puts in
abbrev pub gives_own : Entry → List Entry → Bool
gives_own e past = is Swaps e && its_own e.thread.0 (whole e.given)

abbrev pub gave_other : Call → List Entry → Bool
gave_other c = latest false (does Swaps c) (λ e past. gives_own e past && not (eqb e.given.0 e.node.0))

-- a call has returned once an entry of it returns; it combined if it began a turn
abbrev pub returned : Call → List Entry → Bool
returned c = happened (does Returns c)

abbrev pub combined : Call → List Entry → Bool
combined c = happened (does TurnBegins c)

-- what a returned call returns
abbrev pub returns : Call → List Entry → Option Answer
returns c = latest None (does Returns c) (λ e past. e.ret)

-- what stands for the number of no entry
abbrev pub no_entry : ℕ
no_entry = 4_294_967_295

-- an entry's number is how many came before it, its place in the schedule, blanks and spins included: of the latest entry that passes a test
abbrev pub number_where : (Entry → List Entry → Bool) → List Entry → ℕ
number_where test = latest no_entry test (λ e past. length past)

-- the number of the entry that was such an event of a call: of the one that began it, of its Swap, and of the one that it returned with
abbrev pub number_of : Event → Call → List Entry → ℕ
number_of event c = number_where (does event c)

abbrev pub began_at : Call → List Entry → ℕ
began_at = number_of CallBegins

abbrev pub swapped_at : Call → List Entry → ℕ
swapped_at = number_of Swaps

abbrev pub returned_at : Call → List Entry → ℕ
returned_at = number_of Returns

-- whether a call had returned when another began
abbrev pub precedes : Call → Call → List Entry → Bool
precedes c d = happened (λ e past. does CallBegins d e past && returned c past)

-- how a call was served: with which answer, by which thread and in which turn
pub record Shown : Type 0 where
  pub ret : Option Answer
  pub server : ThreadId
  pub turn : ℕ

abbrev pub shown : Serving → Shown
shown w = record { ret = w.answer; server = w.server; turn = w.turn }

abbrev pub unshown : Shown
unshown = record { ret = None; server = no_thread; turn = no_turn }

abbrev pub shown_of : Call → List Serving → Shown
shown_of c [] = unshown
shown_of c (w ∷ later) = cond (same c w.call) (shown w) (shown_of c later)

-- mark and value, 255 and 0 before serving
abbrev pub ret_mark : Option Answer → ℕ
ret_mark None = 255
ret_mark (Some answer) = answer_mark answer

abbrev pub ret_value : Option Answer → ℕ
ret_value None = 0
ret_value (Some answer) = answer_value answer

-- how many bytes a record has
abbrev pub record_length : ℕ
record_length = 24

-- a record, its bytes, from thread, request, mark, serving thread, value, remote references, whether the call has returned, turn, and the
-- numbers of the entries that it began and returned with
abbrev pub record_bytes : ℕ → ℕ → ℕ → ℕ → ℕ → ℕ → Bool → ℕ → ℕ → ℕ → List ℕ
record_bytes thread request mark server value remote over turn began returned =
    thread ∷ request ∷ mark ∷ server ∷ low_first 4 value ++ low_first 4 remote ++ one_if over ∷ low_first 2 turn ++ 0 ∷ low_first 4 began ++ low_first 4 returned

-- the record of a call
abbrev pub record_of : List Entry → Call → List ℕ
record_of history c =
    let w = shown_of c (servings history) in
    record_bytes c.thread.0 c.request (ret_mark w.ret) w.server.0 (ret_value w.ret) (cost_of c history) (returned c history) w.turn (began_at c history) (returned_at c history)

-- the number of so many bytes of a record, from byte i on
abbrev pub number_at : List ℕ → ℕ → ℕ → ℕ
number_at bytes i width = little_endian (take width (drop i bytes))

-- one record for each Swap, in Swap order
abbrev pub records_of : List Entry → List (List ℕ)
records_of history = map (record_of history) (swap_order history)

-- records, turns begun, blanks, spins and all remote references
abbrev pub counts_of : List Entry → Counts
counts_of history = record {
  records = how_many Swaps history;
  turns = how_many TurnBegins history;
  blanks = how_many Blank history;
  spins = how_many Spins history;
  remote = sum_over (λ e past. remote_in e.remote) history;
}
