-- The entries of a file's run, by either method: what each entry of its schedule does, from the fresh machine on, by Algorithm 1 or 2 and the rules of
-- documents 01 and 02.
use Rattle.std.specs.Prelude.{ℕ, ◌-◌, Bool, true, cond, not, ◌&&◌, List, [], ◌∷◌, ◌++◌, map, reverse, length, take, replicate, Some, None}
use Rattle.object.specs.declared.Request.{Request}
use Rattle.object.specs.declared.Answer.{Answer}
use Rattle.bench_file.specs.Layout.{Fields}
use Rattle.machine.specs.declared.Method.{Method}
use Rattle.machine.specs.declared.Method.TheVariants.{CcSynch, DsmSynch}
use Rattle.machine.specs.declared.ThreadId.{ThreadId}
use Rattle.machine.specs.declared.NodeId.{NodeId}
use Rattle.machine.specs.declared.Node.{Node}
use Rattle.machine.specs.declared.Event.{Event}
use Rattle.machine.specs.declared.Event.TheVariants.{Applies}
use Rattle.machine.specs.Accesses.{Access}
use Rattle.machine.specs.Events.{same_event, node_told, given_told, req_told, ret_told}
use Rattle.machine.specs.Sizes.{most_calls}
use Rattle.dsm_synch.specs.Effect.{assigned}
use Rattle.state.specs.declared.State.{State}
use Rattle.state.specs.Fresh.{fresh_state_by}
use Rattle.step.specs.Entry.{zero_request, named}
use Rattle.step.specs.ByMethod.{points_to_by, node_by, event_by, applied_by, accesses_by, entered_by, null_met_by}
use Rattle.history.specs.Entries.{Entry, thread_id}
use Rattle.history.specs.Copies.{remote_marks}

-- an entry of thread t, from what its method tells of it: the node that a Swap would assign, Tail, the node whose request would be applied, the node that its line
-- points to, x, and the object's answer. It tells of these only what the event uses
abbrev pub entry_with : ThreadId → Event → List Access → List Bool → NodeId → NodeId → NodeId → Node → Answer → Entry
entry_with t event accesses remote assigned tail applies x answer = record {
  thread = t;
  event = event;
  accesses = accesses;
  remote = remote;
  node = node_told event assigned applies;
  given = given_told event tail;
  req = req_told event x;
  answer = cond (same_event event Applies) (Some answer) None;
  ret = ret_told event x;
}

-- the node that a Swap assigns to its call: by Algorithm 1 the one that it gives, Tail's; by Algorithm 2 the one that it puts in, myNode
abbrev pub assigned_by : Method → State → ThreadId → NodeId
assigned_by CcSynch s t = s.tail
assigned_by DsmSynch s t = assigned (named s t) s.tail

-- what the entry of a thread does in a state, by a method
abbrev pub entry_by : Method → State → ThreadId → Entry
entry_by m s t =
    entry_with t (event_by m s t) (accesses_by m s t) (remote_marks m s.n t.0 s.copies (accesses_by m s t)) (assigned_by m s t) s.tail (points_to_by m s t) (node_by m s t)
    (applied_by m s t).answer

-- by Algorithm 1, and by Algorithm 2
abbrev pub entry_of : State → ThreadId → Entry
entry_of = entry_by CcSynch

abbrev pub dsm_entry_of : State → ThreadId → Entry
dsm_entry_of = entry_by DsmSynch

-- a list filled up to a length
abbrev pub filled : {A : Type 0} → ℕ → A → List A → List A
filled k a l = l ++ replicate (k - length l) a

-- a thread's requests on 16 places, and those of all threads
abbrev pub row_filled : List Request → List Request
row_filled row = filled 16 zero_request row

abbrev pub rows_of : List (List Request) → List Request
rows_of [] = []
rows_of (row ∷ rows) = row_filled row ++ rows_of rows

-- the fresh machine of a file: thread i's requests stand from place 16 · i on
abbrev pub start_by : Method → Fields → State
start_by m f =
    fresh_state_by m f.head.object f.head.n f.head.h f.head.capacity (filled 16 0 (map length f.rows))
    (filled most_calls zero_request (rows_of f.rows))

-- the entries of a schedule from a state, and the state after them
unfoldable pub entries_from : Method → State → List ℕ → List Entry
entries_from m s [] = []
entries_from m s (t ∷ schedule) = entry_by m s (thread_id t) ∷ entries_from m (entered_by m s (thread_id t)) schedule

unfoldable pub state_after : Method → State → List ℕ → State
state_after m s [] = s
state_after m s (t ∷ schedule) = state_after m (entered_by m s (thread_id t)) schedule

-- whether no entry of a schedule meets null, from a state; of CC-Synch none does
unfoldable pub meets_no_null : Method → State → List ℕ → Bool
meets_no_null m s [] = true
meets_no_null m s (t ∷ schedule) = not (null_met_by m s (thread_id t)) && meets_no_null m (entered_by m s (thread_id t)) schedule

-- the entries of a file's run, the earliest first, and its history, the latest first
abbrev pub entries_by : Method → Fields → List Entry
entries_by m f = entries_from m (start_by m f) f.schedule

abbrev pub history_by : Method → Fields → List Entry
history_by m f = reverse (entries_by m f)

-- a file's run is of its own method
abbrev pub start_of : Fields → State
start_of f = start_by f.head.method f

abbrev pub entries_of : Fields → List Entry
entries_of f = entries_by f.head.method f

abbrev pub history_of : Fields → List Entry
history_of f = history_by f.head.method f

-- whether no entry of it meets null
abbrev pub clear_of : Fields → Bool
clear_of f = meets_no_null f.head.method (start_of f) f.schedule

-- the file with its schedule cut to j
abbrev pub cut : ℕ → Fields → Fields
cut j f = record { head = f.head; rows = f.rows; schedule = take j f.schedule }
