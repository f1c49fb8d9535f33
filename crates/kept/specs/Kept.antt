-- What a run keeps of each call while it goes, and where: a call has one of 256 numbers, 16 for each thread.
use Rattle.std.specs.Prelude.{ℕ, ◌+◌, ◌*◌, ◌/◌, ◌%◌, ◌^◌, Bool, cond, List, Some, replicate}
use Rattle.object.specs.declared.Answer.{Answer}
use Rattle.machine.specs.declared.ThreadId.{ThreadId}
use Rattle.machine.specs.declared.Event.{Event}
use Rattle.machine.specs.declared.Event.TheVariants.{CallBegins, Returns}
use Rattle.machine.specs.Events.{same_event}
use Rattle.machine.specs.Sizes.{most_calls, most_nodes}
use Rattle.history.specs.Entries.{Entry, thread_id}
use Rattle.history.specs.Terms.{Call, no_call, no_turn, servings, cost_of, no_entry, began_at, returned_at, shown_of, Shown, unshown, ret_mark, ret_value}
use Rattle.kept.specs.declared.Kept.{Kept}
use Rattle.kept.specs.declared.Notes.{Notes}

-- the place of a call, and the call of a place
abbrev pub place_of : Call → ℕ
place_of c = 16 * c.thread.0 + c.request

abbrev pub call_at : ℕ → Call
call_at p = record { thread = thread_id (p / 16); request = p % 16 }

-- what is kept of a call: how it was served, its remote references, and the numbers of the entries that it began and returned with
abbrev pub kept_by : Shown → ℕ → ℕ → ℕ → Kept
kept_by w remote began returned = record {
  mark = ret_mark w.ret;
  server = w.server.0;
  value = ret_value w.ret;
  remote = remote;
  turn = w.turn;
  began = began;
  returned = returned;
}

-- as the entries so far say
abbrev pub kept_of : List Entry → Call → Kept
kept_of history c = kept_by (shown_of c (servings history)) (cost_of c history) (began_at c history) (returned_at c history)

-- of a call before its first entry
abbrev pub unkept : Kept
unkept = kept_by unshown 0 no_entry no_entry

-- after an entry of the call, with so many remote references and a number
abbrev pub after_entry : Kept → Event → ℕ → ℕ → Kept
after_entry k event remote number = record {
  mark = k.mark;
  server = k.server;
  value = k.value;
  remote = (k.remote + remote) % 2 ^ 32;
  turn = k.turn;
  began = cond (same_event event CallBegins) number k.began;
  returned = cond (same_event event Returns) number k.returned;
}

-- after an entry that serves the call, or not
abbrev pub after_serving : Kept → Bool → Answer → ThreadId → ℕ → Kept
after_serving k serves answer server turn =
    cond serves
    (kept_by (record { ret = Some answer; server = server; turn = turn }) k.remote k.began k.returned)
    k

-- what is noted before the first entry
abbrev pub no_notes : Notes
no_notes = record { turns = replicate 16 no_turn; given = replicate most_nodes (place_of no_call); order = replicate most_calls 0 }
