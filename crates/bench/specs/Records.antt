-- The records of calls from what a run in place keeps of them.
use Rattle.std.specs.Prelude.{ℕ, not, List, map, get_or, take, eqb}
use Rattle.history.specs.Terms.{Call, no_entry, record_bytes}
use Rattle.kept.specs.declared.Kept.{Kept}
use Rattle.kept.specs.Kept.{call_at, unkept}

-- the record of a call, which has returned exactly if it has an entry for that
abbrev pub kept_record : Call → Kept → List ℕ
kept_record c k = record_bytes c.thread.0 c.request k.mark k.server k.value k.remote (not (eqb k.returned no_entry)) k.turn k.began k.returned

-- the record of the call that has a place, and so many records in Swap order
abbrev pub record_at : List Kept → ℕ → List ℕ
record_at kept place = kept_record (call_at place) (get_or kept place unkept)

abbrev pub records_in : ℕ → List Kept → List ℕ → List (List ℕ)
records_in count kept order = map (record_at kept) (take count order)
