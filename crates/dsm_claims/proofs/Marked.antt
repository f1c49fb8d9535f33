-- The marked runs of DSM-Synch, by computation. Assumes nothing.
use Prim.Native.Nat.{ℕ}
use mathlib.Core.Path.{◌≡◌, refl}
use mathlib.Core.Bool.{Bool, true, false, cond}
use mathlib.Core.List.{[], ◌∷◌, map}
use lib.ListN.{take}
use Rattle.bench_file.specs.Layout.{Fields}
use Rattle.bench_file.specs.Bytes.{low_first}
use Rattle.machine.specs.declared.Method.TheVariants.{DsmSynch}
use Rattle.machine.specs.declared.Event.TheVariants.{Swaps}
use Rattle.step.specs.Entry.{line}
use Rattle.history.specs.Entries.{thread_id, in_order, is}
use Rattle.history.specs.Terms.{combines, counts_of, records_of}
use Rattle.claims.specs.Entries.{start_by, entries_from, state_after, meets_no_null, history_by, cut}
use Rattle.dsm_claims.specs.Marked.{Marked, Swapping, gives, swaps, failed_cas, late_line27, null_for_tmp_node, marked_runs, swappings}

-- what a run gives
abbrev ran : Fields → Marked
ran f = let history = history_by DsmSynch f in gives f (counts_of history) (records_of history)

pub marked_runs_lem : map (λ (m : Marked). ran m.fields) marked_runs ≡ marked_runs
unfolding low_first entries_from marked_runs
marked_runs_lem = refl

-- whether no entry of a run meets null
abbrev fine : Fields → Bool
fine f = meets_no_null DsmSynch (start_by DsmSynch f) f.schedule

pub met_nowhere : map (λ (m : Marked). fine m.fields) marked_runs ≡ map (λ (m : Marked). true) marked_runs
unfolding meets_no_null marked_runs
met_nowhere = refl

-- the 106th entry of the one follows null, and the 113th of the other would put it into tmpNode, by the line that thread 1 is at
pub met_at_last : fine late_line27 ∷ fine null_for_tmp_node ∷ [] ≡ false ∷ false ∷ []
unfolding meets_no_null
met_at_last = refl

abbrev line_after : ℕ → Fields → ℕ
line_after j f = line (state_after DsmSynch (start_by DsmSynch f) (take j f.schedule)) (thread_id 1)

pub by_lines_26_and_21 : line_after 105 late_line27 ∷ line_after 112 null_for_tmp_node ∷ [] ≡ 26 ∷ 21 ∷ []
unfolding state_after
by_lines_26_and_21 = refl

-- what the Swaps of a run assign and give
abbrev swapped : Fields → Swapping
swapped f = swaps f (in_order (λ e past. cond (is Swaps e) ((e.node.0, e.given.0) ∷ []) []) (history_by DsmSynch f))

pub swaps_told : map (λ (w : Swapping). swapped w.fields) swappings ≡ swappings
unfolding entries_from swappings
swaps_told = refl

-- a CAS that fails leaves its thread the combiner: thread 0's turn begins with entry 8, line 13, its CAS, entry 25, fails, and the turn ends with entry 30, line 26
abbrev combiner_after : ℕ → Bool
combiner_after j = combines (thread_id 0) (history_by DsmSynch (cut j failed_cas))

pub turn_goes_on : map combiner_after (8 ∷ 9 ∷ 26 ∷ 30 ∷ 31 ∷ []) ≡ false ∷ true ∷ true ∷ true ∷ false ∷ []
unfolding entries_from
turn_goes_on = refl
