-- Demand 3 after j entries of a file's run, by either method: all of it but what each method says of refusals and of the nodes that Swaps give. Assumes fields in
-- range, `Going` and a chronicle of the state and its entries, and these two.
use Prim.Native.Nat.{ℕ}
use mathlib.Core.Path.{◌≡◌, sym, ap, subst, ◌∙◌}
use mathlib.Core.Bool.{Bool}
use mathlib.Core.List.{List, map, reverse, reverse-reverse}
use lib.ListN.{length, take}
use lib.Seq.{take-length}
use Rattle.bench_file.specs.Layout.{Fields}
use Rattle.bench_file.specs.Bytes.{InRange}
use Rattle.machine.specs.declared.Method.{Method}
use Rattle.state.specs.declared.State.{State}
use Rattle.state.specs.Range.{counts_in_range}
use Rattle.step.specs.Steps.{steps_of}
use Rattle.history.specs.Entries.{Entry}
use Rattle.history.proofs.Sums.{counts_fit}
use Rattle.claims.specs.Entries.{start_by, state_after, entries_by, history_by, cut}
use Rattle.claims.specs.Claims.{ClaimedBy, OnlyNull, OwnNever, Demand3At}
use Rattle.claims.proofs.Chronicled.{Chronicled}
use Rattle.claims.proofs.Cut.{entries_named, stopped, cut_in_range}
use Rattle.claims.proofs.Left.{closed}
use Rattle.claims.proofs.Numbered.{began_there, returned_there}
use Rattle.claims.proofs.Parts.{claim}
use Rattle.claims.proofs.Run.{Going}

module _ (Paid : Bool → ℕ → ℕ → Type 0) (m : Method) (f : Fields) (fits : InRange f) (j : ℕ) where
  abbrev after : State
  after = state_after m (start_by m f) (take j f.schedule)

  abbrev history : List Entry
  history = reverse (take j (entries_by m f))

  pub demand_3_from : Going m f after history → Chronicled Paid m f after history → steps_of (start_by m f) (take j f.schedule) ≡ record { refusal = 0; state = after }
      → OnlyNull m f after → OwnNever m history → Demand3At m f j
  demand_3_from going kept steps only_null own_never = record {
    claim = claim Paid m f fits after history going kept;
    steps = steps;
    only_null = only_null;
    own_never = own_never;
    counts = going.counted.counts;
    counts_fit = ap counts_in_range going.counted.counts ∙ counts_fit history going.counted.few going.short;
    begun = λ t below. sym (kept.chronicle.swaps.begun t.0 below);
    closed = closed Paid m f after history kept;
    entries =
        ap (map (λ (e : Entry). e.thread.0)) (reverse-reverse (take j (entries_by m f)) ∙ sym (stopped m f j))
        ∙ entries_named m (start_by m f) (take j f.schedule);
    began_there = λ c. began_there m f c j;
    returned_there = λ c. returned_there m f c j kept.chronicle.over;
    stopped = ap reverse (stopped m f j);
    cut_file = cut_in_range f j fits;
  }

-- after as many entries as the schedule has, the claim is of the whole run
pub claim_of_whole : (m : Method) (f : Fields) → Demand3At m f (length f.schedule) → ClaimedBy m f (history_by m f)
claim_of_whole m f demand =
    let whole : history_by m (cut (length f.schedule) f) ≡ history_by m f =
    ap (λ (schedule : List ℕ). history_by m (record { head = f.head; rows = f.rows; schedule = schedule })) (take-length f.schedule) in
    subst (ClaimedBy m f) (sym demand.stopped ∙ whole) demand.claim
