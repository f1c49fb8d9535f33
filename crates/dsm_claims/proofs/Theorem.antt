-- The claims of DSM-Synch, for all fields in range, at every cut of the schedule before an entry that meets null. Assumes nothing else.
use Prim.Native.Nat.{ℕ, ◌<◌}
use native.Mathlib.Omega.{arith}
use mathlib.Core.Path.{◌≡◌, refl, ap, ◌∙◌}
use mathlib.Core.Bool.{true}
use mathlib.Core.List.{List, [], ◌∷◌, reverse}
use lib.ListN.{length, take}
use Rattle.bench_file.specs.Layout.{Fields}
use Rattle.bench_file.specs.Bytes.{InRange}
use Rattle.machine.specs.declared.Method.TheVariants.{DsmSynch}
use Rattle.machine.specs.declared.Thread.{Thread}
use Rattle.machine.specs.declared.ThreadId.{ThreadId}
use Rattle.state.specs.declared.State.{State}
use Rattle.step.specs.ByMethod.{entered_by}
use Rattle.step.specs.Step.{step_of}
use Rattle.step.specs.Steps.{steps_of}
use Rattle.invariant.specs.View.{view_of}
use Rattle.dsm_invariant.specs.Ledger.{fresh_ledger}
use Rattle.dsm_invariant.proofs.Start.{Fresh, control_fresh}
use Rattle.dsm_invariant.proofs.Tip.{tip_fresh}
use Rattle.dsm_invariant.proofs.Cost.{cost_fresh}
use Rattle.dsm_invariant.proofs.Data.{data_fresh}
use Rattle.history.specs.Entries.{Entry}
use Rattle.history.proofs.OfCall.{never_other}
use Rattle.claims.specs.Entries.{entry_by, start_by, state_after, meets_no_null, entries_by}
use Rattle.claims.specs.Claims.{Demand3By}
use Rattle.claims.proofs.Chronicle.{asks, chronicle_fresh}
use Rattle.claims.proofs.Chronicled.{Chronicled}
use Rattle.claims.proofs.Counted.{next_fits}
use Rattle.claims.proofs.Cut.{NoNull, none_met, cut_in_range}
use Rattle.claims.proofs.Demand.{demand_3_from}
use Rattle.claims.proofs.Run.{Going, going_start, goes_on, run_keeps}
use Rattle.claims.proofs.Start.{capacity_fits, sound_start, thread_start}
use Rattle.claims.proofs.Steps.{through, one_step, steps_fold}
use Rattle.dsm_claims.proofs.Layers.{Paid, Layers, null_alone, layers_next}
use Rattle.dsm_claims.proofs.Seen.{phase_of, seen_of, positions_of, idle_line}

-- as the claim needs it: what a call that another served has cost is what is claimed, since no Swap gives its thread's other node
pub chronicled : (f : Fields) (s : State) (past : List Entry) → Going DsmSynch f s past → Layers f s past → Chronicled Paid DsmSynch f s past
chronicled f s past going now = record {
  phase = phase_of;
  positions = positions_of now.ledger;
  cost = now.cost;
  answers = now.answers;
  chronicle = now.chronicle;
  fed = rw (← going.kind, ← going.capacity) now.object.fed;
  said = now.said;
  idle_line = λ u b z. idle_line now.control u (omega (arith, going.n)) z;
  idle_phase = refl;
  by_another = λ c o alone. rw (never_other c past now.own_never) (o.by_another alone);
  combining = λ c o alone. tt;
}

module _ (f : Fields) (fits : InRange f) where
  -- the fresh machine: all threads idle with toggle 0, and Tail null
  fresh_start : Fresh f.head.n (view_of (start_by DsmSynch f))
  fresh_start = record {
    line = λ u b. ap (λ (th : Thread). th.line) (thread_start DsmSynch f fits u b);
    toggle = λ u b. ap (λ (th : Thread). th.toggle) (thread_start DsmSynch f fits u b);
    tail = refl;
  }

  pub layers_start : Layers f (start_by DsmSynch f) []
  layers_start =
      let n = f.head.n in
      let v = view_of (start_by DsmSynch f) in
      let idle = fresh_start.line in
      record {
        ledger = fresh_ledger;
        cost = λ u. 0;
        answers = [];
        sound = sound_start DsmSynch f fits;
        control = control_fresh n f.head.h v fresh_start;
        tip = tip_fresh n v idle;
        spent = cost_fresh n v (λ u. 0) idle;
        object = data_fresh n (asks f) f.head.object f.head.capacity v (capacity_fits f fits) idle;
        chronicle =
            chronicle_fresh Paid f (seen_of v) (positions_of fresh_ledger) (λ u. 0) (λ u b. ap phase_of (idle u b))
            (λ u b. ap (λ (th : Thread). th.begun) (thread_start DsmSynch f fits u b)) refl refl;
        said = tt;
        own_never = refl;
        rows = λ u b. ap (λ (th : Thread). th.count) (thread_start DsmSynch f fits u b);
      }

  -- every entry that meets no null keeps the invariant
  layers_kept : (s : State) (past : List Entry) (t : ThreadId) → t.0 < s.n → length past < 32768 → NoNull DsmSynch s t → Going DsmSynch f s past → Layers f s past
      → Layers f (entered_by DsmSynch s t) (entry_by DsmSynch s t ∷ past)
  layers_kept s past t below short fine going now = layers_next f fits s past t below going now fine short

  -- so the machine after j such entries has it
  run_layers : (j : ℕ) → meets_no_null DsmSynch (start_by DsmSynch f) (take j f.schedule) ≡ true
      → Going DsmSynch f (state_after DsmSynch (start_by DsmSynch f) (take j f.schedule)) (reverse (take j (entries_by DsmSynch f)))
      × Layers f (state_after DsmSynch (start_by DsmSynch f) (take j f.schedule)) (reverse (take j (entries_by DsmSynch f)))
  run_layers j none =
      run_keeps DsmSynch f fits (NoNull DsmSynch) (Layers f) layers_start layers_kept j
      (none_met DsmSynch (start_by DsmSynch f) (take j f.schedule) none)

  -- no step of these is refused
  goes : (s : State) (past : List Entry) (t : ThreadId) → t.0 < f.head.n → length past < 32768 → NoNull DsmSynch s t
      → Going DsmSynch f s past × Layers f s past → step_of s t ≡ through (entered_by DsmSynch s t)
  goes s past t below short fine now =
      let below_n : t.0 < s.n = omega (arith, now.0.n) in
      one_step DsmSynch s t now.0.method now.1.sound below_n ((null_alone f fits s past t below_n now.0 now.1).alone ∙ fine)
      (next_fits DsmSynch s past t now.0.counted short)

  run_steps : (j : ℕ) → meets_no_null DsmSynch (start_by DsmSynch f) (take j f.schedule) ≡ true
      → steps_of (start_by DsmSynch f) (take j f.schedule) ≡ through (state_after DsmSynch (start_by DsmSynch f) (take j f.schedule))
  run_steps j none =
      let fits' = cut_in_range f j fits in
      steps_fold DsmSynch f.head.n 32768 (NoNull DsmSynch) _ goes (goes_on DsmSynch f fits (NoNull DsmSynch) (Layers f) layers_start layers_kept) (start_by DsmSynch f) []
      (take j f.schedule) fits'.schedule (omega (arith, fits'.entries)) (none_met DsmSynch (start_by DsmSynch f) (take j f.schedule) none)
      (going_start DsmSynch f, layers_start)

  pub dsm_demand_3 : Demand3By DsmSynch f
  dsm_demand_3 j none =
      let kept = run_layers j none in
      demand_3_from Paid DsmSynch f fits j kept.0 (chronicled f _ _ kept.0 kept.1) (run_steps j none)
      (λ t below. null_alone f fits _ _ t (omega (arith, kept.0.n)) kept.0 kept.1) kept.1.own_never
