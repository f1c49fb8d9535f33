-- Demand 3 of CC-Synch, for all fields in range, at every cut of the schedule. Assumes nothing else.
use Prim.Native.Nat.{ℕ, ◌<◌}
use native.Mathlib.Omega.{arith}
use mathlib.Core.Path.{◌≡◌, refl, ap}
use mathlib.Core.List.{List, [], ◌∷◌, reverse}
use lib.ListN.{length, take}
use Rattle.bench_file.specs.Layout.{Fields}
use Rattle.bench_file.specs.Bytes.{InRange}
use Rattle.machine.specs.declared.Method.TheVariants.{CcSynch}
use Rattle.machine.specs.declared.Thread.{Thread}
use Rattle.machine.specs.declared.ThreadId.{ThreadId}
use Rattle.state.specs.declared.State.{State}
use Rattle.step.specs.Entry.{entered}
use Rattle.step.specs.Step.{step_of}
use Rattle.step.specs.Steps.{steps_of}
use Rattle.invariant.specs.Ledger.{fresh_ledger}
use Rattle.invariant.specs.View.{view_of}
use Rattle.invariant.proofs.Data.{data_fresh}
use Rattle.invariant.proofs.Remote.{remote_fresh}
use Rattle.invariant.proofs.Start.{control_fresh}
use Rattle.history.specs.Entries.{Entry}
use Rattle.claims.specs.Entries.{entry_of, start_by, state_after, entries_by, history_by}
use Rattle.claims.specs.Claims.{ClaimedBy, Demand3By}
use Rattle.claims.proofs.Chronicle.{asks, chronicle_fresh}
use Rattle.claims.proofs.CopiesSaid.{copies_fresh}
use Rattle.claims.proofs.Counted.{next_fits}
use Rattle.claims.proofs.Cut.{NoNull, none_met, never_met, cut_in_range}
use Rattle.claims.proofs.Demand.{demand_3_from, claim_of_whole}
use Rattle.claims.proofs.Layers.{Layers, Paid, chronicled, stays, layers_next}
use Rattle.claims.proofs.Run.{Going, going_start, goes_on, run_keeps}
use Rattle.claims.proofs.Seen.{phase_of, seen_of, positions_of}
use Rattle.claims.proofs.Start.{fresh_start, sound_start, thread_start}
use Rattle.claims.proofs.Steps.{through, one_step, steps_fold}

module _ (f : Fields) (fits : InRange f) where
  -- the fresh machine has the invariant
  pub layers_start : Layers f (start_by CcSynch f) []
  layers_start =
      let n = f.head.n in
      let v = view_of (start_by CcSynch f) in
      let fresh = fresh_start f fits in
      record {
        ledger = fresh_ledger n;
        cost = λ u. 0;
        answers = [];
        sound = sound_start CcSynch f fits;
        control = control_fresh n f.head.h v fresh;
        remote = remote_fresh fresh.line;
        object = data_fresh n (asks f) f.head.object f.head.capacity v fresh.line;
        chronicle =
            chronicle_fresh Paid f (seen_of v) (positions_of (fresh_ledger n)) (λ u. 0) (λ u b. ap phase_of (fresh.line u b))
            (λ u b. ap (λ (th : Thread). th.begun) (thread_start CcSynch f fits u b)) refl refl;
        copies = copies_fresh f;
        said = tt;
        rows = λ u b. ap (λ (th : Thread). th.count) (thread_start CcSynch f fits u b);
      }

  -- every entry keeps it
  layers_kept : (s : State) (past : List Entry) (t : ThreadId) → t.0 < s.n → length past < 32768 → NoNull CcSynch s t → Going CcSynch f s past → Layers f s past
      → Layers f (entered s t) (entry_of s t ∷ past)
  layers_kept s past t below short ok going now = layers_next f fits s past t below going now short

  -- and the machine after j entries has it
  pub run_layers : (j : ℕ) → Going CcSynch f (state_after CcSynch (start_by CcSynch f) (take j f.schedule)) (reverse (take j (entries_by CcSynch f)))
      × Layers f (state_after CcSynch (start_by CcSynch f) (take j f.schedule)) (reverse (take j (entries_by CcSynch f)))
  run_layers j = run_keeps CcSynch f fits (NoNull CcSynch) (Layers f) layers_start layers_kept j (none_met CcSynch (start_by CcSynch f) (take j f.schedule) (never_met (start_by CcSynch f) (take j f.schedule)))

  -- no step is refused
  goes : (s : State) (past : List Entry) (t : ThreadId) → t.0 < f.head.n → length past < 32768 → NoNull CcSynch s t
      → Going CcSynch f s past × Layers f s past → step_of s t ≡ through (entered s t)
  goes s past t below short fine now =
      let below_n : t.0 < s.n = omega (arith, now.0.n) in
      one_step CcSynch s t now.0.method now.1.sound below_n (stays f fits s past t below_n now.0 now.1) (next_fits CcSynch s past t now.0.counted short)

  run_steps : (j : ℕ) → steps_of (start_by CcSynch f) (take j f.schedule) ≡ through (state_after CcSynch (start_by CcSynch f) (take j f.schedule))
  run_steps j =
      let fits' = cut_in_range f j fits in
      steps_fold CcSynch f.head.n 32768 (NoNull CcSynch) _ goes (goes_on CcSynch f fits (NoNull CcSynch) (Layers f) layers_start layers_kept) (start_by CcSynch f) [] (take j f.schedule)
      fits'.schedule (omega (arith, fits'.entries)) (none_met CcSynch (start_by CcSynch f) (take j f.schedule) (never_met (start_by CcSynch f) (take j f.schedule))) (going_start CcSynch f, layers_start)

  pub demand_3 : Demand3By CcSynch f
  demand_3 j =
      let kept = run_layers j in
      demand_3_from Paid CcSynch f fits j kept.0 (chronicled f _ _ kept.0 kept.1) (run_steps j) tt tt

  -- after the last entry the claim is of the whole run
  pub claim_whole : ClaimedBy CcSynch f (history_by CcSynch f)
  claim_whole = claim_of_whole CcSynch f (demand_3 (length f.schedule))
