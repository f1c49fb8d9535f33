-- An entry by its method is Entry.antt's where that is CC-Synch, and DsmEntry.antt's where it is DSM-Synch. Assumes nothing.
use Rattle.std.proofs.Common.{◌≡◌, refl}
use Rattle.machine.specs.declared.Method.TheVariants.{CcSynch, DsmSynch}
use Rattle.machine.specs.declared.ThreadId.{ThreadId}
use Rattle.state.specs.declared.State.{State}
use Rattle.step.specs.Entry as cc
use Rattle.step.specs.DsmEntry as dsm
use Rattle.step.specs.ByMethod.{event_by, accesses_by, entered_by, out_by, null_met_by}

module _ (s : State) (t : ThreadId) where
  pub of_cc : (event_by CcSynch s t ≡ cc.event s t) × (accesses_by CcSynch s t ≡ cc.accesses s t) × (entered_by CcSynch s t ≡ cc.entered s t)
  of_cc = (refl, refl, refl)

  pub of_dsm : (event_by DsmSynch s t ≡ dsm.event s t) × (accesses_by DsmSynch s t ≡ dsm.accesses s t) × (entered_by DsmSynch s t ≡ dsm.entered s t)
      × (out_by DsmSynch s t ≡ dsm.out s t) × (null_met_by DsmSynch s t ≡ dsm.null_met s t)
  of_dsm = (refl, refl, refl, refl, refl)
