-- Demand 3 of a file by its own method, the claim of a whole run in which no entry meets null, and that it does no more Swaps than its file has requests. Assumes
-- fields in range, or an accepted file.
use Prim.Native.Nat.{ℕ, ◌≤◌}
use native.Mathlib.Omega.{arith}
use mathlib.Core.Path.{◌≡◌}
use mathlib.Core.Bool.{true}
use mathlib.Core.List.{List}
use lib.ListN.{length}
use lib.Seq.{take-length}
use Rattle.object.specs.Each.{Each, sum_of}
use Rattle.bench_file.specs.Layout.{Fields, accepted, judge_of}
use Rattle.bench_file.specs.Bytes.{Byte, InRange}
use Rattle.bench_file.proofs.RoundTrip.{accepted_in_range}
use Rattle.machine.specs.declared.Method.{Method}
use Rattle.machine.specs.declared.Method.TheVariants.{CcSynch, DsmSynch}
use Rattle.machine.specs.declared.Event.TheVariants.{Swaps}
use Rattle.machine.specs.Sizes.{most_calls}
use Rattle.history.specs.Entries.{how_many}
use Rattle.claims.specs.Entries.{start_by, meets_no_null, history_by}
use Rattle.claims.specs.Claims.{ClaimedBy, Demand3By, Demand3Of}
use Rattle.claims.proofs.Demand.{claim_of_whole}
use Rattle.claims.proofs.Room.{swaps_few, requests_few}
use Rattle.claims.proofs.Theorem as cc
use Rattle.dsm_claims.proofs.Theorem.{dsm_demand_3}

pub demand_3 : (m : Method) (f : Fields) → InRange f → Demand3By m f
demand_3 CcSynch f fits = cc.demand_3 f fits
demand_3 DsmSynch f fits = dsm_demand_3 f fits

-- from a file's bytes
pub demand_3_of_files : (bytes : List ℕ) (f : Fields) → Each Byte bytes → judge_of bytes ≡ accepted f → Demand3Of f
demand_3_of_files bytes f each judged = demand_3 f.head.method f (accepted_in_range bytes f each judged)

pub claim_whole : (m : Method) (f : Fields) → InRange f → meets_no_null m (start_by m f) f.schedule ≡ true → ClaimedBy m f (history_by m f)
claim_whole CcSynch f fits clear = cc.claim_whole f fits
claim_whole DsmSynch f fits clear = claim_of_whole DsmSynch f (dsm_demand_3 f fits (length f.schedule) (rw take-length clear))

module _ (m : Method) (f : Fields) (fits : InRange f) (clear : meets_no_null m (start_by m f) f.schedule ≡ true) where
  pub all_swaps_asked : how_many Swaps (history_by m f) ≤ sum_of length f.rows
  all_swaps_asked = swaps_few f (claim_whole m f fits clear)

  pub all_swaps_few : how_many Swaps (history_by m f) ≤ most_calls
  all_swaps_few = omega (arith, all_swaps_asked, requests_few f fits)
