-- The same fields in a file of another version: in range there too, where the method allows it, and read back from their bytes. Assumes nothing.
use Prim.Native.Nat.{ℕ, ◌≤◌}
use native.Mathlib.Omega.{arith}
use mathlib.Core.Path.{◌≡◌}
use Rattle.machine.specs.declared.Method.TheVariants.{CcSynch}
use Rattle.bench_file.specs.Layout.{Fields, accepted, judge_of}
use Rattle.bench_file.specs.Bytes.{bytes_of, InRange, in_version}
use Rattle.bench_file.proofs.RoundTrip.{reads_back}

pub in_version_lem : (version : ℕ) (f : Fields) → InRange f → (1 ≤ version) × (version ≤ 2) → (version ≡ 1 → f.head.method ≡ CcSynch) → InRange (in_version version f)
in_version_lem version f g known method = record {
  head = record { version = known; n = g.head.n; h = g.head.h; capacity = g.head.capacity; method = method };
  threads = g.threads;
  rows = g.rows;
  entries = g.entries;
  schedule = g.schedule;
}

-- what is in range in version 1 is so in version 2, with method CC-Synch, and its bytes there are accepted with the same fields
pub twin : (f : Fields) → InRange f → f.head.version ≡ 1
    → InRange (in_version 2 f) × (judge_of (bytes_of (in_version 2 f)) ≡ accepted (in_version 2 f)) × ((in_version 2 f).head.method ≡ CcSynch)
twin f g first =
    let there = in_version_lem 2 f g (omega arith) (λ e. absurd (omega arith)) in
    (there, reads_back (in_version 2 f) there, g.head.method first)
