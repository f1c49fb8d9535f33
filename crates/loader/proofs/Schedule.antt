-- The schedule stands at the end of its file. Assumes that the bytes are bytes.
use Prim.Native.Nat.{ℕ, ◌-◌, ◌≤◌}
use native.Mathlib.Omega.{arith}
use mathlib.Core.Path.{◌≡◌}
use mathlib.Core.List.{List, ◌++◌}
use lib.ListN.{length, drop, length-append}
use lib.Seq.{drop_at}
use Rattle.object.specs.Each.{Each}
use Rattle.bench_file.specs.Layout.{Fields, accepted, judge_of}
use Rattle.bench_file.specs.Bytes.{low_first, each_bytes, row_bytes, head_bytes, bytes_of, Byte}
use Rattle.bench_file.proofs.RoundTrip.{writes_back}

ends_with : (front schedule : List ℕ) {bytes : List ℕ} → front ++ schedule ≡ bytes → (length schedule ≤ length bytes) × (drop (length bytes - length schedule) bytes ≡ schedule)
ends_with front schedule e = rw (← e) (rw length-append (omega arith), drop_at front schedule (length (front ++ schedule) - length schedule) (rw length-append (omega arith)))

pub schedule_last : (bytes : List ℕ) (f : Fields) → Each Byte bytes → judge_of bytes ≡ accepted f
    → (length f.schedule ≤ length bytes) × (drop (length bytes - length f.schedule) bytes ≡ f.schedule)
unfolding bytes_of
schedule_last bytes f p e = ends_with (head_bytes f.head ++ each_bytes row_bytes f.rows ++ low_first 2 (length f.schedule)) f.schedule (writes_back bytes f p e)
