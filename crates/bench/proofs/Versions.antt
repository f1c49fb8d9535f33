-- A run reads a file's fields and not its version: a file of version 2 with method CC-Synch gives the records and counts of its version 1 twin, and what a file
-- is converted to gives the file's result, with as many bytes lent. Assumes fields in range, where the files' bytes are run, or the promise of the conversion.
use Prim.Native.Nat.{ℕ}
use mathlib.Core.Path.{◌≡◌, refl, sym, ap, ◌∙◌}
use mathlib.Core.List.{List}
use lib.ListN.{take}
use Rattle.bench_file.specs.Layout.{Fields, accepted, judge_of}
use Rattle.bench_file.specs.Bytes.{bytes_of, InRange, in_version}
use Rattle.bench_file.proofs.RoundTrip.{reads_back}
use Rattle.bench_file.proofs.Twin.{twin}
use Rattle.bench_writer.specs.Writer.{Written}
use Rattle.bench_writer.specs.Convert.{Converts}
use Rattle.bench.specs.Run.{result_in}

pub same_in_versions : (version lent : ℕ) (f : Fields) → result_in lent (accepted (in_version version f)) ≡ result_in lent (accepted f)
same_in_versions version lent f = refl

-- from the bytes of both
pub twins_alike : (lent : ℕ) (f : Fields) → InRange f → f.head.version ≡ 1 → result_in lent (judge_of (bytes_of (in_version 2 f))) ≡ result_in lent (judge_of (bytes_of f))
twins_alike lent f fits first = ap (result_in lent) (twin f fits first).1 ∙ same_in_versions 2 lent f ∙ ap (result_in lent) (sym (reads_back f fits))

-- from the bytes of a file and of what it is converted to
pub converted_alike : {bytes before after : List ℕ} {wanted : ℕ} {answer : Written} → Converts bytes wanted answer before after → answer.refusal ≡ 0 → (lent : ℕ)
    → result_in lent (judge_of (take answer.length after)) ≡ result_in lent (judge_of bytes)
converted_alike {wanted = wanted} c z lent =
    let (f, judged, there) = c.same_fields z in
    ap (result_in lent) there ∙ same_in_versions wanted lent f ∙ ap (result_in lent) (sym judged)
