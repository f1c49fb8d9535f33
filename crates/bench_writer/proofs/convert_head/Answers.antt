-- Too short a buffer, or the head and what stands behind it. Assumes nothing.
use Rattle.std.proofs.Common.{◌≡◌, ◌-◌, ◌≤◌, ℕ, List, length, take, drop, length-drop, refl, sym, ap, ◌∙◌, arith}
use native.Mathlib.Nat.{zero-add}
use lib.Seq.{take_all}
use Rattle.machine.specs.Methods.{method_number}
use Rattle.bench_file.specs.Layout.{head_length}
use Rattle.bench_file.specs.Bytes.{head_bytes, head_in}
use Rattle.bench_writer.specs.Writer.{most_method}
use Rattle.bench_writer.proofs.Converting.{head_long, laid_length, head_short, head_whole}
use Rattle.bench_writer.proofs.Filling.{fills}
use Rattle.bench_writer.proofs.Pasted.{pasted_behind}
use Rattle.bench_writer.proofs.convert_head.Goals as goal

-- what stands in a file from a place on
behind : (file : List ℕ) {at from : ℕ} → at ≡ from → take (length file - at) (drop at file) ≡ drop from file
behind file {at} {from} e = rw e (take_all (length file - from) (drop from file) (rw length-drop (omega arith)))

pub returns-then-out-converted : goal.returns-then-out-converted
returns-then-out-converted c =
    let a = c.args in
    let allowed : method_number a.head.method ≤ most_method a.wanted = omega (arith, c.most_method.ensures, c.from-by.ensures) in
    fills (head_short a.wanted (length a.out.now) a.head (drop (head_length a.head.version) a.file.now) allowed (omega (arith, c.head_bytes-at.ensures, ap length (behind a.file.now c.head_bytes.ensures)))) refl refl refl

pub returns : goal.returns
returns c =
    let a = c.args in
    let rest = drop (head_length a.head.version) a.file.now in
    let head = head_bytes (head_in a.wanted a.head) in
    let allowed : method_number a.head.method ≤ most_method a.wanted = omega (arith, c.most_method.ensures, c.from-by.ensures) in
    let part = behind a.file.now c.head_bytes.ensures in
    let long : c.head_bytes-at.result ≡ length head = c.head_bytes-at.ensures ∙ sym (head_long (head_in a.wanted a.head)) in
    fills (head_whole a.wanted (length a.out.now) a.head rest allowed (omega (arith, c.head_bytes-at.ensures, ap length part))) refl
    (omega (arith, c.head_bytes-at.ensures, ap length part, laid_length a.wanted (length a.out.now) a.head rest))
    (pasted_behind a.out.now head rest c.head_bytes-at.result c.put_head.ensures long (rw part at c.put.ensures) ∙ rw zero-add)
