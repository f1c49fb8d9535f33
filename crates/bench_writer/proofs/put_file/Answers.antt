-- Four runs of bytes, one behind the other. Assumes nothing.
use Rattle.std.proofs.Common.{◌≡◌, ℕ, ◌+◌, ◌++◌, length, length-append, sym, ap, ◌∙◌, arith}
use Rattle.bench_file.specs.declared.Head.{Head}
use Rattle.bench_file.specs.Layout.{head_length}
use Rattle.bench_file.specs.Bytes.{low_first, head_from, head_bytes}
use Rattle.bench_writer.specs.Writer.{as_given, interleaved, raw_bytes, pasted}
use Rattle.bench_file.proofs.Each.{low_length}
use Rattle.bench_file.proofs.Size.{head_length_lem}
use Rattle.bench_writer.proofs.Laying.{raw_length, head_from_given}
use Rattle.bench_writer.proofs.Pasted.{pasted_behind}
use Rattle.bench_writer.proofs.put_file.Goals as goal

pub put_head-requires : goal.put_head-requires
put_head-requires c =
    let version = ap (λ (head : Head). head_length head.version) c.head.ensures in
    omega (arith, raw_length (as_given c.args.given), version)

pub returns : goal.returns
unfolding raw_bytes
returns c =
    let g = as_given c.args.given in
    let out = c.args.out.now in
    let head = head_from g.version g.object g.n g.h g.capacity g.method in
    let rows = interleaved g.counts g.requests in
    let low = low_first 2 (length g.schedule) in
    let put_head : c.put_head.new.out ≡ pasted out 0 head = c.put_head.ensures ∙ ap (λ (h : Head). pasted out 0 (head_bytes h)) c.head.ensures ∙ ap (pasted out 0) (head_from_given g c.requires.0 c.requires.1) in
    let long = c.head_bytes-at.ensures ∙ sym (head_length_lem g.version g.object g.n g.h g.capacity g.method) in
    let next = c.put_rows-next.ensures.value ∙ ap (λ (at : ℕ). at + length rows) long ∙ sym (length-append head rows) in
    pasted_behind out (head ++ rows ++ low) g.schedule (c.put_rows-next.result + 2)
    (pasted_behind out (head ++ rows) low c.put_rows-next.result
    (pasted_behind out head rows c.head_bytes-at.result put_head long c.put_rows-next.ensures.out_after)
    next c.put_length.ensures)
    (rw (length-append (head ++ rows) low, low_length) (omega (arith, next))) c.put.ensures
