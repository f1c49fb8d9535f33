-- A head, and then from the rows on. Assumes nothing.
use Rattle.std.proofs.Common.{length, sym, ◌∙◌, arith}
use Rattle.std.proofs.lemmas.Slice.{between_to_end}
use Rattle.refusal.proofs.Numbers.{passed_on}
use Rattle.bench_file.proofs.Judging.{judged_head, judged_refused, judges}
use Rattle.bench_file.proofs.Each.{each_at}
use Rattle.bench_file.proofs.judge.Goals as goal

pub returns : goal.returns
returns c =
    let s = c.args.file.now in
    judges s (each_at s (λ i. omega (arith, c.type_inv.file i)))
    (rw (between_to_end s _ (length s) (omega arith), c.head_bytes.ensures) at c.judge_rows.ensures ∙ sym (judged_head s c.in_ok-head.head (sym c.in_ok-head.ensures.result_value)))

pub returns-in_err-head : goal.returns-in_err-head
returns-in_err-head c =
    let s = c.args.file.now in
    judges s (each_at s (λ i. omega (arith, c.type_inv.file i)))
    (rw (passed_on c.from_residual.result c.from_residual.ensures) (sym (judged_refused s _ (sym c.in_err-head.ensures.result_value))))
