-- A version that is not known, a file's own refusal, or an accepted file. Assumes nothing.
use Rattle.std.proofs.Common.{length, refl, sym, ◌∙◌, arith}
use Rattle.refusal.proofs.Numbers.{passed_on}
use Rattle.bench_file.proofs.Each.{each_at}
use Rattle.bench_writer.proofs.Converting.{unknown_version, own_refusal, own_head, converts}
use Rattle.bench_writer.proofs.Filling.{fills, filled_as}
use Rattle.bench_writer.proofs.convert.Goals as goal

pub returns-then-not-version_known : goal.returns-then-not-version_known
returns-then-not-version_known c =
    let p = each_at c.args.file.now (λ i. omega (arith, c.type_inv.file i)) in
    converts _ _ _ _ _ p (fills (unknown_version _ _ _ (sym c.version_known.ensures ∙ c.if-not-version_known.true)) refl refl refl)

pub returns-in_err-judged : goal.returns-in_err-judged
returns-in_err-judged c =
    let a = c.args in
    let p = each_at a.file.now (λ i. omega (arith, c.type_inv.file i)) in
    let own = own_refusal a.file.now a.wanted (length a.out.now) (sym c.version_known.ensures ∙ c.if-not-version_known.false) c.in_err-judged.ensures.answer in
    rw (passed_on c.from_residual.result c.from_residual.ensures) (converts _ _ _ _ _ p (fills own refl refl refl))

pub convert_head-requires : goal.convert_head-requires
convert_head-requires c =
    let a = c.args in
    let p = each_at a.file.now (λ i. omega (arith, c.type_inv.file i)) in
    (own_head a.file.now a.wanted (length a.out.now) (sym c.version_known.ensures ∙ c.if-not-version_known.false) p c.in_ok-judged.ensures.answer).0

pub returns : goal.returns
returns c =
    let a = c.args in
    let p = each_at a.file.now (λ i. omega (arith, c.type_inv.file i)) in
    let told = own_head a.file.now a.wanted (length a.out.now) (sym c.version_known.ensures ∙ c.if-not-version_known.false) p c.in_ok-judged.ensures.answer in
    converts _ _ _ _ _ p (filled_as c.convert_head.ensures (sym told.1))
