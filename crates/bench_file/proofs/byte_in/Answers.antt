-- Each return is one law of `ruled_byte` at a place. Assumes nothing.
use Rattle.std.proofs.Common.{sym, ◌∙◌}
use Rattle.refusal.specs.Numbers.{number}
use Rattle.object.specs.Paper.{within}
use Rattle.bench_file.proofs.Reading.{ruled_cut, ruled_is, ruled_out}
use Rattle.bench_file.proofs.byte_in.Goals as goal

pub returns-then-s-at-clause-result_value : goal.returns-then-s-at-clause-result_value
returns-then-s-at-clause-result_value c =
    let a = c.args in
    sym (ruled_cut a.s.now a.at (number a.refusal) (λ b. within a.least b a.most) c.if-s-at.true)

pub returns-then-between-clause-result_value : goal.returns-then-between-clause-result_value
returns-then-between-clause-result_value c =
    let a = c.args in
    sym (ruled_is a.s.now a.at (number a.refusal) (λ b. within a.least b a.most) c.if-s-at.false (sym c.between.ensures ∙ c.if-between.true))

pub returns-clause-result_value : goal.returns-clause-result_value
returns-clause-result_value c =
    let a = c.args in
    sym (ruled_out a.s.now a.at (number a.refusal) (λ b. within a.least b a.most) c.if-s-at.false (sym c.between.ensures ∙ c.if-between.false))
