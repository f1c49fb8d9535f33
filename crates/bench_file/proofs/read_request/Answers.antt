-- Each return is one law of `request_reader` behind its code. Assumes nothing.
use Rattle.std.proofs.Common.{ℕ, sym, ◌∙◌, ap}
use Rattle.refusal.proofs.Numbers.{passed_on}
use Rattle.object.specs.Paper.{value_allowed}
use Rattle.bench_file.specs.Layout.{request_reader}
use Rattle.bench_file.proofs.Reading.{four_read}
use Rattle.bench_file.proofs.Request.{request_cut, request_allowed, request_denied}
use Rattle.bench_file.proofs.read_request.Goals as goal

pub returns-in_err-code-clause-result_value : goal.returns-in_err-code-clause-result_value
unfolding request_reader
returns-in_err-code-clause-result_value c =
    rw (passed_on c.from_residual.result c.from_residual.ensures)
    (simp (← c.most_code-most.ensures, ← c.least_code-least.ensures, sym c.in_err-code.ensures.result_value))

pub returns-then-s-lt5-clause-result_value : goal.returns-then-s-lt5-clause-result_value
returns-then-s-lt5-clause-result_value c =
    let code = rw (c.least_code-least.ensures, c.most_code-most.ensures) at (sym c.in_ok-code.ensures.result_value) in
    rw (request_cut c.args.s.now c.args.object code c.in_ok-code.ensures.inside c.if-s-lt5.true)

pub returns-then-value_allowed-clause-result_value : goal.returns-then-value_allowed-clause-result_value
returns-then-value_allowed-clause-result_value c =
    let s = c.args.s.now in
    let code = rw (c.least_code-least.ensures, c.most_code-most.ensures) at (sym c.in_ok-code.ensures.result_value) in
    let value = c.from_le_bytes-value.ensures ∙ four_read s 1 in
    rw (request_allowed s c.args.object code c.if-s-lt5.false (ap (λ (v : ℕ). value_allowed c.in_ok-code.code v) (sym value) ∙ sym c.value_allowed.ensures ∙ c.if-value_allowed.true))

pub returns-clause-result_value : goal.returns-clause-result_value
returns-clause-result_value c =
    let s = c.args.s.now in
    let code = rw (c.least_code-least.ensures, c.most_code-most.ensures) at (sym c.in_ok-code.ensures.result_value) in
    let value = c.from_le_bytes-value.ensures ∙ four_read s 1 in
    rw (request_denied s c.args.object code c.if-s-lt5.false (ap (λ (v : ℕ). value_allowed c.in_ok-code.code v) (sym value) ∙ sym c.value_allowed.ensures ∙ c.if-value_allowed.false))
