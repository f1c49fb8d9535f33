-- What is printed is the pages, or the line of a refusal, of the bytes read, which are judged as the whole input. Assumes nothing.
use Rattle.std.proofs.Common.{◌≡◌, ℕ, length, take, refl, ap, ◌∙◌, arith, rules}
use Rattle.bench.proofs.Enough.{number_some}
use Rattle.bench_file.proofs.Prefix.{judged_by_start}
use Rattle.cells.proofs.Giving.{inside, given_length}
use Rattle.ccs_page.specs.Output.{output_of}
use Rattle.ccs_page.proofs.Output.{pages_output, refusal_output}
use Rattle.ccs_page.proofs.page_start.Goals as goal

pub returns-in-Ok-clause-by_index : goal.returns-in-Ok-clause-by_index
returns-in-Ok-clause-by_index c = λ input e. pages_output c.in-Ok.ensures refl ∙ ap output_of (judged_by_start input c.requires.1 e)

pub returns-in-Err-clause-by_index : goal.returns-in-Err-clause-by_index
returns-in-Err-clause-by_index c =
    let long : length c.page.new.out ≡ length c.args.text.now = search rules in
    λ input e. ap (λ (count : ℕ). take count c.give_refusal.new.out) (c.unwrap_or.ensures ∙ given_length c.give_refusal.result)
    ∙ refusal_output c.in-Err.ensures c.requires.2 (λ z. omega (arith, z, number_some c.in-Err.refusal)) c.number.ensures (omega (arith, c.requires.2, long)) c.give_refusal.ensures
    ∙ ap output_of (judged_by_start input c.requires.1 e)

pub returns-in-Err-clause-upper_bound : goal.returns-in-Err-clause-upper_bound
returns-in-Err-clause-upper_bound c =
    let long : length c.page.new.out ≡ length c.args.text.now = search rules in
    omega (arith, inside c.give_refusal.ensures, long, c.unwrap_or.ensures, given_length c.give_refusal.result)
