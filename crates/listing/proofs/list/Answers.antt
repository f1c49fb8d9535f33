-- The refusal of a file, of its run, or the run. Assumes nothing.
use Rattle.std.proofs.Common.{◌≡◌, length, Err, refl, ap, ◌∙◌, arith, rules}
use Rattle.bench.proofs.Enough.{ran, refusal_is, number_some}
use Rattle.bench.specs.Run.{enough_for_records}
use Rattle.listing.proofs.Service.{one_digit, lists_run, lists_null, lists_refusal}
use Rattle.listing.proofs.list.Goals as goal

pub list_run-requires : goal.list_run-requires
list_run-requires c =
    let ready = ran c.in-Ok-run.ensures c.judge.ensures refl in
    let long : length c.run.new.out ≡ enough_for_records = search rules in
    (omega (arith, ready.few), ready.few, one_digit ready c.in-Ok.ensures.answer)

pub returns-in-Ok-run : goal.returns-in-Ok-run
returns-in-Ok-run c = lists_run _ _ _ (ran c.in-Ok-run.ensures c.judge.ensures refl) c.in-Ok.ensures.answer c.list_run.ensures

pub returns-in-Err-run : goal.returns-in-Err-run
returns-in-Err-run c =
    let number = c.number in
    let some = number_some c.in-Err-run.of_run in
    lists_null _ _ (number.ensures ∙ refusal_is c.in-Err-run.ensures c.judge.ensures) (λ z. absurd (omega (arith, z, number.ensures, some))) c.give_refusal.ensures

pub returns-in-Err : goal.returns-in-Err
returns-in-Err c = lists_refusal _ _ (ap Err c.number-in-Err.ensures ∙ c.in-Err.ensures.answer) c.give_refusal-in-Err.ensures
