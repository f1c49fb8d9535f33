-- The pages of a run, or the number of a refusal. Assumes nothing.
use Rattle.std.proofs.Common.{◌≡◌, length, refl, arith, rules}
use Rattle.std.proofs.lemmas.Result.{err_from_is_err_and}
use Rattle.bench.proofs.Enough.{ran, refusal_is, number_some}
use Rattle.bench.specs.Run.{enough_for_records}
use Rattle.bench_file.proofs.Each.{each_at}
use Rattle.bench_file.proofs.Judging.{judges}
use Rattle.bench_file.specs.Layout.{judge_of}
use Rattle.bench_file.specs.Promise.{judged_as, Judges}
use Rattle.page.proofs.Service.{run_room, prints_run, prints_refusal}
use Rattle.page.proofs.page.Goals as goal
use Rattle.page.proofs.page.Goals.{After-run}

-- what judging the file's bytes promises
judging : (c : After-run) → Judges c.args.file.now (judged_as (judge_of c.args.file.now))
judging c = judges c.args.file.now (each_at c.args.file.now (λ i. omega (arith, c.type_inv.file i))) refl

pub returns-in_err-counts : goal.returns-in_err-counts
returns-in_err-counts c =
    let j = judging (goal.at.returns-in_err-counts c).After-run in
    let p = err_from_is_err_and c.from_residual.result c.from_residual.ensures.1 in
    let some = number_some c.in_err-counts.field-0.0 in
    rw (p.1, p.2) (prints_refusal _ _ j (refusal_is c.in_err-counts.ensures j) (λ z. omega (arith, z, some)))

pub print_run-requires : goal.print_run-requires
print_run-requires c =
    let ready = ran c.in_ok-counts.ensures (judging (goal.at.print_run-requires c).After-run) refl in
    let long : length c.run.new.out ≡ enough_for_records = search rules in
    record { count_in_bounds = (omega (arith, ready.few), ready.few); records_len_bound = run_room ready }

pub returns : goal.returns
returns c =
    let j = judging (goal.at.returns c).After-run in
    prints_run _ _ j (ran c.in_ok-counts.ensures j refl) c.print_run.ensures
