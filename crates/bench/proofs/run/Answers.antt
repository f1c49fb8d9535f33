-- What was played gives the answer, and its records are laid. Assumes nothing.
use Rattle.std.proofs.Common.{arith, refl}
use Rattle.std.proofs.lemmas.Result.{err_from_is_err_and}
use Rattle.bench_file.specs.Bytes.{each_bytes}
use Rattle.bench_file.proofs.Each.{each_at}
use Rattle.bench.proofs.Service.{played_shows, runs}
use Rattle.bench.proofs.run.Goals as goal

pub put_records-requires-clause-count_le_most_calls : goal.put_records-requires-clause-count_le_most_calls
put_records-requires-clause-count_le_most_calls c =
    let file = c.args.file.now in
    let shows = played_shows file c.args.out.now _ (each_at file (λ i. omega (arith, c.type_inv.file i))) c.in_ok-played.ensures in
    (shows.few, shows.room)

pub put_records-requires-clause-by_index : goal.put_records-requires-clause-by_index
put_records-requires-clause-by_index c =
    let file = c.args.file.now in
    (played_shows file c.args.out.now _ (each_at file (λ i. omega (arith, c.type_inv.file i))) c.in_ok-played.ensures).places

pub returns-in_err-played : goal.returns-in_err-played
unfolding each_bytes
returns-in_err-played c =
    let file = c.args.file.now in
    let p = err_from_is_err_and c.from_residual.result c.from_residual.ensures.1 in
    rw (p.1, p.2) (runs file c.args.out.now _ (each_at file (λ i. omega (arith, c.type_inv.file i))) c.in_err-played.ensures _ refl)

pub returns : goal.returns
returns c =
    let file = c.args.file.now in
    runs file c.args.out.now _ (each_at file (λ i. omega (arith, c.type_inv.file i))) c.in_ok-played.ensures _ c.put_records.ensures
