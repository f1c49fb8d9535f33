-- A file that is not refused is loaded, and its run starts from the machine that was made. Assumes nothing.
use Rattle.std.proofs.Common.{◌∙◌, arith}
use Rattle.std.proofs.lemmas.Result.{err_from_is_err_and}
use Rattle.bench_file.specs.Layout.{judge_of}
use Rattle.bench_file.proofs.Each.{each_at}
use Rattle.runner.proofs.Playing.{Ready, ready, refused_plays, enough}
use Rattle.runner.proofs.play.Goals.{In_ok-loaded}
use Rattle.runner.proofs.play.Goals as goal

-- the file is loaded
loaded : (c : In_ok-loaded) → Ready c.args.file.now (judge_of c.args.file.now) c.in_ok-loaded.loaded
loaded c = ready c.args.file.now (each_at c.args.file.now (λ i. omega (arith, c.type_inv.file i))) c.in_ok-loaded.ensures

pub returns-in_err-loaded : goal.returns-in_err-loaded
returns-in_err-loaded c =
    let p = err_from_is_err_and c.from_residual.result c.from_residual.ensures.1 in
    rw (p.1, p.2) (refused_plays _ _ c.in_err-loaded.ensures)

pub overflow_mul-loaded : goal.overflow_mul-loaded
overflow_mul-loaded c = omega (arith, (loaded (goal.at.overflow_mul-loaded c).In_ok-loaded).few)

pub overflow_sub-first : goal.overflow_sub-first
overflow_sub-first c = (loaded (goal.at.overflow_sub-first c).In_ok-loaded).entries

pub from_start-requires : goal.from_start-requires
from_start-requires c = (loaded (goal.at.from_start-requires c).In_ok-loaded).start

pub returns : goal.returns
returns c =
    let now = loaded (goal.at.returns c).In_ok-loaded in
    c.from_start.ensures ∙ now.played ∙ enough now _ c.if-lent-loaded.false
