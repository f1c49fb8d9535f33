-- So many bytes as the counts ask, and then so many requests. Assumes nothing.
use Rattle.std.proofs.Common.{ap, ◌∙◌, le-leb}
use Rattle.std.proofs.lemmas.Bool.{lt-leb}
use Rattle.refusal.proofs.Numbers.{passed_on}
use Rattle.object.specs.Each.{sum_of}
use Rattle.bench_file.specs.Reading.{several}
use Rattle.bench_file.specs.Layout.{request_reader}
use Rattle.bench_file.specs.Cursor.{forgotten, single}
use Rattle.bench_writer.specs.Writer.{requests_reader}
use Rattle.bench_writer.proofs.Forgotten.{forgotten_tallied}
use Rattle.bench_writer.proofs.judge_requests.Goals as goal

pub returns-then-requests-count-clause-outcome : goal.returns-then-requests-count-clause-outcome
unfolding requests_reader
returns-then-requests-count-clause-outcome c = simp (lt-leb _ _ c.if-requests-count.true)

pub returns-then-count-requests-clause-outcome : goal.returns-then-count-requests-clause-outcome
unfolding requests_reader
returns-then-count-requests-clause-outcome c =
    simp (le-leb _ _ c.if-requests-count.false, lt-leb _ _ c.if-count-requests.true)

pub returns-clause-outcome : goal.returns-clause-outcome
unfolding requests_reader
returns-clause-outcome c =
    let a = c.args in
    simp (le-leb _ _ c.if-requests-count.false, le-leb _ _ c.if-count-requests.false)
    (ap forgotten c.in_ok-read_request_row.ensures.result_value ∙ forgotten_tallied (sum_of single) (several a.count (request_reader a.object) a.requests.now))

pub returns-in_err-read_request_row-clause-outcome : goal.returns-in_err-read_request_row-clause-outcome
unfolding requests_reader
returns-in_err-read_request_row-clause-outcome c =
    let a = c.args in
    rw (passed_on c.from_residual.result c.from_residual.ensures) (simp (le-leb _ _ c.if-requests-count.false, le-leb _ _ c.if-count-requests.false)
    (ap forgotten c.in_err-read_request_row.ensures.result_value ∙ forgotten_tallied (sum_of single) (several a.count (request_reader a.object) a.requests.now)))
