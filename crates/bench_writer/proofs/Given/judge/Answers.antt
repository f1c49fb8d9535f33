-- The rules before a return are kept, and those that it stops at are not. Assumes nothing.
use Rattle.std.proofs.Common.{length, sym, leb-true, arith}
use Rattle.refusal.proofs.Numbers.{passed_on}
use Rattle.object.proofs.Within.{within_range}
use Rattle.bench_writer.specs.Writer.{number_rules, count_rules, requests_reader, given_reader}
use Rattle.bench_writer.proofs.Rules.{rules_kept}
use Rattle.bench_writer.proofs.Forgotten.{forgotten_refused, forgotten_read, passed_last}
use Rattle.bench_writer.proofs.Given.judge.Goals as goal

pub returns-in_err-judge_numbers-clause-outcome : goal.returns-in_err-judge_numbers-clause-outcome
unfolding given_reader
returns-in_err-judge_numbers-clause-outcome c =
    let row = c.args.self.requests.now in
    rw (passed_on c.from_residual.result c.from_residual.ensures) (simp (sym (c.in_err-judge_numbers.ensures row)))

pub returns-in_err-judge_counts-clause-outcome : goal.returns-in_err-judge_counts-clause-outcome
unfolding given_reader
returns-in_err-judge_counts-clause-outcome c =
    let row = c.args.self.requests.now in
    rw (passed_on c.from_residual-in_err-judge_counts.result c.from_residual-in_err-judge_counts.ensures) (simp (sym (c.in_ok-judge_numbers.ensures row), sym (c.in_err-judge_counts.ensures row)))

pub total_of-count-requires : goal.total_of-count-requires
total_of-count-requires c =
    let a = c.args.self in
    let row = a.requests.now in
    let n = (rules_kept (number_rules a.version a.object a.n a.h a.capacity a.method) row (sym (c.in_ok-judge_numbers.ensures row))).0.1.1.0 in
    let long = (rules_kept (count_rules a.n a.counts.now) row (sym (c.in_ok-judge_counts.ensures row))).0.1.0 in
    omega (arith, (within_range 1 a.n 16).0 n, leb-true (length a.counts.now) a.n long)

pub returns-in_err-judge_requests-clause-outcome : goal.returns-in_err-judge_requests-clause-outcome
unfolding given_reader
returns-in_err-judge_requests-clause-outcome c =
    let row = c.args.self.requests.now in
    let asked = forgotten_refused (requests_reader c.kind_of.result c.total_of-count.result row row) c.in_err-judge_requests.ensures.outcome in
    rw (passed_on c.from_residual-in_err-judge_requests.result c.from_residual-in_err-judge_requests.ensures) (simp (sym (c.in_ok-judge_numbers.ensures row), sym (c.in_ok-judge_counts.ensures row), ← c.kind_of.ensures, ← c.total_of-count.ensures.0, asked))

-- behind requests that were read, the rules of the schedule come last
pub returns-clause-outcome : goal.returns-clause-outcome
unfolding given_reader
returns-clause-outcome c =
    let row = c.args.self.requests.now in
    let (requests, rest, asked) = forgotten_read (requests_reader c.kind_of.result c.total_of-count.result row row) c.in_ok-judge_requests.ensures.outcome in
    simp (sym (c.in_ok-judge_numbers.ensures row), sym (c.in_ok-judge_counts.ensures row), ← c.kind_of.ensures, ← c.total_of-count.ensures.0, asked)
    (passed_last _ rest c.judge_entries.result (c.judge_entries.ensures rest))
