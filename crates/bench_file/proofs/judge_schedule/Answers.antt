-- A byte that follows the schedule is refused with 12. Assumes nothing.
use Rattle.std.proofs.Common.{sym}
use Rattle.bench_file.proofs.Reading.{cons_at}
use Rattle.bench_file.proofs.judge_schedule.Goals as goal

pub returns-then-schedule-s : goal.returns-then-schedule-s
returns-then-schedule-s c = rw (sym c.in_ok-schedule.ensures.result_value, cons_at c.args.s.now c.in_ok-schedule.schedule.next c.if-schedule-s.true)
