-- A line that is not refused wraps nothing. Assumes nothing.
use Rattle.std.proofs.Common.{◌≡◌, ℕ, false, sym, ap, ◌∙◌, arith}
use Rattle.cc_lines.specs.Lines.{line_of}
use Rattle.machine.specs.Lines.{line_run}
use Rattle.cc_synch.specs.Effect.{takes_out, wrapped, executed}
use Rattle.cc_synch.proofs.Refusal.{goes_ahead, unwrapped}
use Rattle.cc_synch.proofs.run_line.Goals as goal

pub returns : goal.returns
returns c =
    let a = c.args in
    let stays : takes_out a.thread a.node a.h (line_run a.thread) ≡ false = sym (rw (← c.line_run-line.ensures) c.takes_out.ensures) ∙ c.if-takes_out.false in
    let fits = c.well_formed in
    c.executed.ensures
    ∙ ap (λ (k : ℕ). wrapped (executed a.thread a.node a.tail a.h a.request a.answer (line_of k))) c.line_run-line.ensures
    ∙ unwrapped a.thread a.node a.tail a.h a.request a.answer (line_run a.thread) stays (omega (arith, fits)) (omega (arith, fits)) (omega (arith, c.ranges)) (omega (arith, fits))
    ∙ sym (goes_ahead a.thread a.node a.tail a.h a.request a.answer stays)
