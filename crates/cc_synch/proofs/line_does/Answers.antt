-- What a thread holds has 8 bits, so an arm of `line_does` that changes neither count wraps nothing. Assumes nothing.
use Rattle.std.proofs.Common.{◌≡◌, ◌<◌, ◌%◌, mod-eq_of_lt, arith}
use Rattle.machine.specs.declared.Thread.{Thread}
use Rattle.cc_lines.proofs.Table.{no_line}
use Rattle.cc_synch.proofs.line_does.Goals as goal

same : (th : Thread) → (th.begun < 256) × (th.served < 256) → (th.begun % 256 ≡ th.begun) × (th.served % 256 ≡ th.served)
same th h = (mod-eq_of_lt h.0, mod-eq_of_lt h.1)

pub returns-in-0 : goal.returns-in-0
returns-in-0 c = let s = same c.args.thread (omega (arith, c.well_formed)) in simp (c.in-0.is, s.0, s.1)

pub returns-in-2 : goal.returns-in-2
returns-in-2 c = let s = same c.args.thread (omega (arith, c.well_formed)) in simp (c.in-2.is, s.0, s.1)

pub returns-in-3 : goal.returns-in-3
returns-in-3 c = let s = same c.args.thread (omega (arith, c.well_formed)) in simp (c.in-3.is, s.0, s.1)

pub returns-in-4 : goal.returns-in-4
returns-in-4 c = let s = same c.args.thread (omega (arith, c.well_formed)) in simp (c.in-4.is, s.0, s.1)

pub returns-in-5 : goal.returns-in-5
returns-in-5 c = let s = same c.args.thread (omega (arith, c.well_formed)) in simp (c.in-5.is, s.0, s.1)

pub returns-in-6 : goal.returns-in-6
returns-in-6 c = let s = same c.args.thread (omega (arith, c.well_formed)) in simp (c.in-6.is, s.0, s.1)

pub returns-in-7 : goal.returns-in-7
returns-in-7 c = let s = same c.args.thread (omega (arith, c.well_formed)) in simp (c.in-7.is, s.0, s.1)

pub returns-in-8 : goal.returns-in-8
returns-in-8 c = let s = same c.args.thread (omega (arith, c.well_formed)) in simp (c.in-8.is, s.0, s.1)

pub returns-in-9 : goal.returns-in-9
returns-in-9 c = let s = same c.args.thread (omega (arith, c.well_formed)) in simp (c.in-9.is, s.0, s.1)

pub returns-in-10 : goal.returns-in-10
returns-in-10 c = let s = same c.args.thread (omega (arith, c.well_formed)) in simp (c.in-10.is, s.0, s.1)

pub returns-in-11 : goal.returns-in-11
returns-in-11 c = let s = same c.args.thread (omega (arith, c.well_formed)) in simp (c.in-11.is, s.0, s.1)

pub returns-in-12 : goal.returns-in-12
returns-in-12 c = let s = same c.args.thread (omega (arith, c.well_formed)) in simp (c.in-12.is, s.0, s.1)

pub returns-in-13 : goal.returns-in-13
returns-in-13 c = let s = same c.args.thread (omega (arith, c.well_formed)) in simp (c.in-13.is, s.0, s.1)

pub returns-in-15 : goal.returns-in-15
returns-in-15 c = let s = same c.args.thread (omega (arith, c.well_formed)) in simp (c.in-15.is, s.0, s.1)

pub returns-in-16 : goal.returns-in-16
returns-in-16 c = let s = same c.args.thread (omega (arith, c.well_formed)) in simp (c.in-16.is, s.0, s.1)

pub returns-in-17 : goal.returns-in-17
returns-in-17 c = let s = same c.args.thread (omega (arith, c.well_formed)) in simp (c.in-17.is, s.0, s.1)

pub returns-in-18 : goal.returns-in-18
returns-in-18 c = let s = same c.args.thread (omega (arith, c.well_formed)) in simp (c.in-18.is, s.0, s.1)

pub returns-in-19 : goal.returns-in-19
returns-in-19 c = let s = same c.args.thread (omega (arith, c.well_formed)) in simp (c.in-19.is, s.0, s.1)

pub returns-in-20 : goal.returns-in-20
returns-in-20 c = let s = same c.args.thread (omega (arith, c.well_formed)) in simp (c.in-20.is, s.0, s.1)

pub returns-in-21 : goal.returns-in-21
returns-in-21 c = let s = same c.args.thread (omega (arith, c.well_formed)) in simp (c.in-21.is, s.0, s.1)

pub returns-in_default : goal.returns-in_default
returns-in_default c = let s = same c.args.thread (omega (arith, c.well_formed)) in simp (← no_line _ c.in_default.in_default-own.rest, s.0, s.1)
