-- DSM-Synch as a history sees it: the phase of a thread by the line that it runs next, the positions of the ledger, and what a phase tells of a stage. Assumes
-- nothing, but Control where an idle thread is told by its line.
use Prim.Native.Nat.{ℕ, ◌≤◌, ◌<◌}
use native.Mathlib.Omega.{arith}
use mathlib.Core.Path.{◌≡◌, refl}
use mathlib.Core.Bool.{cond}
use lib.Dec.{T, leb, eqb, le→leb, eqb→eq}
use borrow.Author.Tests.{lt-leb}
use Rattle.object.proofs.Choice.{by_equal, by_order}
use Rattle.dsm_lines.specs.Lines.{Line, line_of, number}
use Rattle.dsm_lines.proofs.Numbers.{number_of, each_line}
use Rattle.invariant.specs.View.{View}
use Rattle.dsm_invariant.specs.Stages.{Stage, out, wait, combine, leave, nowhere, stage_of, queued}
use Rattle.dsm_invariant.specs.Ledger.{Ledger, node_at}
use Rattle.dsm_invariant.specs.Control.{out_row, Control}
use Rattle.dsm_invariant.proofs.Basics.{implied}
use Rattle.dsm_invariant.proofs.Threads.{combines, waiting as waits, line_most_lem, line_begun}
use Rattle.claims.proofs.Seen.{seen_by}
use Rattle.history.specs.Method.{Seen, Positions, idle, calling, waiting, combining, leaving}

-- lines 2 to 7 come before the Swap has been done, 8 to 13 wait, 14 to 23, 25 and 26 are the turn, 24, 27 and 28 leave
abbrev pub phase_at : Stage → ℕ
phase_at (out o) = cond (out_row o).begun calling idle
phase_at (wait w) = waiting
phase_at (combine c) = combining
phase_at (leave v) = leaving
phase_at nowhere = idle

abbrev pub phase_of : ℕ → ℕ
phase_of k = phase_at (stage_of k)

abbrev pub seen_of : View → Seen
seen_of = seen_by phase_of

abbrev pub positions_of : Ledger → Positions
positions_of g = record { s = g.s; a = g.a; b = g.b; node = node_at g; at = g.at }

pub phase_queued : (k : ℕ) → waiting ≤ phase_of k → T (queued (stage_of k))
phase_queued k q = implied (λ s. leb waiting (phase_at s)) queued refl k (le→leb waiting (phase_of k) q)

pub phase_combines : (k : ℕ) → phase_of k ≡ combining → T (combines (stage_of k))
phase_combines k q = implied (λ s. eqb (phase_at s) combining) combines refl k (rw q tt)

pub phase_waits : (k : ℕ) → T (waits (stage_of k)) → phase_of k ≡ waiting
phase_waits k q = eqb→eq (phase_of k) waiting (implied waits (λ s. eqb (phase_at s) waiting) refl k q)

-- an idle thread runs no line next
busy : (k : ℕ) → 2 ≤ k → k ≤ 28 → 1 ≤ phase_of k
busy k from most =
    rw (number_of k most, lt-leb k 1 from) at (each_line (λ (l : Line). 1 ≤ cond (leb (number l) 1) 1 (phase_of (number l))) (omega arith) (line_of k))

pub idle_line : {n h : ℕ} {v : View} {g : Ledger} → Control n h v g → (u : ℕ) → u < n → phase_of (v.thread u).line ≡ idle → (v.thread u).line ≡ 0
idle_line {v = v} c u below off =
    by_order 1 (v.thread u).line
    (λ from. absurd (omega (arith, busy (v.thread u).line from (line_most_lem c u below))))
    (λ low. by_equal (v.thread u).line 1 (λ one. absurd (line_begun c u below one)) (λ other. omega arith))
