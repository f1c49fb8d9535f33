-- CC-Synch as a history sees it: the phase of a thread by the line that it runs next, and the positions of the ledger. Definitions alone.
use Prim.Native.Nat.{ℕ}
use mathlib.Core.Bool.{cond}
use lib.Dec.{leb}
use Rattle.invariant.specs.Ledger.{Ledger}
use Rattle.invariant.specs.View.{View}
use Rattle.history.specs.Method.{Seen, Positions, idle, calling, waiting, combining, leaving}

-- lines 2 to 5 come before the Swap has been done, 6 to 12 wait, 13 to 20 are the turn, 21 leaves
abbrev pub phase_of : ℕ → ℕ
phase_of k = cond (leb k 0) idle (cond (leb k 5) calling (cond (leb k 12) waiting (cond (leb k 20) combining leaving)))

-- threads by the phase that a method gives a line
abbrev pub seen_by : (ℕ → ℕ) → View → Seen
seen_by phase v = record { phase = λ u. phase (v.thread u).line; begun = λ u. (v.thread u).begun; counter = λ u. (v.thread u).served }

abbrev pub seen_of : View → Seen
seen_of = seen_by phase_of

abbrev pub positions_of : Ledger → Positions
positions_of g = record { s = g.s; a = g.a; b = g.b; node = g.node; at = g.at }
