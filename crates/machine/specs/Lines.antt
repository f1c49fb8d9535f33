-- Printed lines by their numbers, whichever method prints them: which one an entry runs, where its thread stands, and tables by number.
use Rattle.std.specs.Prelude.{ℕ, zero, suc, cond, List, [], ◌∷◌, eqb, leb, ltb}
use Rattle.machine.specs.declared.Thread.{Thread}

-- the number of the line that a thread's entry runs: an idle thread with a request left runs line 1 of a new call, one without gives a blank, 0
abbrev pub line_run : Thread → ℕ
line_run th = cond (eqb th.line 0) (cond (ltb th.begun th.count) 1 0) th.line

-- where a thread stands that runs a line: a blank and line 1 run from idle
abbrev pub stands_at : ℕ → ℕ
stands_at k = cond (leb k 1) 0 k

-- k and the numbers that follow, n in all
abbrev pub up_from : ℕ → ℕ → List ℕ
up_from k zero = []
up_from k (suc n) = k ∷ up_from (suc k) n

-- what stands beside a line's number in a table, or `none`
abbrev pub beside : {A : Type 0} → A → ℕ → List (ℕ × A) → A
beside none k [] = none
beside none k (row ∷ rows) = cond (eqb k row.0) row.1 (beside none k rows)
