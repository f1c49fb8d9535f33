-- A thread's next line in range, a test as a number, a refusal's number, and counts that fit or not. Assumes nothing.
use Rattle.std.proofs.Common.{◌≡◌, ℕ, zero, suc, ◌≤◌, Bool, true, false, cond, Option, Some, None, Result, Ok, Err, refl, sym, ap, ◌∙◌, arith, leb-true}
use mathlib.Core.Bool.{false≢true, and-eq-true_iff}
use lib.Dec.{eqb-suc-zero}
use Rattle.std.specs.Option.{ok_or}
use Rattle.std.specs.Result.{result_unwrap_or}
use Rattle.refusal.specs.declared.Refusal.{Refusal}
use Rattle.refusal.specs.declared.Refusal.TheVariants.{CutOff, Mark, Version, Object, Threads, Bound, Capacity, Count, Request, ScheduleLength, Entry, Trailing, Buffer, OutOfRange, Method, Conversion}
use Rattle.refusal.specs.Numbers.{number, number_in}
use Rattle.state.specs.declared.Counts.{Counts}
use Rattle.state.specs.Range.{line_in_range}
use Rattle.step.specs.Entry.{one_if}

-- a thread's next line is idle or printed, and never line 1
pub line_fits : (last line : ℕ) → line_in_range last line ≡ true → (line ≤ last) × (line ≡ 1 → ⊥)
line_fits last zero e = (omega arith, λ q. omega arith)
line_fits last (suc zero) e = absurd (false≢true e)
line_fits last (suc (suc k)) e = let p = simp (eqb-suc-zero, and-eq-true_iff) at e in (leb-true _ _ p.1, λ q. omega arith)

-- a test counts one at most
pub at_most_one : (test : Bool) → one_if test ≤ 1
at_most_one true = omega arith
at_most_one false = omega arith

-- no refusal has number 0
pub fails : (r : Refusal) → number r ≡ 0 → ⊥
fails CutOff e = omega (arith, e)
fails Mark e = omega (arith, e)
fails Version e = omega (arith, e)
fails Object e = omega (arith, e)
fails Threads e = omega (arith, e)
fails Bound e = omega (arith, e)
fails Capacity e = omega (arith, e)
fails Count e = omega (arith, e)
fails Request e = omega (arith, e)
fails ScheduleLength e = omega (arith, e)
fails Entry e = omega (arith, e)
fails Trailing e = omega (arith, e)
fails Buffer e = omega (arith, e)
fails OutOfRange e = omega (arith, e)
fails Method e = omega (arith, e)
fails Conversion e = omega (arith, e)

-- counts that are answered if they fit, and are refused as out of range if they do not
past_by : (fits : Bool) (sums : Counts) (refusal : Refusal) → ok_or (cond fits (Some sums) None) OutOfRange ≡ Err refusal → (fits ≡ false) × (number refusal ≡ 14)
past_by true sums refusal e = absurd (fails refusal (sym (ap number_in e)))
past_by false sums refusal e = (refl, sym (ap number_in e))

fit_by : (fits : Bool) (sums counts : Counts) → ok_or (cond fits (Some sums) None) OutOfRange ≡ Ok counts → (fits ≡ true) × (counts ≡ sums)
fit_by true sums counts e = (refl, sym (ap (λ (r : Result Counts Refusal). result_unwrap_or r sums) e))
fit_by false sums counts e = absurd (fails OutOfRange (ap number_in e))

module _ (fits : Bool) (sums : Counts) (o : Option Counts) (r : Result Counts Refusal) (tested : o ≡ cond fits (Some sums) None) (given : r ≡ ok_or o OutOfRange) where
  answered : r ≡ ok_or (cond fits (Some sums) None) OutOfRange
  answered = given ∙ ap (λ (o : Option Counts). ok_or o OutOfRange) tested

  pub counts_past : {refusal : Refusal} → r ≡ Err refusal → (fits ≡ false) × (number refusal ≡ 14)
  counts_past {refusal} e = past_by fits sums refusal (sym answered ∙ e)

  pub counts_fit : {counts : Counts} → r ≡ Ok counts → (fits ≡ true) × (counts ≡ sums)
  counts_fit {counts} e = fit_by fits sums counts (sym answered ∙ e)
