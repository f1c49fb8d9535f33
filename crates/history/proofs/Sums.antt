-- Sums over the entries: an event gives one to a list in order of time, and what is counted has 32 bits.
-- Assumes, where numbers fit, at most 32,768 entries with at most three remote references each.
use Prim.Native.Nat.{ℕ, ◌*◌, ◌≤◌, ◌<◌, ◌^◌}
use native.Mathlib.Omega.{arith}
use mathlib.Core.Path.{◌≡◌, refl}
use mathlib.Core.Bool.{Bool, true, false, cond}
use mathlib.Core.List.{List, [], ◌∷◌}
use lib.ListN.{length}
use Rattle.object.specs.Each.{Each}
use Rattle.object.proofs.Each.{each_append}
use Rattle.machine.specs.declared.ThreadId.{ThreadId}
use Rattle.machine.specs.declared.Event.{Event}
use Rattle.machine.specs.declared.Event.TheVariants.{Blank, Swaps, TurnBegins, Applies, Spins}
use Rattle.state.specs.Range.{counts_in_range}
use Rattle.state.proofs.RangeFacts.{counts_iff}
use Rattle.step.specs.Entry.{one_if}
use Rattle.step.proofs.Numbers.{at_most_one}
use Rattle.history.specs.Entries.{Entry, sum_over, in_order, is, is_by, how_many, remote_in}
use Rattle.history.specs.Terms.{Call, is_of, no_turn, turn_of, Serving, serving_of, servings, cost_of, counts_of}
use Rattle.history.proofs.Swaps.{length_more}

-- an event gives one to a list in order of time, and no other does
pub one_each : {A : Type 0} (event : Event) (gives : Entry → List Entry → A) (history : List Entry)
    → length (in_order (λ e past. cond (is event e) (gives e past ∷ []) []) history) ≡ how_many event history
one_each event gives [] = refl
one_each event gives (e ∷ past) =
    omega (arith, length_more (is event e) (in_order (λ e past. cond (is event e) (gives e past ∷ []) []) past) (gives e past), one_each event gives past)

-- an entry that makes at most three remote references, as many as any line has accesses
abbrev pub Few : Entry → Type 0
Few e = remote_in e.remote ≤ 3

-- a number that is at most 3 at each such entry
pub sum_most : (number : Entry → List Entry → ℕ) → ((e : Entry) (past : List Entry) → Few e → number e past ≤ 3)
    → (history : List Entry) → Each Few history → sum_over number history ≤ 3 * length history
sum_most number small [] few = omega arith
sum_most number small (e ∷ past) few = omega (arith, small e past few.0, sum_most number small past few.1)

-- and of a test at most as many as there are entries
pub tests_few : (test : Entry → Bool) (history : List Entry) → sum_over (λ e past. one_if (test e)) history ≤ length history
tests_few test [] = omega arith
tests_few test (e ∷ past) = omega (arith, at_most_one (test e), tests_few test past)

module _ (history : List Entry) (few : Each Few history) (short : length history ≤ 32768) where
  pub fits : (number : Entry → List Entry → ℕ) → ((e : Entry) (past : List Entry) → Few e → number e past ≤ 3) → sum_over number history < 2 ^ 32
  fits number small = omega (arith, sum_most number small history few)

  pub tests_fit : (test : Entry → Bool) → sum_over (λ e past. one_if (test e)) history < 2 ^ 32
  tests_fit test = fits (λ e past. one_if (test e)) (λ e past few. omega (arith, at_most_one (test e)))

  pub counts_fit : counts_in_range (counts_of history) ≡ true
  counts_fit = (counts_iff (counts_of history)).1 (record {
    records = tests_fit (is Swaps);
    turns = tests_fit (is TurnBegins);
    blanks = tests_fit (is Blank);
    spins = tests_fit (is Spins);
    remote = fits (λ e past. remote_in e.remote) (λ e past few. few);
  })

  pub cost_fits : (c : Call) → cost_of c history < 2 ^ 32
  cost_fits c = fits (λ e past. cond (is_of c e past) (remote_in e.remote) 0) (λ e past few. by_test (is_of c e past) few)
    where
      by_test : {k : ℕ} (test : Bool) → k ≤ 3 → cond test k 0 ≤ 3
      by_test true h = h
      by_test false h = omega arith

-- a turn's number has 16 bits, and that of none too
pub turn_few : (t : ThreadId) (history : List Entry) → length history ≤ 32768 → turn_of t history ≤ no_turn
turn_few t [] short = omega arith
turn_few t (e ∷ past) short = by_test (is_by t TurnBegins e) (turn_few t past (omega arith))
  where
    by_test : (b : Bool) → turn_of t past ≤ no_turn → cond b (how_many TurnBegins past) (turn_of t past) ≤ no_turn
    by_test true later = omega (arith, tests_few (is TurnBegins) past)
    by_test false later = later

pub servings_few : (history : List Entry) → length history ≤ 32768 → Each (λ (w : Serving). w.turn ≤ no_turn) (servings history)
servings_few [] short = tt
servings_few (e ∷ past) short =
    each_append (λ (w : Serving). w.turn ≤ no_turn) (servings past) (cond (is Applies e) (serving_of e past ∷ []) []) (servings_few past (omega arith)) (by_test (is Applies e))
  where
    by_test : (b : Bool) → Each (λ (w : Serving). w.turn ≤ no_turn) (cond b (serving_of e past ∷ []) [])
    by_test true = (turn_few e.thread past (omega arith), tt)
    by_test false = tt
