-- How an entry takes its thread from phase to phase, by its event. Assumes what the law's premises say.
use Prim.Native.Nat.{ℕ, ◌+◌, ◌≤◌}
use native.Mathlib.Omega.{arith}
use mathlib.Core.Path.{◌≡◌, refl}
use mathlib.Core.Bool.{cond}
use mathlib.Core.List.{[], ◌∷◌}
use lib.ListN.{get_or}
use lib.Dec.{eqb, leb}
use borrow.Author.Tests.{ne_eqb}
use Rattle.object.proofs.Choice.{by_equal}
use Rattle.machine.specs.declared.Event.{Event}
use Rattle.machine.specs.declared.Event.TheVariants.{Blank, CallBegins, Swaps, TurnBegins, Applies, TurnEnds, Returns, Spins, Other}
use Rattle.machine.specs.Events.{event_number, same_event}
use Rattle.step.specs.Entry.{one_if}
use Rattle.history.specs.Method.{Goes, blank, begins, swaps, turns, applies, ends, helped, leaves, other, idle, calling, waiting, combining, leaving}

-- the phases that an event takes a thread from and to; a spin, or an entry of which nothing is said, leaves it where it is, i
abbrev pub comes_from : Event → ℕ → ℕ
comes_from event i = get_or (idle ∷ idle ∷ calling ∷ waiting ∷ combining ∷ combining ∷ cond (eqb i waiting) waiting leaving ∷ []) (event_number event) i

abbrev pub goes_to : Event → ℕ → ℕ
goes_to event i = get_or (idle ∷ calling ∷ waiting ∷ combining ∷ combining ∷ leaving ∷ idle ∷ []) (event_number event) i

-- and a call begins with its own event alone
pub goes_by : (event : Event) {i b j : ℕ} → i ≡ comes_from event i → j ≡ goes_to event i → 1 ≤ cond (leb (event_number event) 6) 1 i
    → Goes (event_number event) i b j (b + one_if (same_event event CallBegins))
goes_by Blank from to busy = blank refl from to (omega arith)
goes_by CallBegins from to busy = begins refl from to (omega arith)
goes_by Swaps from to busy = swaps refl from to (omega arith)
goes_by TurnBegins from to busy = turns refl from to (omega arith)
goes_by Applies from to busy = applies refl from to (omega arith)
goes_by TurnEnds from to busy = ends refl from to (omega arith)
goes_by Returns {i} from to busy =
    by_equal i waiting (λ q. helped refl q to (omega arith)) (λ q. leaves refl (rw (ne_eqb i waiting q) at from) to (omega arith))
goes_by Spins from to busy = other (omega arith) busy to (omega arith)
goes_by Other from to busy = other (omega arith) busy to (omega arith)
