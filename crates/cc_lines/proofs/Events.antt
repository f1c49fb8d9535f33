-- What an entry of a row is, but for a waiting line that goes on, is what the row has. Assumes nothing.
use Prim.Native.Nat.{ℕ, ◌<◌}
use native.Mathlib.Omega.{arith}
use mathlib.Core.Path.{◌≡◌, refl, sym, ◌∙◌}
use mathlib.Core.Bool.{Bool, true, false, cond}
use lib.Dec.{eqb}
use borrow.Author.Tests.{ne_eqb}
use Rattle.machine.specs.declared.Event.{Event}
use Rattle.machine.specs.declared.Event.TheVariants.{Blank, CallBegins, Swaps, TurnBegins, Applies, TurnEnds, Returns, Spins, Other}
use Rattle.machine.specs.declared.Node.{Node}
use Rattle.machine.specs.Events.{event_number, same_event}
use Rattle.cc_lines.specs.Lines.{event_in}

-- whether a waiting line spins or goes on, it is no other event
spin_left : (k : ℕ) (waits : Bool) → k < event_number Spins → eqb (event_number (cond waits Spins Other)) k ≡ eqb (event_number Spins) k
spin_left k true below = refl
spin_left k false below = ne_eqb 8 k (λ e. omega arith) ∙ sym (ne_eqb 7 k (λ e. omega arith))

-- so whether an entry is a given event, other than a spin or none, its row decides
pub by_row : (event : Event) (x : Node) (told : Event) → event_number told < event_number Spins → same_event (event_in event x) told ≡ same_event event told
by_row Blank x told below = refl
by_row CallBegins x told below = refl
by_row Swaps x told below = refl
by_row TurnBegins x told below = refl
by_row Applies x told below = refl
by_row TurnEnds x told below = refl
by_row Returns x told below = refl
by_row Spins x told below = spin_left (event_number told) x.wait below
by_row Other x told below = refl
