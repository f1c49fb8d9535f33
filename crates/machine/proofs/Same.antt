-- The derived equality of two events is that of their numbers. Assumes nothing.
use mathlib.Core.Path.{◌≡◌}
use denote.Enum.Bare.{sameb}
use Rattle.std.proofs.Common.{rules}
use Rattle.machine.specs.contracts.Event.{the_type}
use Rattle.machine.specs.declared.Event.{Event}
use Rattle.machine.specs.Events.{same_event}

pub events_equal : (a b : Event) → sameb the_type a b ≡ same_event a b
events_equal a b = search rules
