-- What the types of a state's arrays say: how long they are.
use Rattle.std.specs.Prelude.{◌≡◌, length}
use Rattle.machine.specs.Sizes.{most_calls, most_locations, most_nodes}
use Rattle.state.specs.declared.State.{State}

pub record Shaped (s : State) : Type 0 where
  pub threads : length s.threads ≡ 16
  pub nodes : length s.nodes ≡ most_nodes
  pub requests : length s.requests ≡ most_calls
  pub copies : length s.copies ≡ most_locations
  pub items : length s.object.items ≡ 64
