-- A done count outside 1 to the capacity, in the ret of any node that the state's method uses, is 14, whichever thread the entry names; so is any done where the
-- object is the counter. Assumes a state of full arrays.
use Rattle.std.proofs.Common.{◌≡◌, ℕ, ◌≤◌, get_or, Some}
use Rattle.object.specs.declared.Kind.TheVariants.{Counter}
use Rattle.object.specs.declared.Answer.TheVariants.{Done}
use Rattle.machine.specs.declared.ThreadId.{ThreadId}
use Rattle.machine.specs.Methods.{last_node}
use Rattle.state.specs.declared.State.{State}
use Rattle.state.specs.Shape.{Shaped}
use Rattle.state.proofs.Nodes.{done_judged, counter_done_judged}
use Rattle.step.specs.Entry.{zero_node}
use Rattle.step.specs.Step.{refused, step_of}

module _ (s : State) (t : ThreadId) (shaped : Shaped s) (i : ℕ) (used : i ≤ last_node s.method s.n)
    (count : ℕ) (in_ret : (get_or s.nodes i zero_node).ret ≡ Some (Done count)) where
  pub done_is_14 : ((1 ≤ count) × (count ≤ s.capacity) → ⊥) → step_of s t ≡ refused 14 s
  done_is_14 out = rw (done_judged s.method s shaped i used zero_node count in_ret out)

  pub counter_done_is_14 : s.kind ≡ Counter → step_of s t ≡ refused 14 s
  counter_done_is_14 counter = rw (counter_done_judged s.method s shaped i used zero_node count in_ret counter)
