-- What holds of each node in use of a state in range, by either method; so a done count outside 1 to the capacity in the ret of one puts a state out of range, and so does any
-- done where the object is the counter. Any other answer leaves a node in range. Assumes nothing.
use Prim.Native.Nat.{ℕ, ◌+◌, ◌≤◌}
use native.Mathlib.Omega.{arith}
use mathlib.Core.Path.{◌≡◌}
use mathlib.Core.Bool.{true, false, not-eq-not, and-eq-true_iff}
use lib.ListN.{get_or}
use Rattle.std.specs.Prelude.{Some}
use Rattle.object.specs.declared.Kind.{Kind}
use Rattle.object.specs.declared.Kind.TheVariants.{Counter}
use Rattle.object.specs.declared.Answer.{Answer}
use Rattle.object.specs.declared.Answer.TheVariants.{Done}
use Rattle.object.specs.Paper.{answer_mark}
use Rattle.object.proofs.Counting.{others_in_range}
use Rattle.object.proofs.Within.{within_range}
use Rattle.machine.specs.declared.Method.{Method}
use Rattle.machine.specs.declared.Node.{Node}
use Rattle.machine.specs.Fields.{with_ret}
use Rattle.machine.specs.Methods.{last_node}
use Rattle.state.specs.declared.State.{State}
use Rattle.state.specs.Range.{node_in_range, in_range_by}
use Rattle.state.specs.Shape.{Shaped}
use Rattle.state.proofs.Kept.{first_at}
use Rattle.state.proofs.RangeFacts.{NodeFits, node_iff, state_fits, nodes_there}

-- any answer but done may stand in the ret of a node in range, whatever the object
pub others_free : (kind : Kind) (capacity last : ℕ) (x : Node) (answer : Answer) → (answer_mark answer ≡ 0 → ⊥) → node_in_range kind capacity last x ≡ true
    → node_in_range kind capacity last (with_ret x answer) ≡ true
others_free kind capacity last x answer other e =
    let facts = (node_iff kind capacity last x).0 e in
    (node_iff kind capacity last (with_ret x answer)).1 (search (facts, others_in_range capacity answer other))

module _ (m : Method) (s : State) (shaped : Shaped s) (i : ℕ) (used : i ≤ last_node m s.n) (none : Node) where
  pub node_at : in_range_by m s ≡ true → NodeFits s.kind s.capacity (last_node m s.n) (get_or s.nodes i none)
  node_at range =
      let facts = state_fits m s range in
      (node_iff s.kind s.capacity (last_node m s.n) (get_or s.nodes i none)).0
      (first_at (node_in_range s.kind s.capacity (last_node m s.n)) (last_node m s.n + 1) s.nodes i facts.nodes (omega arith)
      (omega (arith, nodes_there m s facts, shaped.nodes)) none)

  module _ (count : ℕ) (in_ret : (get_or s.nodes i none).ret ≡ Some (Done count)) where
    count_in_range : in_range_by m s ≡ true → (1 ≤ count) × (count ≤ s.capacity)
    count_in_range range = (within_range 1 count s.capacity).0 (rw in_ret at (node_at range).ret)

    pub done_judged : ((1 ≤ count) × (count ≤ s.capacity) → ⊥) → in_range_by m s ≡ false
    done_judged out = (not-eq-not {b = false}).0 (λ range. out (count_in_range range))

    pub counter_done_judged : s.kind ≡ Counter → in_range_by m s ≡ false
    counter_done_judged counter =
        (not-eq-not {b = false}).0
        (λ range.
        let held = rw counter at (state_fits m s range).held in
        let no_capacity = (within_range 0 s.capacity 0).0 ((and-eq-true_iff _ _).0 held).0 in
        omega (arith, no_capacity, count_in_range range))
