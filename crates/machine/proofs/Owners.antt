-- A thread owns its two nodes, and no others. Assumes nothing.
use Prim.Native.Nat.{ℕ, ◌+◌, ◌*◌, ◌/◌, ◌≤◌}
use native.Mathlib.Omega.{arith}
use mathlib.Core.Path.{◌≡◌}
use lib.Dec.{eqb}
use borrow.Author.Tests.{eq-eqb, ne_eqb}
use Rattle.object.proofs.Choice.{by_equal}
use Rattle.machine.specs.declared.NodeId.{NodeId}
use Rattle.machine.specs.Accesses.{whole}
use Rattle.machine.specs.Owners.{node_of, owner_of, its_own}

pub owns_both : (t place : ℕ) → place ≤ 1 → owner_of (node_of t place) ≡ t
owns_both t place small = omega arith

pub owned_exactly : (t : ℕ) (node : NodeId) → eqb (owner_of node) t ≡ its_own t (whole node)
owned_exactly t node =
    by_equal node.0 (2 * t) (λ e. rw (eq-eqb (node.0 / 2) t (omega arith), eq-eqb node.0 (2 * t) e))
    (λ first. by_equal node.0 (2 * t + 1)
    (λ e. rw (eq-eqb (node.0 / 2) t (omega arith), ne_eqb node.0 (2 * t) first, eq-eqb node.0 (2 * t + 1) e))
    (λ second. rw (ne_eqb (node.0 / 2) t (λ e. omega arith), ne_eqb node.0 (2 * t) first, ne_eqb node.0 (2 * t + 1) second)))
