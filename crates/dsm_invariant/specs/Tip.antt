-- The thread of the last position is still in its call while anyone has the turn: so no Swap gives a node of its own thread.
use Rattle.std.specs.Prelude.{ℕ, suc, ◌<◌, ◌≡◌}
use Rattle.invariant.specs.View.{View}
use Rattle.dsm_invariant.specs.Ledger.{Ledger}
use Rattle.dsm_invariant.specs.Control.{Seat}

pub record Tip (n : ℕ) (v : View) (g : Ledger) : Type 0 where
  -- a turn that has gone on has a position behind the one that it serves, and one that goes on has two
  pub behind : g.b < g.k → suc g.k < g.s
  pub ahead : (u : ℕ) → u < n → (v.thread u).line ≡ 21 → suc (suc g.k) < g.s
  -- the last position has its open call
  pub seat : g.b < g.s → (j : ℕ) → g.s ≡ suc j → Seat n v g j
