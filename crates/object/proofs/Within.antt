-- What a test of a range says. Assumes nothing.
use Rattle.std.proofs.Common.{◌≡◌, ℕ, ◌≤◌, true, leb, ◌↔◌, le-leb, leb-true}
use mathlib.Core.Bool.{and-eq-true_iff}
use Rattle.object.specs.Paper.{within}

pub within_range : (least x most : ℕ) → (within least x most ≡ true) ↔ ((least ≤ x) × (x ≤ most))
within_range least x most = (
  λ e. let p = (and-eq-true_iff (leb least x) (leb x most)).0 e in (leb-true _ _ p.0, leb-true _ _ p.1),
  λ h. (and-eq-true_iff (leb least x) (leb x most)).1 (le-leb _ _ h.0, le-leb _ _ h.1),
)
