-- The invariant holds of the fresh machine and the fresh ledger. Assumes what `Fresh` says of the view.
use Prim.Native.Nat.{ℕ, ◌<◌}
use native.Mathlib.Omega.{arith}
use mathlib.Core.Path.{◌≡◌, refl}
use Rattle.invariant.specs.View.{View}
use Rattle.dsm_invariant.specs.Ledger.{fresh_ledger}
use Rattle.dsm_invariant.specs.Control.{empty, Control}

-- every thread is idle with toggle 0, and Tail is null
pub record Fresh (n : ℕ) (v : View) : Type 0 where
  pub line : (u : ℕ) → u < n → (v.thread u).line ≡ 0
  pub toggle : (u : ℕ) → u < n → (v.thread u).toggle ≡ 0
  pub tail : v.tail.0 ≡ 255

pub control_fresh : (n h : ℕ) (v : View) → Fresh n v → Control n h v fresh_ledger
control_fresh n h v fresh = record {
  order = omega arith;
  given = absurd;
  tailed = empty refl fresh.tail;
  real = λ i k. absurd (omega arith);
  seat = λ i lo hi. absurd (omega arith);
  link = λ i k lo. absurd (omega arith);
  old = λ u k. record { toggled = omega (arith, fresh.toggle u k); bit = λ i lo. absurd (omega arith); before = λ i lo. absurd (omega arith) };
  facts = λ u k. rw (fresh.line u k) (record { begun = absurd; chosen = absurd; wait = absurd; completed = absurd; next = absurd });
}
