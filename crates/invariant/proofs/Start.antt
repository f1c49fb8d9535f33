-- The invariant holds of the fresh machine and the fresh ledger. Assumes what `Fresh` says of the view.
use Prim.Native.Nat.{ℕ, ◌+◌, ◌≤◌, ◌<◌}
use native.Mathlib.Omega.{arith}
use mathlib.Core.Path.{◌≡◌, refl}
use mathlib.Core.Bool.{Bool, true, false, cond}
use lib.Dec.{T, eqb}
use borrow.Author.Tests.{eqb-true, eqb-false}
use Rattle.state.specs.Fresh.{fresh_node}
use Rattle.invariant.specs.Stages.{queued}
use Rattle.invariant.specs.Ledger.{fresh_ledger}
use Rattle.invariant.specs.View.{View}
use Rattle.invariant.specs.Control.{Slot, slot_of_thread, slot_of_tail, slot, held, StageFacts, Control}

-- every thread is idle with node u + 1, and Tail points to node 0, a fresh node
pub record Fresh (n : ℕ) (v : View) : Type 0 where
  pub line : (u : ℕ) → u < n → (v.thread u).line ≡ 0
  pub own : (u : ℕ) → u < n → (v.thread u).own.0 ≡ u + 1
  pub tail : v.tail.0 ≡ 0
  pub node : v.node 0 ≡ fresh_node

-- what holds of Tail's slot and of each thread's holds of each slot
each_slot : (n : ℕ) (v : View) (P : ℕ → Slot → Type 0) → P n (slot_of_tail v.tail.0)
    → ((u : ℕ) → u < n → P u (slot_of_thread (v.thread u))) → (u : ℕ) → u ≤ n → P u (slot n v u)
unfolding slot
each_slot n v P last thread u h = by_test (eqb u n) refl
  where
    by_test : (test : Bool) → eqb u n ≡ test → P u (cond test (slot_of_tail v.tail.0) (slot_of_thread (v.thread u)))
    by_test true e = rw (eqb-true u n e) last
    by_test false e = let apart = eqb-false u n e in thread u (omega arith)

module _ (n h : ℕ) (v : View) (fresh : Fresh n v) where
  -- a slot's node: 0 for Tail's, one more than its number for a thread's
  data Holds (u m : ℕ) : Type 0 where
    dummy : u ≡ n → m ≡ 0 → Holds u m
    own : u < n → m ≡ u + 1 → Holds u m

  holds : (u : ℕ) → u ≤ n → Holds u (held (slot n v u))
  holds = each_slot n v (λ u x. Holds u (held x)) (dummy refl fresh.tail) (λ u below. rw (fresh.line u below) (own below (fresh.own u below)))

  within : {u m : ℕ} → Holds u m → m ≤ n
  within (dummy e i) = omega arith
  within (own e i) = omega arith

  alone : {u w m : ℕ} → Holds u m → Holds w m → u ≡ w
  alone (dummy e i) (dummy f j) = omega arith
  alone (dummy e i) (own f j) = omega arith
  alone (own e i) (dummy f j) = omega arith
  alone (own e i) (own f j) = omega arith

  pub control_fresh : Control n h v (fresh_ledger n)
  control_fresh = record {
    order = omega arith;
    lines = λ u below. rw (fresh.line u below) tt;
    nodes = λ u k. within (holds u k);
    apart = λ u w i j e. alone (holds u i) (rw e (holds w j));
    seat = λ i low high. record {
      who = omega arith;
      queued = each_slot n v (λ u x. u ≡ n → T (queued x.stage)) (λ e. tt) (λ u below e. absurd (omega arith)) n (omega arith) refl;
      at = omega arith;
    };
    facts =
        each_slot n v (λ u x. StageFacts h (fresh_ledger n) u x.stage x (v.node (held x)))
        (rw (fresh.tail, fresh.node) (
          record { who = refl; node = refl; fields = record { next = refl; wait = refl; completed = refl } },
          record { last = refl; linked = refl; even = λ e. (refl, refl) },
        ))
        (λ u below. rw (fresh.line u below) (search absurd));
  }
