-- What a slot is: a thread, or Tail as slot n; and what a queued slot's stage tells of it. Assumes nothing.
use Prim.Native.Nat.{ℕ, ◌≤◌, ◌<◌}
use native.Mathlib.Omega.{arith}
use mathlib.Core.Path.{◌≡◌, refl}
use mathlib.Core.Bool.{Bool, true, false}
use lib.Dec.{T}
use lib.Ieee.Bits.{is_true}
use borrow.Author.Tests.{eq-eqb, ne_eqb}
use Rattle.machine.specs.declared.Node.{Node}
use Rattle.invariant.specs.Stages.{Stage, out, wait, combine, l19, l21, dummy, queued}
use Rattle.invariant.specs.Ledger.{Ledger}
use Rattle.invariant.specs.View.{View}
use Rattle.invariant.specs.Control.{Slot, slot, slot_of_thread, slot_of_tail, held, Queued, StageFacts, wait_row}

pub slot_thread : (n : ℕ) (v : View) (u : ℕ) → u < n → slot n v u ≡ slot_of_thread (v.thread u)
unfolding slot
slot_thread n v u k = rw (ne_eqb u n (λ e. omega arith))

pub slot_tail : (n : ℕ) (v : View) → slot n v n ≡ slot_of_tail v.tail.0
unfolding slot
slot_tail n v = rw (eq-eqb n n refl)

-- a slot is read from its thread and Tail alone
pub slot_same : (n : ℕ) (v v' : View) (u : ℕ) → v'.tail ≡ v.tail → v'.thread u ≡ v.thread u → slot n v' u ≡ slot n v u
unfolding slot
slot_same n v v' u e k = rw (e, k)

-- a queued slot holds curNode
pub held_queued : (x : Slot) → T (queued x.stage) → held x ≡ x.cur
held_queued x q = rw (is_true (queued x.stage) q)

-- the stages of the turn, 12 to 20
abbrev pub at_turn : Stage → Bool
at_turn (out o) = false
at_turn (wait w) = (wait_row w).turn
at_turn (combine c) = true
at_turn l19 = true
at_turn l21 = false
at_turn dummy = false

pub turn_queued : (l : Stage) → T (at_turn l) → T (queued l)
turn_queued (out o) q = absurd q
turn_queued (wait w) q = tt
turn_queued (combine c) q = tt
turn_queued l19 q = tt
turn_queued l21 q = absurd q
turn_queued dummy q = absurd q

module _ (h : ℕ) (g : Ledger) (u : ℕ) where
  pub in_queue_lem : (l : Stage) (x : Slot) (y : Node) → T (queued l) → StageFacts h g u l x y → Queued g u x.cur y
  in_queue_lem (out o) x y q f = absurd q
  in_queue_lem (wait w) x y q f = f.0
  in_queue_lem (combine c) x y q f = f.0
  in_queue_lem l19 x y q f = f.0
  in_queue_lem l21 x y q f = f.0
  in_queue_lem dummy x y q f = f.0

  pub at_swapped : (l : Stage) (x : Slot) (y : Node) → T (queued l) → StageFacts h g u l x y → g.at u ≤ g.s
  at_swapped (out o) x y q f = absurd q
  at_swapped (wait w) x y q f = omega (arith, f.1.below)
  at_swapped (combine c) x y q f = omega (arith, f.1.0.below)
  at_swapped l19 x y q f = omega (arith, f.1.0.below)
  at_swapped l21 x y q f = omega (arith, f.1.below)
  at_swapped dummy x y q f = omega (arith, f.1.last)

  pub at_turn_lem : (l : Stage) (x : Slot) (y : Node) → T (at_turn l) → StageFacts h g u l x y → g.at u ≡ g.b
  at_turn_lem (out o) x y q f = absurd q
  at_turn_lem (wait w) x y q f = f.1.turn q
  at_turn_lem (combine c) x y q f = f.1.0.turn
  at_turn_lem l19 x y q f = f.1.0.turn
  at_turn_lem l21 x y q f = absurd q
  at_turn_lem dummy x y q f = absurd q
