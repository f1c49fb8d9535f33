-- How an event moves its thread, as laws of numbers. Assumes Moves.
use Prim.Native.Nat.{ℕ, suc, ◌≤◌, ◌<◌}
use native.Mathlib.Omega.{arith}
use mathlib.Core.Path.{◌≡◌, ap}
use mathlib.Core.Bool.{true, false}
use borrow.Author.Tests.{eq-eqb, ne_eqb}
use Rattle.object.proofs.Choice.{by_equal, by_order}
use Rattle.machine.specs.declared.Event.{Event}
use Rattle.machine.specs.declared.Event.TheVariants.{Blank, CallBegins, Swaps, TurnBegins, Applies, TurnEnds, Returns}
use Rattle.machine.specs.Events.{event_number}
use Rattle.history.specs.Entries.{Entry, thread_id, is, Is}
use Rattle.history.specs.Method.{Seen, Positions, idle, calling, waiting, combining, leaving, Goes, blank, begins, swaps, turns, applies, ends, helped, leaves, other, Moves}

-- an entry is such an event or not
module _ (e : Entry) (event : Event) where
  pub is_so : Is event e → is event e ≡ true
  is_so q = eq-eqb (event_number e.event) (event_number event) q

  pub is_not : (Is event e → ⊥) → is event e ≡ false
  is_not q = ne_eqb (event_number e.event) (event_number event) q

  pub by_event : {P : Type 0} → (Is event e → P) → ((Is event e → ⊥) → P) → P
  by_event so apart = by_equal (event_number e.event) (event_number event) so apart

-- thread t has entry e: any thread u goes from phase i to phase j, and from b calls begun to b'
pub record Later (t : ℕ) (e : Entry) (u i b j b' : ℕ) : Type 0 where
  pub more : b ≤ b'
  pub busy : 0 < j → b' ≡ b → 0 < i
  pub before : j ≡ calling → b' ≡ b → i ≡ calling
  pub enters : waiting ≤ j → i < waiting → (u ≡ t) × Is Swaps e
  pub within : waiting ≤ i → (b' ≡ b) × (u ≡ t → Is Swaps e → ⊥)

-- and its own thread
pub record Told (e : Entry) (i b j b' : ℕ) : Type 0 where
  pub active : (Is Blank e → ⊥) → (Is CallBegins e → ⊥) → 0 < i
  pub begins : Is CallBegins e → (i ≡ idle) × (b' ≡ suc b) × (j ≡ calling)
  pub same : (Is CallBegins e → ⊥) → b' ≡ b
  pub busy : 0 < j → (Is Blank e → ⊥) × (Is Returns e → ⊥)
  pub stops : 0 < i → j ≡ idle → Is Returns e
  pub swaps : Is Swaps e → (i ≡ calling) × (j ≡ waiting)
  pub turn : Is TurnBegins e → (i ≡ waiting) × (j ≡ combining)
  pub applies : Is Applies e → (i ≡ combining) × (j ≡ combining)
  pub ends : Is TurnEnds e → (i ≡ combining) × (j ≡ leaving)
  pub returns : Is Returns e → (waiting ≤ i) × (j ≡ idle)
  pub returns_turn : Is Returns e → combining ≤ i → i ≡ leaving
  pub goes_on : i ≡ combining → (Is TurnEnds e → ⊥) → j ≡ combining
  pub into_turn : j ≡ combining → (Is TurnBegins e → ⊥) → (i ≡ combining) × (Is TurnEnds e → ⊥)
  pub left : j ≡ leaving → (Is TurnEnds e → ⊥) → (i ≡ leaving) × (Is TurnBegins e → ⊥)
  pub side : (Is TurnBegins e → ⊥) → 0 < j → (i < combining → j < combining) × (combining ≤ i → combining ≤ j)

module _ {e : Entry} {i b j b' : ℕ} where
  pub told : Goes (event_number e.event) i b j b' → Told e i b j b'
  told (blank k i j b) = omega arith
  told (begins k i j b) = omega arith
  told (swaps k i j b) = omega arith
  told (turns k i j b) = omega arith
  told (applies k i j b) = omega arith
  told (ends k i j b) = omega arith
  told (helped k i j b) = omega arith
  told (leaves k i j b) = omega arith
  told (other k i j b) = omega arith

  own_later : (t : ℕ) → Goes (event_number e.event) i b j b' → Later t e t i b j b'
  own_later t (blank k i j b) = omega arith
  own_later t (begins k i j b) = omega arith
  own_later t (swaps k i j b) = omega arith
  own_later t (turns k i j b) = omega arith
  own_later t (applies k i j b) = omega arith
  own_later t (ends k i j b) = omega arith
  own_later t (helped k i j b) = omega arith
  own_later t (leaves k i j b) = omega arith
  own_later t (other k i j b) = omega arith

module _ {n h : ℕ} {x x' : Seen} {p p' : Positions} {t : ℕ} {e : Entry} (m : Moves n h x x' p p' t e) where
  pub by_thread : e.thread ≡ thread_id t
  by_thread = ap thread_id m.thread

  pub goes : Told e (x.phase t) (x.begun t) (x'.phase t) (x'.begun t)
  goes = told m.goes

  pub later : (u : ℕ) → Later t e u (x.phase u) (x.begun u) (x'.phase u) (x'.begun u)
  later u = by_equal u t (λ q. rw q (own_later t m.goes)) (λ q. rw ((m.others u q).phase, (m.others u q).begun) (omega arith))

  -- only a Swap enters the queue
  pub was_queued : (u : ℕ) → (u ≡ t → Is Swaps e → ⊥) → waiting ≤ x'.phase u → waiting ≤ x.phase u
  was_queued u apart i = by_order (x.phase u) waiting (λ low. let q = (later u).enters i low in absurd (apart q.0 q.1)) (λ high. high)
