-- What a method shows of one of its entries: the history of a run is proved from this alone, for every method that meets it.
use Rattle.std.specs.Prelude.{ℕ, suc, ◌+◌, ◌≤◌, ◌<◌, ◌≡◌}
use Rattle.machine.specs.declared.Event.TheVariants.{Blank, CallBegins, Swaps, TurnBegins, Applies, TurnEnds, Returns, Spins}
use Rattle.machine.specs.Events.{event_number}
use Rattle.step.specs.Entry.{one_if}
use Rattle.history.specs.Entries.{Entry, Is, is}

-- the phases of a thread: no call open; before its Swap; in the queue, with no turn begun; in its turn; its turn has ended
abbrev pub idle : ℕ
idle = 0

abbrev pub calling : ℕ
calling = 1

abbrev pub waiting : ℕ
waiting = 2

abbrev pub combining : ℕ
combining = 3

abbrev pub leaving : ℕ
leaving = 4

-- threads as a history sees them: phase, calls begun, and the served counter
pub record Seen : Type 0 where
  pub phase : ℕ → ℕ
  pub begun : ℕ → ℕ
  pub counter : ℕ → ℕ

-- positions in Swap order: s Swaps done, a requests applied, b where the turn began; the node assigned at a position, and the position of a thread
pub record Positions : Type 0 where
  pub s : ℕ
  pub a : ℕ
  pub b : ℕ
  pub node : ℕ → ℕ
  pub at : ℕ → ℕ

-- an entry whose event has number k takes its thread from phase i, with b calls begun, to phase j, with b'
pub data Goes (k i b j b' : ℕ) : Type 0 where
  blank : k ≡ event_number Blank → i ≡ idle → j ≡ idle → b' ≡ b → Goes k i b j b'
  begins : k ≡ event_number CallBegins → i ≡ idle → j ≡ calling → b' ≡ suc b → Goes k i b j b'
  swaps : k ≡ event_number Swaps → i ≡ calling → j ≡ waiting → b' ≡ b → Goes k i b j b'
  turns : k ≡ event_number TurnBegins → i ≡ waiting → j ≡ combining → b' ≡ b → Goes k i b j b'
  applies : k ≡ event_number Applies → i ≡ combining → j ≡ combining → b' ≡ b → Goes k i b j b'
  ends : k ≡ event_number TurnEnds → i ≡ combining → j ≡ leaving → b' ≡ b → Goes k i b j b'
  helped : k ≡ event_number Returns → i ≡ waiting → j ≡ idle → b' ≡ b → Goes k i b j b'
  leaves : k ≡ event_number Returns → i ≡ leaving → j ≡ idle → b' ≡ b → Goes k i b j b'
  -- a spin, or an entry of which nothing is said
  other : event_number Spins ≤ k → 0 < i → j ≡ i → b' ≡ b → Goes k i b j b'

-- what thread t's entry makes of the positions
pub record Notes (n t : ℕ) (e : Entry) (p p' : Positions) : Type 0 where
  pub s : p'.s ≡ p.s + one_if (is Swaps e)
  pub a : p'.a ≡ p.a + one_if (is Applies e)
  pub b : (Is TurnEnds e → ⊥) → p'.b ≡ p.b
  pub node : (i : ℕ) → i < p.s → p'.node i ≡ p.node i
  pub new : Is Swaps e → p'.node p.s ≡ e.node.0
  pub at_swap : Is Swaps e → p'.at t ≡ p.s
  pub at_kept : (u : ℕ) → u < n → (u ≡ t → Is Swaps e → ⊥) → p'.at u ≡ p.at u

-- another thread stays as it was
pub record Stays (x x' : Seen) (u : ℕ) : Type 0 where
  pub phase : x'.phase u ≡ x.phase u
  pub begun : x'.begun u ≡ x.begun u
  pub counter : x'.counter u ≡ x.counter u

-- thread t of n has entry e, where a turn serves at most h
pub record Moves (n h : ℕ) (x x' : Seen) (p p' : Positions) (t : ℕ) (e : Entry) : Type 0 where
  pub below : t < n
  pub thread : e.thread.0 ≡ t
  pub goes : Goes (event_number e.event) (x.phase t) (x.begun t) (x'.phase t) (x'.begun t)
  pub others : (u : ℕ) → (u ≡ t → ⊥) → Stays x x' u
  pub notes : Notes n t e p p'
  -- a thread that leaves keeps its counter
  pub counter : x'.phase t ≡ leaving → x'.counter t ≡ x.counter t
  -- no more is applied than swapped, and a thread in the queue has the position of a Swap
  pub order : p.a ≤ p.s
  pub at_below : (u : ℕ) → u < n → waiting ≤ x.phase u → p.at u < p.s
  -- one thread at most is in its turn, and none while another's begins: at its position, with all before it applied
  pub one_turn : (u w : ℕ) → u < n → w < n → x.phase u ≡ combining → x.phase w ≡ combining → u ≡ w
  pub no_turn : Is TurnBegins e → (u : ℕ) → u < n → x.phase u ≡ combining → ⊥
  pub turn_at : Is TurnBegins e → (p.at t ≡ p.a) × (p.a ≡ p.b)
  -- what is applied is the next position's, and the turn has room for it; its thread, if another, waits
  pub serving : Is Applies e → (e.node.0 ≡ p.node p.a) × (p.a < p.s) × (p.a < p.b + h)
  pub waits : Is Applies e → (u : ℕ) → u < n → (u ≡ t → ⊥) → waiting ≤ x.phase u → p.at u ≡ p.a → x.phase u ≡ waiting
  -- a turn that ends has served as many as its counter says
  pub turn_ends : Is TurnEnds e → x.counter t + p.b ≡ p.a
  -- a Swap assigns a node that no position has whose request is still to be applied
  pub not_given : Is Swaps e → (i : ℕ) → p.a ≤ i → i < p.s → p.node i ≡ e.node.0 → ⊥
  -- who returns has been served
  pub last : Is Returns e → p.at t < p.a
