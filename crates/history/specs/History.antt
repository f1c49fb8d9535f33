-- What the entries so far say of threads and positions: what every entry keeps, whichever method it is of.
use Rattle.std.specs.Prelude.{ℕ, suc, ◌+◌, ◌-◌, ◌≤◌, ◌<◌, ◌≡◌, Bool, true, false, List, map, length, get_or, take, leb, eqb}
use Rattle.machine.specs.declared.NodeId.{NodeId}
use Rattle.machine.specs.declared.Event.TheVariants.{TurnBegins}
use Rattle.history.specs.Entries.{Entry, thread_id, how_many}
use Rattle.history.specs.Terms.{Call, Serving, begun_by, swap_order, call_assigned, turn_of, turn_of_call, combines, servings, served_in, cost_of, returned, combined, returns, began_at, swapped_at, returned_at, precedes}
use Rattle.history.specs.Method.{Seen, Positions, calling, waiting, combining, leaving}

-- the node of a number
abbrev pub node_id : ℕ → NodeId
node_id m = record { 0 = m }

-- the call that a thread has begun last, and the last call of a thread that is seen
abbrev pub last_of : ℕ → ℕ → Call
last_of u begun = record { thread = thread_id u; request = begun - 1 }

abbrev pub last_call : Seen → ℕ → Call
last_call x u = last_of u (x.begun u)

-- a thread in its turn
pub record InTurn (n : ℕ) (x : Seen) (u : ℕ) : Type 0 where
  pub thread : u < n
  pub phase : x.phase u ≡ combining

-- a call whose Swap is done
pub record Swapped (n : ℕ) (x : Seen) (c : Call) : Type 0 where
  pub thread : c.thread.0 < n
  pub begun : c.request < x.begun c.thread.0
  pub before : x.phase c.thread.0 ≡ calling → suc c.request < x.begun c.thread.0

-- Swap order and positions
pub record SwapOrder (n : ℕ) (x : Seen) (p : Positions) (past : List Entry) : Type 0 where
  pub begun : (u : ℕ) → u < n → begun_by (thread_id u) past ≡ x.begun u
  pub busy : (u : ℕ) → u < n → 0 < x.phase u → 0 < x.begun u
  -- a position is a Swap, of a call that does no other
  pub swaps : length (swap_order past) ≡ p.s
  pub swapped : (i : ℕ) (d : Call) → i < p.s → Swapped n x (get_or (swap_order past) i d)
  pub once : (i j : ℕ) (d : Call) → i < j → j < p.s → get_or (swap_order past) i d ≡ get_or (swap_order past) j d → ⊥
  pub mine : (u : ℕ) (d : Call) → u < n → waiting ≤ x.phase u → get_or (swap_order past) (p.at u) d ≡ last_call x u
  -- the Swap that assigned a position's node last is the position's, until its request is applied
  pub given : (i : ℕ) (d : Call) → p.a ≤ i → i < p.s → call_assigned (node_id (p.node i)) past ≡ get_or (swap_order past) i d
  -- the calls served are the first of Swap order
  pub served : map (λ (w : Serving). w.call) (servings past) ≡ take p.a (swap_order past)

-- turns: the combiner's is the latest, and has served what lies between the turn's position and the applied
pub record Turns (n h : ℕ) (x : Seen) (p : Positions) (past : List Entry) : Type 0 where
  pub combiner : (u : ℕ) → combines (thread_id u) past ≡ true → InTurn n x u
  pub in_turn : (u : ℕ) → InTurn n x u → combines (thread_id u) past ≡ true
  pub latest : (u : ℕ) → InTurn n x u → suc (turn_of (thread_id u) past) ≡ how_many TurnBegins past
  pub served : (u : ℕ) → InTurn n x u → served_in (turn_of (thread_id u) past) past + p.b ≡ p.a
  pub unbegun : (turn : ℕ) → how_many TurnBegins past ≤ turn → served_in turn past ≡ 0
  pub most : (turn : ℕ) → served_in turn past ≤ h

-- a turn that has ended: no combiner's
pub record Ended (n : ℕ) (x : Seen) (past : List Entry) (turn : ℕ) : Type 0 where
  pub begun : turn < how_many TurnBegins past
  pub over : (u : ℕ) → InTurn n x u → suc turn < how_many TurnBegins past

-- a call of which no entry is
pub record Untouched (past : List Entry) (c : Call) : Type 0 where
  pub cost : cost_of c past ≡ 0
  pub returned : returned c past ≡ false
  pub combined : combined c past ≡ false

-- the open call of thread u, in a phase, with so many calls begun, its counter and what it has cost
pub record Open (n : ℕ) (x : Seen) (u phase begun counter spent : ℕ) (past : List Entry) : Type 0 where
  pub cost : cost_of (last_of u begun) past ≡ spent
  pub returned : returned (last_of u begun) past ≡ false
  pub combined : combined (last_of u begun) past ≡ leb combining phase
  pub turn : combining ≤ phase → turn_of_call (last_of u begun) past ≡ turn_of (thread_id u) past
  pub served : phase ≡ leaving → served_in (turn_of (thread_id u) past) past ≡ counter
  pub ended : phase ≡ leaving → Ended n x past (turn_of (thread_id u) past)

-- how a returned call was served: by its own thread exactly if it combined, and then in its own turn; and it returns the answer
pub record ServedTo (past : List Entry) (c : Call) (w : Serving) : Type 0 where
  pub server : eqb w.server.0 c.thread.0 ≡ combined c past
  pub own_turn : combined c past ≡ true → w.turn ≡ turn_of_call c past
  pub answer : returns c past ≡ w.answer

-- how the open call of a thread in a phase was served: by its own thread exactly if that has begun a turn, and then in this turn
pub record Served (u phase : ℕ) (past : List Entry) (w : Serving) : Type 0 where
  pub server : eqb w.server.0 u ≡ leb combining phase
  pub own_turn : combining ≤ phase → w.turn ≡ turn_of (thread_id u) past

-- what a method claims of a returned call: whether it combined, how many its turn then served, and its remote references
module _ (Paid : Bool → ℕ → ℕ → Type 0) where
  -- a returned call: its position, whose request is applied, and its bounds
  pub record Settled (n : ℕ) (x : Seen) (p : Positions) (past : List Entry) (c : Call) : Type 0 where
    pub thread : c.thread.0 < n
    pub begun : c.request < x.begun c.thread.0
    pub closed : 0 < x.phase c.thread.0 → suc c.request < x.begun c.thread.0
    pub position : ℕ
    pub applied : position < p.a
    pub call : (d : Call) → get_or (swap_order past) position d ≡ c
    pub serving : (d : Serving) → ServedTo past c (get_or (servings past) position d)
    pub by_another : combined c past ≡ false → Paid false 0 (cost_of c past)
    pub by_itself : combined c past ≡ true → Paid true (served_in (turn_of_call c past) past) (cost_of c past)
    pub ended : combined c past ≡ true → Ended n x past (turn_of_call c past)

  -- calls: not begun, open and returned ones
  pub record Calls (n : ℕ) (x : Seen) (p : Positions) (cost : ℕ → ℕ) (past : List Entry) : Type 0 where
    pub fresh : (c : Call) → c.thread.0 < n → x.begun c.thread.0 ≤ c.request → Untouched past c
    pub open_call : (u : ℕ) → u < n → 0 < x.phase u → Open n x u (x.phase u) (x.begun u) (x.counter u) (cost u) past
    pub served : (u : ℕ) (d : Serving) → u < n → waiting ≤ x.phase u → p.at u < p.a → Served u (x.phase u) past (get_or (servings past) (p.at u) d)
    pub settled : (c : Call) → returned c past ≡ true → Settled n x p past c

-- a call whose Swap is done, in time: it began before its Swap, and has returned, if it has, behind it
pub record SwapTime (past : List Entry) (c : Call) : Type 0 where
  pub began : began_at c past < swapped_at c past
  pub done : swapped_at c past < length past
  pub returned : returned c past ≡ true → swapped_at c past < returned_at c past

-- a call has returned, with a lower number than another began with
pub record Ordered (past : List Entry) (c other : Call) : Type 0 where
  pub returned : returned c past ≡ true
  pub numbers : returned_at c past < began_at other past

-- calls in time: a call that has begun has the number of an entry, and has returned unless it is its thread's open call; one that had returned when another began has
-- a lower number; positions are in the order of their Swaps
pub record Times (n : ℕ) (x : Seen) (p : Positions) (past : List Entry) : Type 0 where
  pub began : (c : Call) → c.thread.0 < n → c.request < x.begun c.thread.0 → began_at c past < length past
  pub closed : (c : Call) → c.thread.0 < n → c.request < x.begun c.thread.0 → (0 < x.phase c.thread.0 → suc c.request < x.begun c.thread.0)
      → returned c past ≡ true
  pub ordered : (c other : Call) → precedes c other past ≡ true → Ordered past c other
  pub swapped : (i : ℕ) (d : Call) → i < p.s → SwapTime past (get_or (swap_order past) i d)
  pub in_time : (i k : ℕ) (d : Call) → i < k → k < p.s → swapped_at (get_or (swap_order past) i d) past < swapped_at (get_or (swap_order past) k d) past
