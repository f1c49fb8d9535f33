-- The invariant of a DSM-Synch run's lines, nodes and Tail, by the ledger. Nodes are told by their numbers; null is 255.
use Rattle.std.specs.Prelude.{ℕ, suc, ◌+◌, ◌-◌, ◌*◌, ◌≤◌, ◌<◌, ◌≡◌, Bool, true, false, not, T, ltb}
use Rattle.machine.specs.declared.Node.{Node}
use Rattle.machine.specs.declared.Thread.{Thread}
use Rattle.invariant.specs.View.{View}
use Rattle.invariant.specs.Waits.{waits}
use Rattle.dsm_invariant.specs.Stages.{Out, idle, o2, o3, o4, o5, o6, o7, Wait, w8, w9, w10, w11, w12, w13, Combine, c14, c15, c16, c17, c18, c19, c20, c21, c22, c23, c25, c26, Stage, out, wait, combine, leave, nowhere, stage_of, queued}
use Rattle.dsm_invariant.specs.Ledger.{Ledger, node_number, node_at}

pub record Order (g : Ledger) : Type 0 where
  pub turn : g.b ≤ g.k
  pub at : g.k ≤ g.r
  pub released : g.r ≤ g.d
  pub completed : g.d ≤ g.a
  pub one : g.a ≤ suc g.k
  pub applied : g.a ≤ g.s

-- Tail: null where nobody has the turn or will have it, else the last position's node
pub data Tailed (g : Ledger) (tail : ℕ) : Type 0 where
  empty : g.b ≡ g.s → tail ≡ 255 → Tailed g tail
  last : (j : ℕ) → g.s ≡ suc j → g.b < g.s → tail ≡ node_at g j → Tailed g tail

-- a position's next: null, or right (a late line 27 may take a right one back)
pub data Link (g : Ledger) (i next : ℕ) : Type 0 where
  none : next ≡ 255 → Link g i next
  right : suc i < g.s → g.joined (suc i) ≡ true → next ≡ node_at g (suc i) → Link g i next

-- a position's node: wait and completed as the counts tell them
pub record NodeFields (g : Ledger) (i : ℕ) (x : Node) : Type 0 where
  pub wait : x.wait ≡ waits g.r g.b g.given i
  pub completed : x.completed ≡ ltb i g.d

-- the open call of thread u in the queue: its position and node
pub record In (g : Ledger) (u toggle my : ℕ) (x : Node) : Type 0 where
  pub below : g.at u < g.s
  pub who : g.who (g.at u) ≡ u
  pub bit : g.bit (g.at u) ≡ toggle
  pub home : my ≡ node_number u toggle
  pub fields : NodeFields g (g.at u) x

-- the toggle of a thread's earlier Swaps: the present one of an idle thread, else the other
abbrev pub former_out : Out → ℕ → ℕ
former_out idle toggle = toggle
former_out o2 toggle = 1 - toggle
former_out o3 toggle = 1 - toggle
former_out o4 toggle = 1 - toggle
former_out o5 toggle = 1 - toggle
former_out o6 toggle = 1 - toggle
former_out o7 toggle = 1 - toggle

abbrev pub former : Stage → ℕ → ℕ
former (out o) toggle = former_out o toggle
former (wait w) toggle = 1 - toggle
former (combine c) toggle = 1 - toggle
former (leave v) toggle = 1 - toggle
former nowhere toggle = toggle

-- positions from the last applied on, of thread u: but for that of its open call, they have its other node, and are earlier
pub record Old (g : Ledger) (u : ℕ) (s : Stage) (toggle : ℕ) : Type 0 where
  pub toggled : toggle ≤ 1
  pub bit : (i : ℕ) → i < g.s → g.a ≤ suc i → g.who i ≡ u → (T (queued s) → i ≡ g.at u → ⊥) → g.bit i ≡ former s toggle
  pub before : (i : ℕ) → i < g.s → g.a ≤ suc i → g.who i ≡ u → T (queued s) → i ≤ g.at u

-- before Swap: whether a call has begun, the node is chosen, and what is already written into it
pub record OutRow : Type 0 where
  pub begun : Bool
  pub chosen : Bool
  pub wait : Bool
  pub completed : Bool
  pub next : Bool
  pub asked : Bool

abbrev pub out_row : Out → OutRow
out_row idle = record { begun = false; chosen = false; wait = false; completed = false; next = false; asked = false }
out_row o2 = record { begun = true; chosen = false; wait = false; completed = false; next = false; asked = false }
out_row o3 = record { begun = true; chosen = true; wait = false; completed = false; next = false; asked = false }
out_row o4 = record { begun = true; chosen = true; wait = true; completed = false; next = false; asked = false }
out_row o5 = record { begun = true; chosen = true; wait = true; completed = true; next = false; asked = false }
out_row o6 = record { begun = true; chosen = true; wait = true; completed = true; next = true; asked = false }
out_row o7 = record { begun = true; chosen = true; wait = true; completed = true; next = true; asked = true }

-- the thread prepares the node that it has chosen
abbrev pub preparing : Stage → Bool
preparing (out o) = (out_row o).chosen
preparing (wait w) = false
preparing (combine c) = false
preparing (leave v) = false
preparing nowhere = false

-- the request is written into its node
abbrev pub asked : Stage → Bool
asked (out o) = (out_row o).asked
asked (wait w) = true
asked (combine c) = true
asked (leave v) = true
asked nowhere = false

pub record OutFacts (row : OutRow) (u toggle my served : ℕ) (x : Node) : Type 0 where
  pub begun : T row.begun → served ≡ 0
  pub chosen : T row.chosen → my ≡ node_number u toggle
  pub wait : T row.wait → x.wait ≡ true
  pub completed : T row.completed → x.completed ≡ false
  pub next : T row.next → x.next.0 ≡ 255

-- nothing is applied past the turn's position
pub record Even (g : Ledger) : Type 0 where
  pub a : g.a ≡ g.b
  pub k : g.k ≡ g.b

-- the predecessor that the Swap of position i gave
pub data Pred (g : Ledger) (i pred : ℕ) : Type 0 where
  first : i ≡ g.b → pred ≡ 255 → Pred g i pred
  after : (j : ℕ) → i ≡ suc j → pred ≡ node_at g j → Pred g i pred

pub data Gate : Type 0 where
  arriving : Gate
  behind : Gate
  closed : Gate
  opened : Gate
  released : Gate
  turn : Gate

abbrev pub Gated : Gate → Ledger → ℕ → ℕ → Type 0
Gated arriving g i pred = Pred g i pred
Gated behind g i pred = (pred ≡ 255 → ⊥) × Pred g i pred
Gated closed g i pred = Unit
Gated opened g i pred = waits g.r g.b g.given i ≡ false
Gated released g i pred = i < g.r
Gated turn g i pred = i ≡ g.b

pub record WaitRow : Type 0 where
  pub joined : Bool
  pub gate : Gate

abbrev pub wait_row : Wait → WaitRow
wait_row w8 = record { joined = false; gate = arriving }
wait_row w9 = record { joined = false; gate = behind }
wait_row w10 = record { joined = true; gate = closed }
wait_row w11 = record { joined = true; gate = opened }
wait_row w12 = record { joined = true; gate = released }
wait_row w13 = record { joined = true; gate = turn }

pub record WaitFacts (row : WaitRow) (g : Ledger) (i pred served : ℕ) : Type 0 where
  pub none_served : served ≡ 0
  pub joined : g.joined i ≡ row.joined
  pub early : T (not row.joined) → g.a ≤ i
  pub even : i ≡ g.b → Even g
  pub gate : Gated row.gate g i pred

-- in the turn: how far the counts and the served counter are past tmpNode's position, and whether there is room below h
pub record CombineRow : Type 0 where
  pub a : ℕ
  pub d : ℕ
  pub r : ℕ
  pub counted : ℕ
  pub room : ℕ

abbrev pub combine_row : Combine → CombineRow
combine_row c14 = record { a = 0; d = 0; r = 0; counted = 0; room = 1 }
combine_row c15 = record { a = 0; d = 0; r = 0; counted = 0; room = 1 }
combine_row c16 = record { a = 0; d = 0; r = 0; counted = 1; room = 0 }
combine_row c17 = record { a = 1; d = 0; r = 0; counted = 1; room = 0 }
combine_row c18 = record { a = 1; d = 1; r = 0; counted = 1; room = 0 }
combine_row c19 = record { a = 1; d = 1; r = 1; counted = 1; room = 0 }
combine_row c20 = record { a = 1; d = 1; r = 1; counted = 1; room = 0 }
combine_row c21 = record { a = 1; d = 1; r = 1; counted = 1; room = 1 }
combine_row c22 = record { a = 1; d = 1; r = 1; counted = 1; room = 0 }
combine_row c23 = record { a = 1; d = 1; r = 1; counted = 1; room = 0 }
combine_row c25 = record { a = 1; d = 1; r = 1; counted = 1; room = 0 }
combine_row c26 = record { a = 1; d = 1; r = 1; counted = 1; room = 0 }

pub record CombineFacts (row : CombineRow) (h : ℕ) (g : Ledger) (i tmp served : ℕ) : Type 0 where
  pub turn : i ≡ g.b
  pub below : g.k < g.s
  pub joined : g.joined g.k ≡ true
  pub serving : tmp ≡ node_at g g.k
  pub applied : g.a ≡ g.k + row.a
  pub completed : g.d ≡ g.k + row.d
  pub released : g.r ≡ g.k + row.r
  pub counted : served + g.b ≡ g.k + row.counted
  pub room : served + row.room ≤ h

-- the turn has ended (24, 27, 28)
pub record LeaveFacts (n : ℕ) (g : Ledger) (i tmp : ℕ) : Type 0 where
  pub past : i < g.b
  pub range : tmp < 2 * n

-- what thread u, th, knows at a stage, of its variables and its node x
abbrev pub Knows : ℕ → ℕ → Ledger → ℕ → Stage → Thread → Node → Type 0
Knows n h g u (out o) th x = OutFacts (out_row o) u th.toggle th.my.0 th.served x
Knows n h g u (wait w) th x = In g u th.toggle th.my.0 x × WaitFacts (wait_row w) g (g.at u) th.pred.0 th.served
Knows n h g u (combine c) th x = In g u th.toggle th.my.0 x × CombineFacts (combine_row c) h g (g.at u) th.tmp.0 th.served
Knows n h g u (leave v) th x = In g u th.toggle th.my.0 x × LeaveFacts n g (g.at u) th.tmp.0
Knows n h g u nowhere th x = ⊥

abbrev pub ThreadFacts : ℕ → ℕ → Ledger → ℕ → Thread → Node → Type 0
ThreadFacts n h g u th x = Knows n h g u (stage_of th.line) th x

abbrev pub InQueue : View → ℕ → Type 0
InQueue v u = T (queued (stage_of (v.thread u).line))

-- a position that is not applied has its open call
pub record Seat (n : ℕ) (v : View) (g : Ledger) (i : ℕ) : Type 0 where
  pub who : g.who i < n
  pub queued : InQueue v (g.who i)
  pub at : g.at (g.who i) ≡ i

-- a position is a thread's, with one of its two nodes
pub record Real (n : ℕ) (g : Ledger) (i : ℕ) : Type 0 where
  pub who : g.who i < n
  pub bit : g.bit i ≤ 1

-- the invariant of a view and its ledger
pub record Control (n h : ℕ) (v : View) (g : Ledger) : Type 0 where
  -- how far the serving has come
  pub order : Order g
  pub given : T g.given → g.b < g.s
  pub tailed : Tailed g v.tail.0
  pub real : (i : ℕ) → i < g.s → Real n g i
  pub seat : (i : ℕ) → g.a ≤ i → i < g.s → Seat n v g i
  pub link : (i : ℕ) → i < g.s → g.a ≤ suc i → Link g i (v.node (node_at g i)).next.0
  -- what each thread knows, of its earlier nodes and by its stage
  pub old : (u : ℕ) → u < n → Old g u (stage_of (v.thread u).line) (v.thread u).toggle
  pub facts : (u : ℕ) → u < n → ThreadFacts n h g u (v.thread u) (v.node (v.thread u).my.0)
