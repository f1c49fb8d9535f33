-- The invariant of a CC-Synch run's lines, nodes and Tail: what holds of every slot after every entry, by the ledger.
use Rattle.std.specs.Prelude.{ℕ, suc, ◌+◌, ◌≤◌, ◌<◌, ◌≡◌, Bool, true, false, cond, T, ltb, eqb}
use Rattle.machine.specs.declared.Node.{Node}
use Rattle.machine.specs.declared.Thread.{Thread}
use Rattle.invariant.specs.Stages.{Stage, Out, Wait, Combine, idle, o2, o3, o4, o5, w6, w7, w8, w9, w10, w11, w12, c13, c14, c15, c16, c17, c18, c20, out, wait, combine, l19, l21, dummy, stage_of, queued, is_thread}
use Rattle.invariant.specs.Ledger.{Ledger}
use Rattle.invariant.specs.View.{View}
use Rattle.invariant.specs.Waits.{waits}

-- a slot: a thread, or Tail as slot n; the numbers of its nodes, and the served counter
pub record Slot : Type 0 where
  pub stage : Stage
  pub own : ℕ
  pub cur : ℕ
  pub tmp : ℕ
  pub tmpnext : ℕ
  pub served : ℕ

abbrev pub slot_of_thread : Thread → Slot
slot_of_thread th = record {
  stage = stage_of th.line;
  own = th.own.0;
  cur = th.cur.0;
  tmp = th.tmp.0;
  tmpnext = th.tmpnext.0;
  served = th.served;
}

abbrev pub slot_of_tail : ℕ → Slot
slot_of_tail tail = record { stage = dummy; own = tail; cur = tail; tmp = tail; tmpnext = tail; served = 0 }

unfoldable pub slot : ℕ → View → ℕ → Slot
slot n v u = cond (eqb u n) (slot_of_tail v.tail.0) (slot_of_thread (v.thread u))

-- the node that a thread holds at a stage: its own before Swap, then curNode; and a slot's
abbrev pub holding : Stage → Thread → ℕ
holding s th = cond (queued s) th.cur.0 th.own.0

abbrev pub held : Slot → ℕ
held x = cond (queued x.stage) x.cur x.own

-- the fields of a position's node
pub record NodeFields (g : Ledger) (i : ℕ) (x : Node) : Type 0 where
  pub next : x.next.0 ≡ cond (g.linked i) (g.node (suc i)) 255
  pub wait : x.wait ≡ waits g.r g.b true i
  pub completed : x.completed ≡ ltb i g.d

-- before Swap: what is already written into the own node, and whether a call has begun
pub record OutRow : Type 0 where
  pub next : Bool
  pub wait : Bool
  pub completed : Bool
  pub begun : Bool

abbrev pub out_row : Out → OutRow
out_row idle = record { next = false; wait = false; completed = false; begun = false }
out_row o2 = record { next = false; wait = false; completed = false; begun = true }
out_row o3 = record { next = true; wait = false; completed = false; begun = true }
out_row o4 = record { next = true; wait = true; completed = false; begun = true }
out_row o5 = record { next = true; wait = true; completed = true; begun = true }

pub record OutFacts (row : OutRow) (served : ℕ) (x : Node) : Type 0 where
  pub next : T row.next → x.next.0 ≡ 255
  pub wait : T row.wait → x.wait ≡ true
  pub completed : T row.completed → x.completed ≡ false
  pub none_served : T row.begun → served ≡ 0

-- in the queue: the position's thread is the slot's, and its node is curNode
pub record Queued (g : Ledger) (u cur : ℕ) (x : Node) : Type 0 where
  pub who : g.who (g.at u) ≡ u
  pub node : g.node (g.at u) ≡ cur
  pub fields : NodeFields g (g.at u) x

-- a waiting slot at the position that has the turn: nothing is served beyond it
abbrev pub Even : Ledger → ℕ → Type 0
Even g i = i ≡ g.b → (g.a ≡ g.b) × (g.r ≡ g.b)

-- waiting: whether next is written (8 on); the own node is the dummy that was swapped in (6, 7), or curNode (9 on);
-- released or at the turn (10); released (11); at the turn (12)
pub record WaitRow : Type 0 where
  pub linked : Bool
  pub swapped : Bool
  pub home : Bool
  pub free : Bool
  pub released : Bool
  pub turn : Bool

abbrev pub wait_row : Wait → WaitRow
wait_row w6 = record { linked = false; swapped = true; home = false; free = false; released = false; turn = false }
wait_row w7 = record { linked = false; swapped = true; home = false; free = false; released = false; turn = false }
wait_row w8 = record { linked = true; swapped = false; home = false; free = false; released = false; turn = false }
wait_row w9 = record { linked = true; swapped = false; home = true; free = false; released = false; turn = false }
wait_row w10 = record { linked = true; swapped = false; home = true; free = true; released = false; turn = false }
wait_row w11 = record { linked = true; swapped = false; home = true; free = false; released = true; turn = false }
wait_row w12 = record { linked = true; swapped = false; home = true; free = false; released = false; turn = true }

pub record WaitFacts (row : WaitRow) (g : Ledger) (i own cur served : ℕ) : Type 0 where
  pub below : i < g.s
  pub none_served : served ≡ 0
  pub linked : g.linked i ≡ row.linked
  pub swapped : T row.swapped → own ≡ g.node (suc i)
  pub home : T row.home → own ≡ cur
  pub free : T row.free → waits g.r g.b true i ≡ false
  pub released : T row.released → i < g.r
  pub turn : T row.turn → i ≡ g.b
  pub even : Even g i

-- in the turn: how far the applied, the completed and the served counter are ahead of the released; the counter has room below h (14);
-- the node to serve has a next (14 to 18), which is tmpNodeNext (16 to 18); at least one is served (20)
pub record CombineRow : Type 0 where
  pub applied : ℕ
  pub completed : ℕ
  pub counted : ℕ
  pub room : Bool
  pub linked : Bool
  pub next : Bool
  pub past : Bool

abbrev pub combine_row : Combine → CombineRow
combine_row c13 = record { applied = 0; completed = 0; counted = 0; room = false; linked = false; next = false; past = false }
combine_row c14 = record { applied = 0; completed = 0; counted = 0; room = true; linked = true; next = false; past = false }
combine_row c15 = record { applied = 0; completed = 0; counted = 1; room = false; linked = true; next = false; past = false }
combine_row c16 = record { applied = 0; completed = 0; counted = 1; room = false; linked = true; next = true; past = false }
combine_row c17 = record { applied = 1; completed = 0; counted = 1; room = false; linked = true; next = true; past = false }
combine_row c18 = record { applied = 1; completed = 1; counted = 1; room = false; linked = true; next = true; past = false }
combine_row c20 = record { applied = 0; completed = 0; counted = 0; room = false; linked = false; next = false; past = true }

-- at the turn's position, with the own node back
pub record Turn (h : ℕ) (g : Ledger) (i own cur served : ℕ) : Type 0 where
  pub below : i < g.s
  pub turn : i ≡ g.b
  pub linked : g.linked i ≡ true
  pub home : own ≡ cur
  pub most : served ≤ h

pub record CombineFacts (row : CombineRow) (h : ℕ) (g : Ledger) (tmp tmpnext served : ℕ) : Type 0 where
  pub serving : tmp ≡ g.node g.r
  pub applied : g.a ≡ g.r + row.applied
  pub completed : g.d ≡ g.r + row.completed
  pub counted : served + g.b ≡ g.r + row.counted
  pub room : T row.room → served < h
  pub linked : T row.linked → g.linked g.r ≡ true
  pub next : T row.next → tmpnext ≡ g.node (suc g.r)
  pub past : T row.past → g.b < g.r

-- line 19: the one served is released, and tmpNodeNext is the next to serve
pub record Facts19 (g : Ledger) (tmpnext served : ℕ) : Type 0 where
  pub applied : g.a ≡ g.r
  pub completed : g.d ≡ g.r
  pub counted : served + g.b ≡ g.r
  pub next : tmpnext ≡ g.node g.r
  pub past : g.b < g.r

-- line 21: the turn has ended
pub record Facts21 (h : ℕ) (g : Ledger) (i own cur served : ℕ) : Type 0 where
  pub below : i < g.s
  pub past : i < g.b
  pub home : own ≡ cur
  pub some : 0 < served
  pub most : served ≤ h

-- Tail's slot: the last position, whose next isn't written
pub record DummyFacts (g : Ledger) (i : ℕ) : Type 0 where
  pub last : i ≡ g.s
  pub linked : g.linked g.s ≡ false
  pub even : Even g g.s

-- what holds of slot u by its stage
abbrev pub StageFacts : ℕ → Ledger → ℕ → Stage → Slot → Node → Type 0
StageFacts h g u (out o) x y = OutFacts (out_row o) x.served y
StageFacts h g u (wait w) x y = Queued g u x.cur y × WaitFacts (wait_row w) g (g.at u) x.own x.cur x.served
StageFacts h g u (combine c) x y =
    Queued g u x.cur y
    × (Turn h g (g.at u) x.own x.cur x.served × CombineFacts (combine_row c) h g x.tmp x.tmpnext x.served)
StageFacts h g u l19 x y =
    Queued g u x.cur y
    × (Turn h g (g.at u) x.own x.cur x.served × Facts19 g x.tmpnext x.served)
StageFacts h g u l21 x y = Queued g u x.cur y × Facts21 h g (g.at u) x.own x.cur x.served
StageFacts h g u dummy x y = Queued g u x.cur y × DummyFacts g (g.at u)

-- requests are served in order: turn, released, completed, applied, swapped
pub record Order (g : Ledger) : Type 0 where
  pub turn : g.b ≤ g.r
  pub released : g.r ≤ g.d
  pub completed : g.d ≤ g.a
  pub applied : g.a ≤ g.s

-- position i is still held by its slot
pub record Seat (n : ℕ) (v : View) (g : Ledger) (i : ℕ) : Type 0 where
  pub who : g.who i ≤ n
  pub queued : T (queued (slot n v (g.who i)).stage)
  pub at : g.at (g.who i) ≡ i

-- the invariant of a view and its ledger
pub record Control (n h : ℕ) (v : View) (g : Ledger) : Type 0 where
  -- how far the serving has come
  pub order : Order g
  -- a thread's next line is 0 or 2 to 21
  pub lines : (u : ℕ) → u < n → T (is_thread (stage_of (v.thread u).line))
  -- each slot holds a node of its own
  pub nodes : (u : ℕ) → u ≤ n → held (slot n v u) ≤ n
  pub apart : (u w : ℕ) → u ≤ n → w ≤ n → held (slot n v u) ≡ held (slot n v w) → u ≡ w
  -- every position from the released on is held
  pub seat : (i : ℕ) → g.r ≤ i → i ≤ g.s → Seat n v g i
  -- what each slot knows, by its stage
  pub facts : (u : ℕ) → u ≤ n → StageFacts h g u (slot n v u).stage (slot n v u) (v.node (held (slot n v u)))
