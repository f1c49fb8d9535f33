-- Where a thread of CC-Synch stands, grouped by what it holds: its own node, a queued node while it waits, or the turn.
use Rattle.std.specs.Prelude.{ℕ, Bool, true, false, List, [], ◌∷◌, get_or}

-- before its Swap: idle, or about to run line 2, 3, 4 or 5
pub data Out : Type 0 where
  idle : Out
  o2 : Out
  o3 : Out
  o4 : Out
  o5 : Out

-- from its Swap to its turn or its answer: lines 6 to 12
pub data Wait : Type 0 where
  w6 : Wait
  w7 : Wait
  w8 : Wait
  w9 : Wait
  w10 : Wait
  w11 : Wait
  w12 : Wait

-- in its turn, with tmpNode at the node to serve next or being served: lines 13 to 18, and 20
pub data Combine : Type 0 where
  c13 : Combine
  c14 : Combine
  c15 : Combine
  c16 : Combine
  c17 : Combine
  c18 : Combine
  c20 : Combine

-- lines 19 and 21 stand alone; the dummy is Tail's slot, which no thread is at
pub data Stage : Type 0 where
  out : Out → Stage
  wait : Wait → Stage
  combine : Combine → Stage
  l19 : Stage
  l21 : Stage
  dummy : Stage

-- the stage of a thread whose next line has a number; line 1 is never a thread's next line
abbrev pub stages : List Stage
stages =
    out idle ∷ dummy ∷ out o2 ∷ out o3 ∷ out o4 ∷ out o5 ∷ wait w6 ∷ wait w7 ∷ wait w8 ∷ wait w9 ∷ wait w10 ∷ wait w11 ∷ wait w12
    ∷ combine c13 ∷ combine c14 ∷ combine c15 ∷ combine c16 ∷ combine c17 ∷ combine c18 ∷ l19 ∷ combine c20 ∷ l21 ∷ []

abbrev pub stage_of : ℕ → Stage
stage_of k = get_or stages k dummy

-- a node of the queue is held: the thread's Swap is done and its call has not returned, or it is the dummy
abbrev pub queued : Stage → Bool
queued (out o) = false
queued (wait w) = true
queued (combine c) = true
queued l19 = true
queued l21 = true
queued dummy = true

-- the stages of threads
abbrev pub is_thread : Stage → Bool
is_thread (out o) = true
is_thread (wait w) = true
is_thread (combine c) = true
is_thread l19 = true
is_thread l21 = true
is_thread dummy = false
