-- Where a thread of DSM-Synch stands, grouped by what it holds: a node that it prepares, its node in the queue, the turn, or an answer to return with.
use Rattle.std.specs.Prelude.{ℕ, Bool, true, false, List, [], ◌∷◌, get_or}

-- before its Swap: idle, or about to run lines 2 to 7
pub data Out : Type 0 where
  idle : Out
  o2 : Out
  o3 : Out
  o4 : Out
  o5 : Out
  o6 : Out
  o7 : Out

-- from its Swap to its turn or its answer: lines 8 to 13
pub data Wait : Type 0 where
  w8 : Wait
  w9 : Wait
  w10 : Wait
  w11 : Wait
  w12 : Wait
  w13 : Wait

-- in its turn: lines 14 to 23, 25 and 26
pub data Combine : Type 0 where
  c14 : Combine
  c15 : Combine
  c16 : Combine
  c17 : Combine
  c18 : Combine
  c19 : Combine
  c20 : Combine
  c21 : Combine
  c22 : Combine
  c23 : Combine
  c25 : Combine
  c26 : Combine

-- its turn has ended: lines 24, 27 and 28
pub data Leave : Type 0 where
  v24 : Leave
  v27 : Leave
  v28 : Leave

-- no thread stands nowhere
pub data Stage : Type 0 where
  out : Out → Stage
  wait : Wait → Stage
  combine : Combine → Stage
  leave : Leave → Stage
  nowhere : Stage

-- the stage of a thread whose next line has a number; line 1 is never a thread's next line
abbrev pub stages : List Stage
stages =
    out idle ∷ nowhere ∷ out o2 ∷ out o3 ∷ out o4 ∷ out o5 ∷ out o6 ∷ out o7 ∷ wait w8 ∷ wait w9 ∷ wait w10 ∷ wait w11 ∷ wait w12 ∷ wait w13
    ∷ combine c14 ∷ combine c15 ∷ combine c16 ∷ combine c17 ∷ combine c18 ∷ combine c19 ∷ combine c20 ∷ combine c21 ∷ combine c22 ∷ combine c23
    ∷ leave v24 ∷ combine c25 ∷ combine c26 ∷ leave v27 ∷ leave v28 ∷ []

abbrev pub stage_of : ℕ → Stage
stage_of k = get_or stages k nowhere

-- the Swap of its call is done and the call has not returned
abbrev pub queued : Stage → Bool
queued (out o) = false
queued (wait w) = true
queued (combine c) = true
queued (leave v) = true
queued nowhere = false
