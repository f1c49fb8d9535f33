-- Single steps of DSM-Synch in figures: entries of thread 0, of two threads, with h = 1. Nodes 0 and 1 are its own, 2 and 3 thread 1's; null is 255.
use Rattle.std.specs.Prelude.{ℕ, Bool, true, false, cond, List, [], ◌∷◌, map, ◌==◌, slice_index, slice_index_or, Some, None}
use Rattle.object.specs.declared.Kind.TheVariants.{Counter}
use Rattle.object.specs.declared.Request.TheVariants.{Add}
use Rattle.object.specs.declared.Answer.TheVariants.{Value}
use Rattle.object.specs.Apply.{fresh_object}
use Rattle.machine.specs.declared.Method.TheVariants.{DsmSynch}
use Rattle.machine.specs.declared.Node.{Node}
use Rattle.machine.specs.declared.Thread.{Thread}
use Rattle.machine.specs.declared.ThreadId.{ThreadId}
use Rattle.state.specs.declared.State.{State}
use Rattle.step.specs.Entry.{one_if, zero_thread}
use Rattle.step.specs.DsmEntry as dsm

-- a thread's variables in figures: the line that it runs next, the requests begun, of two, toggle, myNode, myPredNode, tmpNode and counter
abbrev thread_of : List ℕ → Thread
thread_of figures = record {
  count = 2;
  begun = slice_index figures 1;
  line = slice_index figures 0;
  own = record { 0 = 99 };
  cur = record { 0 = 99 };
  tmp = record { 0 = slice_index figures 5 };
  tmpnext = record { 0 = 99 };
  served = slice_index figures 6;
  toggle = slice_index figures 2;
  my = record { 0 = slice_index figures 3 };
  pred = record { 0 = slice_index figures 4 };
}

abbrev figures_of : Thread → List ℕ
figures_of th = th.line ∷ th.begun ∷ th.toggle ∷ th.my.0 ∷ th.pred.0 ∷ th.tmp.0 ∷ th.served ∷ []

-- a node by whether it waits and its next; one that has been used has a req and a ret
abbrev node_by : Bool → ℕ × ℕ → Node
node_by used figures = record {
  req = cond used (Some (Add 5)) None;
  ret = cond used (Some (Value 7)) None;
  wait = (figures.0 == 1);
  completed = false;
  next = record { 0 = figures.1 };
}

-- a state in figures: thread 0's variables, Tail, and nodes 0 to 3
pub record Figures : Type 0 where
  pub thread : List ℕ
  pub tail : ℕ
  pub nodes : List (ℕ × ℕ)

abbrev state_of : Bool → Figures → State
state_of used f = record {
  method = DsmSynch;
  n = 2;
  h = 1;
  kind = Counter;
  capacity = 0;
  tail = record { 0 = f.tail };
  threads = thread_of f.thread ∷ zero_thread ∷ [];
  nodes = map (node_by used) f.nodes;
  requests = [];
  copies = [];
  object = fresh_object;
  counts = record { records = 0; turns = 0; blanks = 0; spins = 0; remote = 0 };
}

-- what an entry gives: 14, because its line meets null or for another cause of its own; or its remote references and the state after it
pub data Outcome : Type 0 where
  meets_null : Outcome
  other_14 : Outcome
  goes : ℕ → Figures → Outcome

abbrev outcome_of : State → Outcome
outcome_of s =
    let t : ThreadId = record { 0 = 0 } in
    let after = dsm.entered s t in
    cond (dsm.null_met s t) meets_null
    (cond (dsm.out s t) other_14
    (goes after.counts.remote (record {
      thread = figures_of (slice_index_or after.threads 0 zero_thread);
      tail = after.tail.0;
      nodes = map (λ (x : Node). (one_if x.wait, x.next.0)) after.nodes;
    })))

-- a step in figures: the state, whether its nodes have been used, and what the entry gives
pub record Single : Type 0 where
  pub used : Bool
  pub before : Figures
  pub gives : Outcome

abbrev pub stepped : Single → Single
stepped w = record { used = w.used; before = w.before; gives = outcome_of (state_of w.used w.before) }

-- thread 0's variables with myNode 1 and myPredNode 2, at a line, with tmpNode and the counter
abbrev at : ℕ → ℕ → ℕ → List ℕ
at line tmp served = line ∷ 1 ∷ 1 ∷ 1 ∷ 2 ∷ tmp ∷ served ∷ []

-- the same with another myPredNode, before its turn
abbrev linking : ℕ → ℕ → List ℕ
linking line pred = line ∷ 1 ∷ 1 ∷ 1 ∷ pred ∷ 255 ∷ 0 ∷ []

-- no node waits; the next of node 3, and of node 2, those of the others null
abbrev chained : ℕ → ℕ → List (ℕ × ℕ)
chained of_3 of_2 = (0, 255) ∷ (0, 255) ∷ (0, of_2) ∷ (0, of_3) ∷ []

-- all four wait; the next of node 3
abbrev waiting : ℕ → List (ℕ × ℕ)
waiting of_3 = (1, 255) ∷ (1, 255) ∷ (1, 255) ∷ (1, of_3) ∷ []

abbrev figures : List ℕ → ℕ → List (ℕ × ℕ) → Figures
figures thread tail nodes = record { thread = thread; tail = tail; nodes = nodes }

abbrev from_used : Figures → Outcome → Single
from_used before gives = record { used = true; before = before; gives = gives }

abbrev from_unused : Figures → Outcome → Single
from_unused before gives = record { used = false; before = before; gives = gives }

unfoldable pub single_steps : List Single
single_steps =
    -- line 1 adds 1 to the requests begun, toggles, and empties the rest; past the requests there is none, and from idle then a blank
    from_used (figures (0 ∷ 1 ∷ 1 ∷ 1 ∷ 2 ∷ 3 ∷ 1 ∷ []) 3 (chained 255 255)) (goes 0 (figures (2 ∷ 2 ∷ 0 ∷ 255 ∷ 255 ∷ 255 ∷ 0 ∷ []) 3 (chained 255 255)))
    ∷ from_used (figures (1 ∷ 2 ∷ 1 ∷ 1 ∷ 2 ∷ 3 ∷ 1 ∷ []) 3 (chained 255 255)) other_14
    ∷ from_used (figures (0 ∷ 2 ∷ 1 ∷ 1 ∷ 2 ∷ 3 ∷ 1 ∷ []) 3 (chained 255 255)) (goes 0 (figures (0 ∷ 2 ∷ 1 ∷ 1 ∷ 2 ∷ 3 ∷ 1 ∷ []) 3 (chained 255 255)))
    -- line 9: myPredNode is null, its own, another's
    ∷ from_used (figures (linking 9 255) 1 (chained 255 255)) meets_null
    ∷ from_used (figures (linking 9 0) 1 (chained 255 255)) (goes 0 (figures (linking 10 0) 1 ((0, 1) ∷ (0, 255) ∷ (0, 255) ∷ (0, 255) ∷ [])))
    ∷ from_used (figures (linking 9 3) 1 (chained 255 255)) (goes 1 (figures (linking 10 3) 1 (chained 1 255)))
    -- the counter at h: at 15 that is 14, at 14 not
    ∷ from_used (figures (at 15 3 1) 3 (chained 255 255)) other_14
    ∷ from_used (figures (at 14 3 1) 3 (chained 255 255)) (goes 0 (figures (at 15 3 1) 3 (chained 255 255)))
    -- an empty req at 16, an empty ret at 12, 24 and 28
    ∷ from_unused (figures (at 16 3 1) 3 (chained 255 255)) other_14
    ∷ from_unused (figures (at 12 3 1) 3 (chained 255 255)) other_14
    ∷ from_unused (figures (at 24 3 1) 3 (chained 255 255)) other_14
    ∷ from_unused (figures (at 28 3 1) 3 (chained 255 255)) other_14
    -- line 19: no next; a next without one; one with one, the counter below h and at h
    ∷ from_used (figures (at 19 3 0) 3 (chained 255 255)) (goes 1 (figures (at 20 3 0) 3 (chained 255 255)))
    ∷ from_used (figures (at 19 3 0) 3 (chained 0 255)) (goes 2 (figures (at 20 3 0) 3 (chained 0 255)))
    ∷ from_used (figures (at 19 3 0) 3 (chained 2 3)) (goes 3 (figures (at 21 3 0) 3 (chained 2 3)))
    ∷ from_used (figures (at 19 3 1) 3 (chained 2 3)) (goes 3 (figures (at 20 3 1) 3 (chained 2 3)))
    -- line 21: null into tmpNode, and a node
    ∷ from_used (figures (at 21 3 0) 3 (chained 255 255)) meets_null
    ∷ from_used (figures (at 21 3 0) 3 (chained 2 255)) (goes 1 (figures (at 14 2 0) 3 (chained 2 255)))
    -- line 23: Tail is null, tmpNode, myNode
    ∷ from_used (figures (at 23 3 1) 255 (chained 255 255)) (goes 1 (figures (at 25 3 1) 255 (chained 255 255)))
    ∷ from_used (figures (at 23 3 1) 3 (chained 255 255)) (goes 1 (figures (at 24 3 1) 255 (chained 255 255)))
    ∷ from_used (figures (at 23 3 1) 1 (chained 255 255)) (goes 1 (figures (at 25 3 1) 1 (chained 255 255)))
    -- line 25 at another's node, where each spin is remote
    ∷ from_used (figures (at 25 3 1) 1 (chained 255 255)) (goes 1 (figures (at 25 3 1) 1 (chained 255 255)))
    -- line 26: the next is null, its own node, another's, the node itself
    ∷ from_used (figures (at 26 3 1) 1 (waiting 255)) meets_null
    ∷ from_used (figures (at 26 3 1) 1 (waiting 1)) (goes 1 (figures (at 27 3 1) 1 ((1, 255) ∷ (0, 255) ∷ (1, 255) ∷ (1, 1) ∷ [])))
    ∷ from_used (figures (at 26 3 1) 1 (waiting 2)) (goes 2 (figures (at 27 3 1) 1 ((1, 255) ∷ (1, 255) ∷ (0, 255) ∷ (1, 2) ∷ [])))
    ∷ from_used (figures (at 26 3 1) 1 (waiting 3)) (goes 2 (figures (at 27 3 1) 1 ((1, 255) ∷ (1, 255) ∷ (1, 255) ∷ (0, 3) ∷ [])))
    -- there is no line 29
    ∷ from_used (figures (at 29 3 1) 1 (chained 255 255)) other_14
    ∷ []
