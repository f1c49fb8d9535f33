-- What a printed line of DSM-Synch does to its thread, to the node that it writes and to Tail: Algorithm 2 of source 004, line by line.
use Rattle.std.specs.Prelude.{ℕ, ◌+◌, ◌-◌, Bool, true, false, cond, ◌&&◌, ◌||◌, leb, ltb, eqb}
use Rattle.object.specs.declared.Request.{Request}
use Rattle.object.specs.declared.Answer.{Answer}
use Rattle.machine.specs.declared.NodeId.{NodeId}
use Rattle.machine.specs.declared.Node.{Node}
use Rattle.machine.specs.declared.Thread.{Thread}
use Rattle.machine.specs.Effect.{Effect}
use Rattle.machine.specs.Fields.{null, is_null, is_empty_req, is_empty_ret, with_req, with_ret, with_wait, with_completed, with_next}
use Rattle.machine.specs.Owners.{node_of}
use Rattle.machine.specs.Threads.{goes, with_my, with_pred, with_tmp, with_served, keeping, writing}
use Rattle.machine.specs.Lines.{line_run}
use Rattle.dsm_lines.specs.Lines.{Line, line_of, empties, following, L0, L1, L2, L3, L4, L5, L6, L7, L8, L9, L10, L11, L12, L13, L14, L15, L16, L17, L18, L19, L20, L21, L22, L23, L24, L25, L26, L27, L28}

-- line 1 adds 1 to the requests begun, sets the served counter to 0, toggles, and empties myNode, myPredNode and tmpNode
abbrev pub begins : Thread → ℕ → Thread
begins th line = record {
  count = th.count;
  begun = th.begun + 1;
  line = line;
  own = th.own;
  cur = th.cur;
  tmp = null;
  tmpnext = th.tmpnext;
  served = 0;
  toggle = 1 - th.toggle;
  my = null;
  pred = null;
}

-- the node that line 7's Swap assigns to its call: of Tail's, which it gives, and myNode, which it puts in, the latter
abbrev pub assigned : Thread → NodeId → NodeId
assigned th tail = th.my

-- line 16 uses the req of its node, lines 12, 24 and 28 the ret
abbrev pub uses_empty : Node → ℕ → Bool
uses_empty x line = eqb line 16 && is_empty_req x.req || (eqb line 12 || (eqb line 24 || eqb line 28)) && is_empty_ret x.ret

-- a line meets null where it needs a node: it would follow it, myPredNode at 9 and tmpNode→next at 26, or put it into tmpNode, at 21
abbrev pub meets_null : Thread → Node → ℕ → Bool
meets_null th x line = eqb line 9 && is_null th.pred || (eqb line 21 || eqb line 26) && is_null x.next

-- why the line of a thread in range is 14: it meets null, would take the requests begun past the count or the served counter past h, or uses an empty req or ret;
-- and past 28 there is no line to run
abbrev pub takes_out : Thread → Node → ℕ → ℕ → Bool
takes_out th x h line =
    meets_null th x line
    || ltb 28 line
    || eqb line 1 && leb th.count th.begun
    || eqb line 15 && leb h th.served
    || uses_empty x line

-- line 2 takes one of its thread's two nodes: a thread past the 16th has none, and a toggle above 1 names none. So it is 14 where the state is not judged; a state
-- in range has neither
abbrev pub no_node : ℕ → Thread → ℕ → Bool
no_node t th line = eqb line 2 && (leb 16 t || ltb 1 th.toggle)

abbrev pub is_refused : ℕ → Thread → Node → ℕ → ℕ → Bool
is_refused t th x h line = takes_out th x h line || no_node t th line

-- thread t, th; x, the node that its line points to, and y, the node behind x; and Tail
module _ (t : ℕ) (th : Thread) (x y : Node) (tail : NodeId) where
  abbrev pub keeps : Thread → Effect
  keeps = keeping x tail

  abbrev pub writes : Node → ℕ → Effect
  writes = writing th tail

  -- what a printed line does, by its statement, if its thread goes on to the line `on`; a blank leaves it where it is. The request is that of the thread's call, the
  -- answer the object's to the node's req. The node that is written is y at line 26, else x
  module _ (request : Request) (answer : Answer) (on : ℕ) where
    abbrev pub line_does : Line → Effect
    line_does L0 = keeps th
    line_does L1 = keeps (begins th on)  -- toggle = 1 - toggle
    line_does L2 = keeps (with_my th on (node_of t th.toggle))  -- myNode = MyNodes[toggle]
    line_does L3 = writes (with_wait x true) on  -- myNode→wait = TRUE
    line_does L4 = writes (with_completed x false) on  -- myNode→completed = FALSE
    line_does L5 = writes (with_next x null) on  -- myNode→next = null
    line_does L6 = writes (with_req x request) on  -- myNode→req = req
    line_does L7 = record { refusal = 0; thread = with_pred th on tail; node = x; tail = th.my }  -- myPredNode = Swap(Tail, myNode)
    line_does L8 = keeps (goes th on)  -- if (myPredNode ≠ null) {
    line_does L9 = writes (with_next x th.my) on  -- myPredNode→next = myNode
    line_does L10 = keeps (goes th on)  -- while (myNode→wait == TRUE) nop
    line_does L11 = keeps (goes th on)  -- if (myNode→completed == TRUE)
    line_does L12 = keeps (goes th on)  -- return myNode→ret }
    line_does L13 = keeps (with_tmp th on th.my)  -- tmpNode = myNode
    line_does L14 = keeps (goes th on)  -- while (TRUE) {
    line_does L15 = keeps (with_served th on (th.served + 1))  -- counter++
    line_does L16 = writes (with_ret x answer) on  -- apply tmpNode→req, store the return value to tmpNode→ret
    line_does L17 = writes (with_completed x true) on  -- tmpNode→completed = TRUE
    line_does L18 = writes (with_wait x false) on  -- tmpNode→wait = FALSE
    line_does L19 = keeps (goes th on)  -- if (tmpNode→next == null or tmpNode→next→next == null or counter ≥ h)
    line_does L20 = keeps (goes th on)  -- break
    line_does L21 = keeps (with_tmp th on x.next)  -- tmpNode = tmpNode→next }
    line_does L22 = keeps (goes th on)  -- if (tmpNode→next == null) {
    line_does L23 = record { refusal = 0; thread = goes th on; node = x; tail = cond (empties tail th.tmp) null tail }  -- if (CAS(Tail, tmpNode, null) == TRUE)
    line_does L24 = keeps (goes th on)  -- return myNode→ret
    line_does L25 = keeps (goes th on)  -- while (tmpNode→next == null) nop }
    line_does L26 = record { refusal = 0; thread = goes th on; node = with_wait y false; tail = tail }  -- tmpNode→next→wait = FALSE
    line_does L27 = writes (with_next x null) on  -- tmpNode→next = null
    line_does L28 = keeps (goes th on)  -- return myNode→ret

-- the same, with h
module _ (t : ℕ) (th : Thread) (x y : Node) (tail : NodeId) (h : ℕ) (request : Request) (answer : Answer) where
  -- what a printed line does: its thread goes on to the line that follows
  abbrev pub executed : Line → Effect
  executed l = line_does t th x y tail request answer (following x y th.pred (empties tail th.tmp) th.served h l) l

  -- a line that is refused is 14, with all as it was; the node is x, at line 26 too
  abbrev pub refused_effect : Effect
  refused_effect = record { refusal = 14; thread = th; node = x; tail = tail }

  -- what the thread's next line does
  abbrev pub effect_of : Effect
  effect_of = cond (is_refused t th x h (line_run th)) refused_effect (executed (line_of (line_run th)))
