-- What a printed line does to its thread, to the node that it points to and to Tail: Algorithm 1 of source 004, line by line.
use Rattle.std.specs.Prelude.{ℕ, ◌+◌, ◌%◌, Bool, true, false, cond, ◌&&◌, ◌||◌, ◌==◌, nat_le, nat_lt}
use Rattle.object.specs.declared.Request.{Request}
use Rattle.object.specs.declared.Answer.{Answer}
use Rattle.machine.specs.declared.NodeId.{NodeId}
use Rattle.machine.specs.declared.Node.{Node}
use Rattle.machine.specs.declared.Thread.{Thread}
use Rattle.machine.specs.Effect.{Effect}
use Rattle.machine.specs.Fields.{null, is_null, is_empty_req, is_empty_ret, with_req, with_ret, with_wait, with_completed, with_next}
use Rattle.cc_lines.specs.Lines.{Line, line_of, following, L0, L1, L2, L3, L4, L5, L6, L7, L8, L9, L10, L11, L12, L13, L14, L15, L16, L17, L18, L19, L20, L21}
use Rattle.machine.specs.Lines.{line_run}
use Rattle.machine.specs.Threads.{goes, with_own, with_cur, with_tmp, with_tmpnext, with_served, keeping, writing}

-- line 1 adds 1 to the requests begun, sets the served counter to 0 and curNode, tmpNode and tmpNodeNext to null
abbrev pub begins : Thread → ℕ → Thread
begins th line = record {
  count = th.count;
  begun = th.begun + 1;
  line = line;
  own = th.own;
  cur = null;
  tmp = null;
  tmpnext = null;
  served = 0;
  toggle = th.toggle;
  my = th.my;
  pred = th.pred;
}

-- line 16 uses the req of its node, lines 11 and 21 the ret
abbrev pub uses_empty : Node → ℕ → Bool
uses_empty x line = line == 16 && is_empty_req x.req || (line == 11 || line == 21) && is_empty_ret x.ret

-- why the line of a thread in range is 14: it would take the requests begun past the count or the served counter past h, or put null into
-- tmpNode, or it uses an empty req or ret; and past 21 there is no line to run
abbrev pub takes_out : Thread → Node → ℕ → ℕ → Bool
takes_out th x h line =
    nat_lt 21 line
    || line == 1 && nat_le th.count th.begun
    || line == 14 && nat_le h th.served
    || line == 19 && is_null th.tmpnext
    || uses_empty x line

-- what a line does, in numbers of 8 bits: requests begun and served counter modulo 256
abbrev pub wrapped : Effect → Effect
wrapped e = record {
  refusal = e.refusal;
  thread = record {
    count = e.thread.count;
    begun = e.thread.begun % 256;
    line = e.thread.line;
    own = e.thread.own;
    cur = e.thread.cur;
    tmp = e.thread.tmp;
    tmpnext = e.thread.tmpnext;
    served = e.thread.served % 256;
    toggle = e.thread.toggle;
    my = e.thread.my;
    pred = e.thread.pred;
  };
  node = e.node;
  tail = e.tail;
}

-- the thread, the node that it points to, and Tail
module _ (th : Thread) (x : Node) (tail : NodeId) where
  abbrev pub keeps : Thread → Effect
  keeps = keeping x tail

  abbrev pub writes : Node → ℕ → Effect
  writes = writing th tail

  -- what a printed line does, by its statement, if its thread goes on to the line `on`; a blank leaves it where it is. The request is that of the
  -- thread's call, the answer the object's to the node's req; nextNode is the thread's own node until line 8
  module _ (request : Request) (answer : Answer) (on : ℕ) where
    abbrev pub line_does : Line → Effect
    line_does L0 = keeps th
    line_does L1 = keeps (begins th on)  -- nextNode = node_i
    line_does L2 = writes (with_next x null) on  -- nextNode→next = null
    line_does L3 = writes (with_wait x true) on  -- nextNode→wait = TRUE
    line_does L4 = writes (with_completed x false) on  -- nextNode→completed = FALSE
    line_does L5 = record { refusal = 0; thread = with_cur th on tail; node = x; tail = th.own }  -- curNode = Swap(Tail, nextNode)
    line_does L6 = writes (with_req x request) on  -- curNode→req = req
    line_does L7 = writes (with_next x th.own) on  -- curNode→next = nextNode
    line_does L8 = keeps (with_own th on th.cur)  -- node_i = curNode
    line_does L9 = keeps (goes th on)  -- while (curNode→wait == TRUE) nop
    line_does L10 = keeps (goes th on)  -- if (curNode→completed == TRUE)
    line_does L11 = keeps (goes th on)  -- return curNode→ret
    line_does L12 = keeps (with_tmp th on th.cur)  -- tmpNode = curNode
    line_does L13 = keeps (goes th on)  -- while (tmpNode→next ≠ null AND counter < h)
    line_does L14 = keeps (with_served th on (th.served + 1))  -- counter = counter + 1
    line_does L15 = keeps (with_tmpnext th on x.next)  -- tmpNodeNext = tmpNode→next
    line_does L16 = writes (with_ret x answer) on  -- apply tmpNode→req, store the return value to tmpNode→ret
    line_does L17 = writes (with_completed x true) on  -- tmpNode→completed = TRUE
    line_does L18 = writes (with_wait x false) on  -- tmpNode→wait = FALSE
    line_does L19 = keeps (with_tmp th on th.tmpnext)  -- tmpNode = tmpNodeNext
    line_does L20 = writes (with_wait x false) on  -- tmpNode→wait = FALSE
    line_does L21 = keeps (goes th on)  -- return curNode→ret

-- the thread, the node that it points to and Tail; h; the request of the thread's call, and the object's answer to the node's req
module _ (th : Thread) (x : Node) (tail : NodeId) (h : ℕ) (request : Request) (answer : Answer) where
  -- what a printed line does: its thread goes on to the line that follows
  abbrev pub executed : Line → Effect
  executed l = line_does th x tail request answer (following x th.served h l) l

  -- a line that takes something out is 14, with all as it was
  abbrev pub refused_effect : Effect
  refused_effect = record { refusal = 14; thread = th; node = x; tail = tail }

  -- what the thread's next line does
  abbrev pub effect_of : Effect
  effect_of = cond (takes_out th x h (line_run th)) refused_effect (executed (line_of (line_run th)))
