-- A thread that goes on to a line, with a variable set, and what a line does that writes no node, or its node alone: by either method.
use Rattle.std.specs.Prelude.{ℕ}
use Rattle.machine.specs.declared.NodeId.{NodeId}
use Rattle.machine.specs.declared.Node.{Node}
use Rattle.machine.specs.declared.Thread.{Thread}
use Rattle.machine.specs.Effect.{Effect}

module _ (th : Thread) (line : ℕ) where
  -- it goes on with these variables
  abbrev pub having : NodeId → NodeId → NodeId → NodeId → ℕ → NodeId → NodeId → Thread
  having own cur tmp tmpnext served my pred = record {
    count = th.count;
    begun = th.begun;
    line = line;
    own = own;
    cur = cur;
    tmp = tmp;
    tmpnext = tmpnext;
    served = served;
    toggle = th.toggle;
    my = my;
    pred = pred;
  }

  abbrev pub goes : Thread
  goes = having th.own th.cur th.tmp th.tmpnext th.served th.my th.pred

  -- one of them set
  abbrev pub with_own : NodeId → Thread
  with_own own = having own th.cur th.tmp th.tmpnext th.served th.my th.pred

  abbrev pub with_cur : NodeId → Thread
  with_cur cur = having th.own cur th.tmp th.tmpnext th.served th.my th.pred

  abbrev pub with_tmp : NodeId → Thread
  with_tmp tmp = having th.own th.cur tmp th.tmpnext th.served th.my th.pred

  abbrev pub with_tmpnext : NodeId → Thread
  with_tmpnext tmpnext = having th.own th.cur th.tmp tmpnext th.served th.my th.pred

  abbrev pub with_served : ℕ → Thread
  with_served served = having th.own th.cur th.tmp th.tmpnext served th.my th.pred

  abbrev pub with_my : NodeId → Thread
  with_my my = having th.own th.cur th.tmp th.tmpnext th.served my th.pred

  abbrev pub with_pred : NodeId → Thread
  with_pred pred = having th.own th.cur th.tmp th.tmpnext th.served th.my pred

-- an effect with its thread at a line
abbrev pub with_line : ℕ → Effect → Effect
with_line on e = record { refusal = e.refusal; thread = goes e.thread on; node = e.node; tail = e.tail }

-- neither the node that a line may write nor Tail changes
abbrev pub keeping : Node → NodeId → Thread → Effect
keeping x tail after = record { refusal = 0; thread = after; node = x; tail = tail }

-- the node is written, and the thread goes on to a line
abbrev pub writing : Thread → NodeId → Node → ℕ → Effect
writing th tail after line = record { refusal = 0; thread = goes th line; node = after; tail = tail }
