-- What a line does, by document 01's numbers: refusal 0 with its thread, the node that it writes, if it writes one, and Tail after it, or 14 with all as it was.
use Rattle.std.specs.Prelude.{ℕ, Result, Ok, Err}
use Rattle.refusal.specs.declared.Refusal.{Refusal}
use Rattle.refusal.specs.Numbers.{number}
use Rattle.machine.specs.declared.NodeId.{NodeId}
use Rattle.machine.specs.declared.Node.{Node}
use Rattle.machine.specs.declared.Thread.{Thread}
use Rattle.machine.specs.declared.After.{After}

pub record Effect : Type 0 where
  pub refusal : ℕ
  pub thread : Thread
  pub node : Node
  pub tail : NodeId

-- of a line that is not refused
abbrev pub done : After → Effect
done after = record { refusal = 0; thread = after.thread; node = after.node; tail = after.tail }

-- what is answered of a line, with its thread, the node that it points to, and Tail before it
abbrev pub as_effect : Thread → Node → NodeId → Result After Refusal → Effect
as_effect th x tail (Ok after) = done after
as_effect th x tail (Err refusal) = record { refusal = number refusal; thread = th; node = x; tail = tail }
