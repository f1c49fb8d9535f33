-- Document 01's words on the printed lines, by their numbers, a second time: the table and the line that follows are held against them.
use Rattle.std.specs.Prelude.{ℕ, List, [], ◌∷◌, cond, not, ◌&&◌, ltb}
use Rattle.machine.specs.declared.Node.{Node}
use Rattle.machine.specs.declared.Thread.{Thread}
use Rattle.machine.specs.declared.NodeId.{NodeId}
use Rattle.machine.specs.declared.Field.TheVariants.{Req, Ret, Wait, Completed, Next}
use Rattle.machine.specs.declared.Event.{Event}
use Rattle.machine.specs.declared.Event.TheVariants.{CallBegins, Swaps, TurnBegins, Applies, TurnEnds, Returns, Spins}
use Rattle.machine.specs.Fields.{is_null}
use Rattle.machine.specs.Accesses.{Access, read, write, swap}

-- the table as document 01 prints it, one of its rows to a line here: the lines by number, each with its shared accesses; the thread gives the nodes
module _ (th : Thread) where
  abbrev own : NodeId
  own = th.own

  abbrev cur_node : NodeId
  cur_node = th.cur

  abbrev tmp_node : NodeId
  tmp_node = th.tmp

  abbrev pub shared_accesses : List (ℕ × List Access)
  shared_accesses =
      (1, []) ∷ (8, []) ∷ (12, []) ∷ (14, []) ∷ (19, [])
      ∷ (2, write own Next ∷ []) ∷ (3, write own Wait ∷ []) ∷ (4, write own Completed ∷ [])
      ∷ (5, swap ∷ [])
      ∷ (6, write cur_node Req ∷ []) ∷ (7, write cur_node Next ∷ [])
      ∷ (9, read cur_node Wait ∷ [])
      ∷ (10, read cur_node Completed ∷ [])
      ∷ (11, read cur_node Ret ∷ []) ∷ (21, read cur_node Ret ∷ [])
      ∷ (13, read tmp_node Next ∷ [])
      ∷ (15, read tmp_node Next ∷ [])
      ∷ (16, read tmp_node Req ∷ write tmp_node Ret ∷ [])
      ∷ (17, write tmp_node Completed ∷ []) ∷ (18, write tmp_node Wait ∷ [])
      ∷ (20, write tmp_node Wait ∷ [])
      ∷ []

-- and what document 01 says of an entry by its line's number: line 1 begins a call, 5 is the Swap, 9 may spin, a turn begins with 12 and ends with 20,
-- 16 applies, and a call has returned with 11 or 21; of any other line nothing
abbrev pub said_events : List (ℕ × Event)
said_events =
    (1, CallBegins) ∷ (5, Swaps) ∷ (9, Spins) ∷ (12, TurnBegins) ∷ (20, TurnEnds) ∷ (16, Applies) ∷ (11, Returns) ∷ (21, Returns) ∷ []

-- and of the line that follows: 9 stays at 9 or goes to 10, 10 goes to 11 or 12, 11 and 21 leave the thread idle, 13 goes on to 14 or else to 20, 19 leads
-- to 13; any other line is followed by the next one printed
module _ (x : Node) (served h : ℕ) where
  abbrev pub said_following : List (ℕ × ℕ)
  said_following =
      (9, cond x.wait 9 10)
      ∷ (10, cond x.completed 11 12)
      ∷ (11, 0) ∷ (21, 0)
      ∷ (13, cond (not (is_null x.next) && ltb served h) 14 20)
      ∷ (19, 13)
      ∷ []
