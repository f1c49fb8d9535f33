-- Algorithm 2's printed lines by their numbers, a second time, with document 02's words, No. 6: table, events and the line that follows are held against them.
use Rattle.std.specs.Prelude.{ℕ, List, [], ◌∷◌, Bool, cond, ◌||◌, leb}
use Rattle.machine.specs.declared.Node.{Node}
use Rattle.machine.specs.declared.Thread.{Thread}
use Rattle.machine.specs.declared.NodeId.{NodeId}
use Rattle.machine.specs.declared.Field.TheVariants.{Req, Ret, Wait, Completed, Next}
use Rattle.machine.specs.declared.Event.{Event}
use Rattle.machine.specs.declared.Event.TheVariants.{CallBegins, Swaps, TurnBegins, Applies, TurnEnds, Returns, Spins, Other}
use Rattle.machine.specs.Fields.{is_null}
use Rattle.machine.specs.Accesses.{Access, read, write, swap, cas}

-- the accesses, "left to right as printed, .. and those that the printed test doesn't reach aren't made"; the thread gives the nodes, x is the one that tmpNode
-- points to, and next its tmpNode→next
module _ (th : Thread) (x : Node) where
  abbrev my_node : NodeId
  my_node = th.my

  abbrev my_pred_node : NodeId
  my_pred_node = th.pred

  abbrev tmp_node : NodeId
  tmp_node = th.tmp

  abbrev next : NodeId
  next = x.next

  abbrev pub shared_accesses : List (ℕ × List Access)
  shared_accesses =
      (1, []) ∷ (2, []) ∷ (8, []) ∷ (13, []) ∷ (14, []) ∷ (15, []) ∷ (20, [])
      ∷ (3, write my_node Wait ∷ []) ∷ (4, write my_node Completed ∷ []) ∷ (5, write my_node Next ∷ []) ∷ (6, write my_node Req ∷ [])
      ∷ (7, swap ∷ []) ∷ (23, cas ∷ [])
      ∷ (9, write my_pred_node Next ∷ [])
      ∷ (10, read my_node Wait ∷ [])
      ∷ (11, read my_node Completed ∷ [])
      ∷ (12, read my_node Ret ∷ []) ∷ (24, read my_node Ret ∷ []) ∷ (28, read my_node Ret ∷ [])
      ∷ (16, read tmp_node Req ∷ write tmp_node Ret ∷ [])
      ∷ (17, write tmp_node Completed ∷ []) ∷ (18, write tmp_node Wait ∷ [])
      ∷ (19, cond (is_null next) (read tmp_node Next ∷ []) (read tmp_node Next ∷ read tmp_node Next ∷ read next Next ∷ []))
      ∷ (21, read tmp_node Next ∷ []) ∷ (22, read tmp_node Next ∷ []) ∷ (25, read tmp_node Next ∷ [])
      ∷ (26, read tmp_node Next ∷ write next Wait ∷ [])
      ∷ (27, write tmp_node Next ∷ [])
      ∷ []

-- what is said of an entry by its line's number: line 1 begins a call, 7 is the Swap, "a spin is an entry that runs a waiting loop's test and stays", at 10 or 25,
-- "a turn begins with line 13 and ends with the line that clears the next owner's wait", 26, "or whose CAS succeeds", 23, 16 applies, and a call has returned
-- with 12, 24 or 28; of any other line nothing
module _ (x : Node) (emptied : Bool) where
  abbrev pub said_events : List (ℕ × Event)
  said_events =
      (1, CallBegins) ∷ (7, Swaps)
      ∷ (10, cond x.wait Spins Other) ∷ (25, cond (is_null x.next) Spins Other)
      ∷ (13, TurnBegins) ∷ (26, TurnEnds) ∷ (23, cond emptied TurnEnds Other)
      ∷ (16, Applies)
      ∷ (12, Returns) ∷ (24, Returns) ∷ (28, Returns)
      ∷ []

  -- and of the line that follows: those with a test, the returns, the break, and the loop's end; any other line is followed by the next one printed. y is the node
  -- behind x
  abbrev pub said_following : Node → NodeId → ℕ → ℕ → List (ℕ × ℕ)
  said_following y pred served h =
      (8, cond (is_null pred) 13 9)
      ∷ (10, cond x.wait 10 11)
      ∷ (11, cond x.completed 12 13)
      ∷ (12, 0) ∷ (24, 0) ∷ (28, 0)
      ∷ (19, cond (is_null x.next || (is_null y.next || leb h served)) 20 21)
      ∷ (20, 22)
      ∷ (21, 14)
      ∷ (22, cond (is_null x.next) 23 26)
      ∷ (23, cond emptied 24 25)
      ∷ (25, cond (is_null x.next) 25 26)
      ∷ []
