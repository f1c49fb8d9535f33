-- The printed lines of Algorithm 2 of source 004, DSM-Synch: the accesses of each, the nodes that they go to, what an entry of it is, and the line that follows.
use Rattle.std.specs.Prelude.{ℕ, List, [], ◌∷◌, Bool, cond, ◌||◌, get_or, leb, eqb}
use Rattle.machine.specs.declared.NodeId.{NodeId}
use Rattle.machine.specs.declared.Node.{Node}
use Rattle.machine.specs.declared.Thread.{Thread}
use Rattle.machine.specs.declared.Field.TheVariants.{Req, Ret, Wait, Completed, Next}
use Rattle.machine.specs.declared.Event.{Event}
use Rattle.machine.specs.declared.Event.TheVariants.{Blank, CallBegins, Swaps, TurnBegins, Applies, TurnEnds, Returns, Spins, Other}
use Rattle.machine.specs.Accesses.{Access, read, write, swap, cas}
use Rattle.machine.specs.Fields.{is_null}

-- what an entry runs: one printed line, or none, L0, which is a blank (a thread whose next line is 0 is idle: it runs line 1, or none)
pub data Line : Type 0 where
  L0 : Line
  L1 : Line
  L2 : Line
  L3 : Line
  L4 : Line
  L5 : Line
  L6 : Line
  L7 : Line
  L8 : Line
  L9 : Line
  L10 : Line
  L11 : Line
  L12 : Line
  L13 : Line
  L14 : Line
  L15 : Line
  L16 : Line
  L17 : Line
  L18 : Line
  L19 : Line
  L20 : Line
  L21 : Line
  L22 : Line
  L23 : Line
  L24 : Line
  L25 : Line
  L26 : Line
  L27 : Line
  L28 : Line

-- the printed lines, 1 to 28
abbrev pub printed : List Line
printed =
    L1 ∷ L2 ∷ L3 ∷ L4 ∷ L5 ∷ L6 ∷ L7 ∷ L8 ∷ L9 ∷ L10 ∷ L11 ∷ L12 ∷ L13 ∷ L14 ∷ L15 ∷ L16 ∷ L17 ∷ L18 ∷ L19 ∷ L20 ∷ L21 ∷ L22 ∷ L23 ∷ L24 ∷ L25
    ∷ L26 ∷ L27 ∷ L28 ∷ []

-- the line of a number, and the number of a line; a blank has the number 0, and past 28 there is no line either
abbrev pub line_of : ℕ → Line
line_of k = get_or (L0 ∷ printed) k L0

abbrev pub number : Line → ℕ
number L0 = 0
number L1 = 1
number L2 = 2
number L3 = 3
number L4 = 4
number L5 = 5
number L6 = 6
number L7 = 7
number L8 = 8
number L9 = 9
number L10 = 10
number L11 = 11
number L12 = 12
number L13 = 13
number L14 = 14
number L15 = 15
number L16 = 16
number L17 = 17
number L18 = 18
number L19 = 19
number L20 = 20
number L21 = 21
number L22 = 22
number L23 = 23
number L24 = 24
number L25 = 25
number L26 = 26
number L27 = 27
number L28 = 28

-- line 23's CAS finds Tail at tmpNode, and sets it to null
abbrev pub empties : NodeId → NodeId → Bool
empties tail tmp = eqb tail.0 tmp.0

-- the table: the accesses of a line in the order printed, at most three; the thread gives the nodes, and x, the node that tmpNode points to, the one behind it.
-- A test that finds null reads no further: line 19 is one access or three. Lines 16 and 26 are two, 26 at tmpNode and at the node behind it
module _ (th : Thread) (x : Node) where
  abbrev pub accesses : Line → List Access
  accesses L0 = []
  accesses L1 = []
  accesses L2 = []
  accesses L3 = write th.my Wait ∷ []
  accesses L4 = write th.my Completed ∷ []
  accesses L5 = write th.my Next ∷ []
  accesses L6 = write th.my Req ∷ []
  accesses L7 = swap ∷ []
  accesses L8 = []
  accesses L9 = write th.pred Next ∷ []
  accesses L10 = read th.my Wait ∷ []
  accesses L11 = read th.my Completed ∷ []
  accesses L12 = read th.my Ret ∷ []
  accesses L13 = []
  accesses L14 = []
  accesses L15 = []
  accesses L16 = read th.tmp Req ∷ write th.tmp Ret ∷ []
  accesses L17 = write th.tmp Completed ∷ []
  accesses L18 = write th.tmp Wait ∷ []
  accesses L19 = read th.tmp Next ∷ cond (is_null x.next) [] (read th.tmp Next ∷ read x.next Next ∷ [])
  accesses L20 = []
  accesses L21 = read th.tmp Next ∷ []
  accesses L22 = read th.tmp Next ∷ []
  accesses L23 = cas ∷ []
  accesses L24 = read th.my Ret ∷ []
  accesses L25 = read th.tmp Next ∷ []
  accesses L26 = read th.tmp Next ∷ write x.next Wait ∷ []
  accesses L27 = write th.tmp Next ∷ []
  accesses L28 = read th.my Ret ∷ []

-- the node that a line points to, x in the rest: the first that it reads or writes; a line that accesses none has myNode, which may be null, or tmpNode, and
-- leaves it
abbrev pub pointed : Thread → Line → NodeId
pointed th L0 = th.my
pointed th L1 = th.my
pointed th L2 = th.my
pointed th L3 = th.my
pointed th L4 = th.my
pointed th L5 = th.my
pointed th L6 = th.my
pointed th L7 = th.my
pointed th L8 = th.my
pointed th L9 = th.pred
pointed th L10 = th.my
pointed th L11 = th.my
pointed th L12 = th.my
pointed th L13 = th.my
pointed th L14 = th.tmp
pointed th L15 = th.tmp
pointed th L16 = th.tmp
pointed th L17 = th.tmp
pointed th L18 = th.tmp
pointed th L19 = th.tmp
pointed th L20 = th.tmp
pointed th L21 = th.tmp
pointed th L22 = th.tmp
pointed th L23 = th.tmp
pointed th L24 = th.my
pointed th L25 = th.tmp
pointed th L26 = th.tmp
pointed th L27 = th.tmp
pointed th L28 = th.my

-- the node that a line writes, if it writes one, apart from those that it reads: line 26 writes the one behind tmpNode's
abbrev pub target : Thread → Node → Line → NodeId
target th x l = cond (eqb (number l) 26) x.next (pointed th l)

-- what an entry of a line is, by what it finds: x, and whether line 23's CAS succeeds. Lines 10 and 25 spin where they stay; a turn begins with 13, and ends with 26
-- or with a CAS that succeeds
abbrev pub event_in : Node → Bool → Line → Event
event_in x emptied L0 = Blank
event_in x emptied L1 = CallBegins
event_in x emptied L2 = Other
event_in x emptied L3 = Other
event_in x emptied L4 = Other
event_in x emptied L5 = Other
event_in x emptied L6 = Other
event_in x emptied L7 = Swaps
event_in x emptied L8 = Other
event_in x emptied L9 = Other
event_in x emptied L10 = cond x.wait Spins Other
event_in x emptied L11 = Other
event_in x emptied L12 = Returns
event_in x emptied L13 = TurnBegins
event_in x emptied L14 = Other
event_in x emptied L15 = Other
event_in x emptied L16 = Applies
event_in x emptied L17 = Other
event_in x emptied L18 = Other
event_in x emptied L19 = Other
event_in x emptied L20 = Other
event_in x emptied L21 = Other
event_in x emptied L22 = Other
event_in x emptied L23 = cond emptied TurnEnds Other
event_in x emptied L24 = Returns
event_in x emptied L25 = cond (is_null x.next) Spins Other
event_in x emptied L26 = TurnEnds
event_in x emptied L27 = Other
event_in x emptied L28 = Returns

-- the line that follows a line, by what it finds: x, y, the node behind it, myPredNode, whether line 23's CAS succeeds, the served counter and h. 0 is idle
module _ (x y : Node) (pred : NodeId) (emptied : Bool) (served h : ℕ) where
  abbrev pub following : Line → ℕ
  following L0 = 0  -- a blank
  following L1 = 2
  following L2 = 3
  following L3 = 4
  following L4 = 5
  following L5 = 6
  following L6 = 7
  following L7 = 8
  following L8 = cond (is_null pred) 13 9  -- if (myPredNode ≠ null) {
  following L9 = 10
  following L10 = cond x.wait 10 11  -- while (myNode→wait == TRUE) nop
  following L11 = cond x.completed 12 13  -- if (myNode→completed == TRUE)
  following L12 = 0  -- return
  following L13 = 14
  following L14 = 15
  following L15 = 16
  following L16 = 17
  following L17 = 18
  following L18 = 19
  following L19 = cond (is_null x.next || (is_null y.next || leb h served)) 20 21  -- if (tmpNode→next == null or tmpNode→next→next == null or counter ≥ h)
  following L20 = 22  -- break
  following L21 = 14  -- the end of the loop's body: the loop again
  following L22 = cond (is_null x.next) 23 26  -- if (tmpNode→next == null) {
  following L23 = cond emptied 24 25  -- if (CAS(Tail, tmpNode, null) == TRUE)
  following L24 = 0  -- return
  following L25 = cond (is_null x.next) 25 26  -- while (tmpNode→next == null) nop }
  following L26 = 27
  following L27 = 28
  following L28 = 0  -- return
