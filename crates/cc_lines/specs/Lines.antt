-- The printed lines of Algorithm 1 of source 004: the table of document 01, 'One entry, one line', field and access of each, and the line that follows.
use Rattle.std.specs.Prelude.{ℕ, List, [], ◌∷◌, cond, not, ◌&&◌, get_or, ltb}
use Rattle.machine.specs.declared.Node.{Node}
use Rattle.machine.specs.declared.Thread.{Thread}
use Rattle.machine.specs.declared.Pointer.TheVariants.{Own, Cur, Tmp}
use Rattle.machine.specs.declared.Field.TheVariants.{Req, Ret, Wait, Completed, Next}
use Rattle.machine.specs.declared.SharedAccess.TheVariants.{Read, Write, Swap}
use Rattle.machine.specs.declared.Event.{Event}
use Rattle.machine.specs.declared.Event.TheVariants.{Blank, CallBegins, Swaps, TurnBegins, Applies, TurnEnds, Returns, Spins, Other}
use Rattle.machine.specs.declared.PrintedLine.{PrintedLine}
use Rattle.machine.specs.declared.PrintedLine.TheVariants.{Local, One, Two}
use Rattle.machine.specs.declared.Row.{Row}
use Rattle.machine.specs.Accesses.{Access, pointed, row_from, accesses_of}
use Rattle.machine.specs.Fields.{is_null}

-- what an entry runs: one printed line, or none, L0, which is a blank (a thread whose next line is 0 is idle: it runs line 1, or none)
pub data Line : Type 0 where
  L0 : Line
  L1 : Line
  L2 : Line
  L3 : Line
  L4 : Line
  L5 : Line
  L6 : Line
  L7 : Line
  L8 : Line
  L9 : Line
  L10 : Line
  L11 : Line
  L12 : Line
  L13 : Line
  L14 : Line
  L15 : Line
  L16 : Line
  L17 : Line
  L18 : Line
  L19 : Line
  L20 : Line
  L21 : Line

-- the printed lines, 1 to 21
abbrev pub printed : List Line
printed = L1 ∷ L2 ∷ L3 ∷ L4 ∷ L5 ∷ L6 ∷ L7 ∷ L8 ∷ L9 ∷ L10 ∷ L11 ∷ L12 ∷ L13 ∷ L14 ∷ L15 ∷ L16 ∷ L17 ∷ L18 ∷ L19 ∷ L20 ∷ L21 ∷ []

-- the line of a number, and the number of a line; a blank has the number 0, and past 21 there is no line either
abbrev pub line_of : ℕ → Line
line_of k = get_or (L0 ∷ printed) k L0

abbrev pub number : Line → ℕ
number L0 = 0
number L1 = 1
number L2 = 2
number L3 = 3
number L4 = 4
number L5 = 5
number L6 = 6
number L7 = 7
number L8 = 8
number L9 = 9
number L10 = 10
number L11 = 11
number L12 = 12
number L13 = 13
number L14 = 14
number L15 = 15
number L16 = 16
number L17 = 17
number L18 = 18
number L19 = 19
number L20 = 20
number L21 = 21

-- the table: the node that a line points to, its shared accesses in order, and what an entry of it is. Line 16 is two accesses; a line without access has the own
-- node, and leaves it. `Spins` is said of a line that may: an entry of it is a spin where it stays
abbrev pub printed_line : Line → PrintedLine
printed_line L0 = Local Own Blank
printed_line L1 = Local Own CallBegins
printed_line L2 = One Own (Write Next) Other
printed_line L3 = One Own (Write Wait) Other
printed_line L4 = One Own (Write Completed) Other
printed_line L5 = One Own Swap Swaps
printed_line L6 = One Cur (Write Req) Other
printed_line L7 = One Cur (Write Next) Other
printed_line L8 = Local Own Other
printed_line L9 = One Cur (Read Wait) Spins
printed_line L10 = One Cur (Read Completed) Other
printed_line L11 = One Cur (Read Ret) Returns
printed_line L12 = Local Own TurnBegins
printed_line L13 = One Tmp (Read Next) Other
printed_line L14 = Local Own Other
printed_line L15 = One Tmp (Read Next) Other
printed_line L16 = Two Tmp (Read Req) (Write Ret) Applies
printed_line L17 = One Tmp (Write Completed) Other
printed_line L18 = One Tmp (Write Wait) Other
printed_line L19 = Local Own Other
printed_line L20 = One Tmp (Write Wait) TurnEnds
printed_line L21 = One Cur (Read Ret) Returns

abbrev pub row_of : Line → Row
row_of l = row_from (printed_line l)

-- the accesses of a line, in order; the thread gives the nodes. No line goes behind its node, so what stands there is not looked at: `behind_unread` in
-- proofs/Table.antt
abbrev pub accesses_by : Thread → Line → List Access
accesses_by th l = let m = pointed (row_of l).node th in accesses_of (row_of l) m m

-- the line that follows a line, by what it finds: the node that it points to, the served counter and h. 0 is idle
module _ (x : Node) (served h : ℕ) where
  abbrev pub following : Line → ℕ
  following L0 = 0  -- a blank
  following L1 = 2
  following L2 = 3
  following L3 = 4
  following L4 = 5
  following L5 = 6
  following L6 = 7
  following L7 = 8
  following L8 = 9
  following L9 = cond x.wait 9 10  -- while (curNode→wait == TRUE) nop
  following L10 = cond x.completed 11 12  -- if (curNode→completed == TRUE)
  following L11 = 0  -- return
  following L12 = 13
  following L13 = cond (not (is_null x.next) && ltb served h) 14 20  -- while (tmpNode→next ≠ null AND counter < h)
  following L14 = 15
  following L15 = 16
  following L16 = 17
  following L17 = 18
  following L18 = 19
  following L19 = 13  -- the end of the loop's body: its test again
  following L20 = 21
  following L21 = 0  -- return

-- what an entry of a row is: as the row has it, but a spin only where the line finds wait true; that it then stays, and no other entry does, is `spin_follows`
-- in proofs/Follows.antt
abbrev pub event_in : Event → Node → Event
event_in Blank x = Blank
event_in CallBegins x = CallBegins
event_in Swaps x = Swaps
event_in TurnBegins x = TurnBegins
event_in Applies x = Applies
event_in TurnEnds x = TurnEnds
event_in Returns x = Returns
event_in Spins x = cond x.wait Spins Other
event_in Other x = Other
