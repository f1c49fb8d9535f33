-- The printed lines of Algorithm 2 once more, as a table in the form that both methods have: a row for each. What Lines.antt says of a line is what its row says, by
-- the laws in proofs/Rows.antt.
use Rattle.machine.specs.declared.Pointer.TheVariants.{Tmp, My, Pred}
use Rattle.machine.specs.declared.Field.TheVariants.{Req, Ret, Wait, Completed, Next}
use Rattle.machine.specs.declared.SharedAccess.TheVariants.{Read, Write, Swap, Cas, ReadBehind, WriteBehind}
use Rattle.machine.specs.declared.Event.TheVariants.{Blank, CallBegins, Swaps, TurnBegins, Applies, TurnEnds, Returns, Spins, Other}
use Rattle.machine.specs.declared.PrintedLine.{PrintedLine}
use Rattle.machine.specs.declared.PrintedLine.TheVariants.{Local, One, Two, Three}
use Rattle.machine.specs.declared.Row.{Row}
use Rattle.machine.specs.Accesses.{row_from}
use Rattle.dsm_lines.specs.Lines.{Line, L0, L1, L2, L3, L4, L5, L6, L7, L8, L9, L10, L11, L12, L13, L14, L15, L16, L17, L18, L19, L20, L21, L22, L23, L24, L25, L26, L27, L28}

-- the node that a line points to, its shared accesses in order, and what an entry of it is. `Spins` is said of a line that may, and `TurnEnds` of line 23, whose entry
-- is that if the CAS succeeds
abbrev pub printed_line : Line → PrintedLine
printed_line L0 = Local My Blank
printed_line L1 = Local My CallBegins
printed_line L2 = Local My Other
printed_line L3 = One My (Write Wait) Other
printed_line L4 = One My (Write Completed) Other
printed_line L5 = One My (Write Next) Other
printed_line L6 = One My (Write Req) Other
printed_line L7 = One My Swap Swaps
printed_line L8 = Local My Other
printed_line L9 = One Pred (Write Next) Other
printed_line L10 = One My (Read Wait) Spins
printed_line L11 = One My (Read Completed) Other
printed_line L12 = One My (Read Ret) Returns
printed_line L13 = Local My TurnBegins
printed_line L14 = Local Tmp Other
printed_line L15 = Local Tmp Other
printed_line L16 = Two Tmp (Read Req) (Write Ret) Applies
printed_line L17 = One Tmp (Write Completed) Other
printed_line L18 = One Tmp (Write Wait) Other
printed_line L19 = Three Tmp (Read Next) (Read Next) (ReadBehind Next) Other
printed_line L20 = Local Tmp Other
printed_line L21 = One Tmp (Read Next) Other
printed_line L22 = One Tmp (Read Next) Other
printed_line L23 = One Tmp Cas TurnEnds
printed_line L24 = One My (Read Ret) Returns
printed_line L25 = One Tmp (Read Next) Spins
printed_line L26 = Two Tmp (Read Next) (WriteBehind Wait) TurnEnds
printed_line L27 = One Tmp (Write Next) Other
printed_line L28 = One My (Read Ret) Returns

abbrev pub row_of : Line → Row
row_of l = row_from (printed_line l)
