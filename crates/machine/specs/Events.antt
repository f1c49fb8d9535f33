-- What an entry is, by number, from its line's row and what the line finds, and what it tells by that.
use Rattle.std.specs.Prelude.{ℕ, Bool, true, false, cond, eqb, Option, None}
use Rattle.object.specs.declared.Request.{Request}
use Rattle.object.specs.declared.Answer.{Answer}
use Rattle.machine.specs.declared.NodeId.{NodeId}
use Rattle.machine.specs.declared.Node.{Node}
use Rattle.machine.specs.declared.Field.{Field}
use Rattle.machine.specs.declared.Field.TheVariants.{Req, Ret, Wait, Completed, Next}
use Rattle.machine.specs.declared.SharedAccess.{SharedAccess}
use Rattle.machine.specs.declared.SharedAccess.TheVariants.{NoAccess, Read, Write, Swap, Cas, ReadBehind, WriteBehind}
use Rattle.machine.specs.declared.Row.{Row}
use Rattle.machine.specs.declared.Event.{Event}
use Rattle.machine.specs.declared.Event.TheVariants.{Blank, CallBegins, Swaps, TurnBegins, Applies, TurnEnds, Returns, Spins, Other}
use Rattle.machine.specs.Fields.{null, is_null}

-- the number of an event, and whether two are one. The last two, a spin and one of which nothing is said, leave a thread's call where it is
abbrev pub event_number : Event → ℕ
event_number Blank = 0  -- an idle thread without a request
event_number CallBegins = 1  -- line 1 of a new call
event_number Swaps = 2  -- the call's place in Swap order
event_number TurnBegins = 3  -- its thread becomes the combiner
event_number Applies = 4  -- a request is served
event_number TurnEnds = 5  -- its thread is combiner no more
event_number Returns = 6  -- the call's last line
event_number Spins = 7  -- the thread waits, and stays
event_number Other = 8

abbrev pub same_event : Event → Event → Bool
same_event a b = eqb (event_number a) (event_number b)

-- whether a line that waits by an access stays: for wait while it is true, for next while it is null
abbrev pub stays_for : Field → Bool → Bool → Bool
stays_for Req wait last = false
stays_for Ret wait last = false
stays_for Wait wait last = wait
stays_for Completed wait last = false
stays_for Next wait last = last

abbrev pub stays : SharedAccess → Bool → Bool → Bool
stays NoAccess wait last = false
stays (Read field) wait last = stays_for field wait last
stays (Write field) wait last = false
stays Swap wait last = false
stays Cas wait last = false
stays (ReadBehind field) wait last = false
stays (WriteBehind field) wait last = false

abbrev pub is_cas : SharedAccess → Bool
is_cas NoAccess = false
is_cas (Read field) = false
is_cas (Write field) = false
is_cas Swap = false
is_cas Cas = true
is_cas (ReadBehind field) = false
is_cas (WriteBehind field) = false

-- the event of a line, by its first access and by what it finds: its node, and whether its CAS succeeds. A spin only where it stays, and the end of a turn by a CAS
-- only if that succeeds
abbrev pub found_by : Event → SharedAccess → Node → Bool → Event
found_by Blank first x emptied = Blank
found_by CallBegins first x emptied = CallBegins
found_by Swaps first x emptied = Swaps
found_by TurnBegins first x emptied = TurnBegins
found_by Applies first x emptied = Applies
found_by TurnEnds first x emptied = cond (is_cas first) (cond emptied TurnEnds Other) TurnEnds
found_by Returns first x emptied = Returns
found_by Spins first x emptied = cond (stays first x.wait (is_null x.next)) Spins Other
found_by Other first x emptied = Other

-- what an entry of a row is
abbrev pub event_found : Row → Node → Bool → Event
event_found row = found_by row.event row.first

-- the node that an entry tells: a Swap the one that it assigns to its call, an entry that applies the one whose request it takes; any other tells none
abbrev pub node_told : Event → NodeId → NodeId → NodeId
node_told event assigned applied = cond (same_event event Swaps) assigned (cond (same_event event Applies) applied null)

-- the node that a Swap gives, Tail's; any other entry gives none
abbrev pub given_told : Event → NodeId → NodeId
given_told event tail = cond (same_event event Swaps) tail null

-- the req that an entry of such an event applies and the ret that it returns, of the node that its line points to; any other tells none
abbrev pub req_told : Event → Node → Option Request
req_told event x = cond (same_event event Applies) x.req None

abbrev pub ret_told : Event → Node → Option Answer
ret_told event x = cond (same_event event Returns) x.ret None
