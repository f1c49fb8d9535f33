-- The rows of the printed lines, as a list: they have document 01's accesses, and an entry is what these make it; the node behind is out of it; and the numbers that
-- name no line. Assumes nothing.
use Prim.Native.Nat.{ℕ}
use mathlib.Core.Path.{◌≡◌, refl}
use mathlib.Core.Bool.{Bool}
use mathlib.Core.List.{List, [], ◌∷◌, map}
use Rattle.machine.specs.declared.NodeId.{NodeId}
use Rattle.machine.specs.declared.Node.{Node}
use Rattle.machine.specs.declared.Thread.{Thread}
use Rattle.machine.specs.declared.Field.TheVariants.{Req, Ret, Wait}
use Rattle.machine.specs.declared.Event.TheVariants.{Swaps, Applies, Returns, Spins, Other}
use Rattle.machine.specs.declared.Row.{Row}
use Rattle.machine.specs.Accesses.{accesses_of, written_of}
use Rattle.machine.specs.Events.{same_event, event_found}
use Rattle.machine.specs.Lines.{up_from, beside}
use Rattle.machine.proofs.NoLine.{NoneBelow, none_left}
use Rattle.machine.proofs.Rows.{reads_field, writes_field, swaps_tail}
use Rattle.cc_lines.specs.Lines.{Line, L0, printed, line_of, row_of, accesses_by, event_in}
use Rattle.cc_lines.specs.Said.{shared_accesses, said_events}
use Rattle.cc_lines.proofs.Numbers.{agree}

-- lines 1 to 21 make the accesses that document 01's table has beside their numbers, and no others
pub as_tabled : (th : Thread) → map (accesses_by th) printed ≡ map (λ k. beside [] k (shared_accesses th)) (up_from 1 21)
as_tabled th = refl

-- an entry of each is what document 01 says of its number
pub as_said_lem : map (λ l. (row_of l).event) printed ≡ map (λ k. beside Other k said_events) (up_from 1 21)
as_said_lem = refl

-- no line goes behind its node, whatever stands there, b, nor writes there
pub behind_unread : (l : Line) (m b : NodeId) → accesses_of (row_of l) m b ≡ accesses_of (row_of l) m m
behind_unread l m b = agree (λ (l : Line). accesses_of (row_of l) m b) (λ (l : Line). accesses_of (row_of l) m m) refl refl l

pub written_is_pointed : (l : Line) (m b : NodeId) → written_of (row_of l) m b ≡ m
written_is_pointed l m b = agree (λ (l : Line). written_of (row_of l) m b) (λ (l : Line). m) refl refl l

-- what an entry is, from its row and what its line finds, is by wait alone
pub event_found_lem : (l : Line) (x : Node) (emptied : Bool) → event_found (row_of l) x emptied ≡ event_in (row_of l).event x
event_found_lem l x emptied = agree (λ (l : Line). event_found (row_of l) x emptied) (λ (l : Line). event_in (row_of l).event x) refl refl l

-- whether an entry of a row applies a request, which takes two accesses, returns, may spin, and swaps: by the row's event
abbrev pub by_event : Row → List Bool
by_event row = map (same_event row.event) (Applies ∷ Applies ∷ Returns ∷ Spins ∷ Swaps ∷ [])

-- and by its accesses
abbrev pub by_access : Row → List Bool
by_access row = reads_field Req row ∷ writes_field Ret row ∷ reads_field Ret row ∷ reads_field Wait row ∷ swaps_tail row ∷ []

-- the two agree on every line: req is read and ret written where a request is applied, ret is read where a call returns, wait is read where a thread may
-- spin, and Tail is swapped by a Swap, each there and nowhere else
pub used : (k : ℕ) → by_event (row_of (line_of k)) ≡ by_access (row_of (line_of k))
used k = agree (λ l. by_event (row_of l)) (λ l. by_access (row_of l)) refl refl (line_of k)

-- past 21 there is no line, nor among what is left when 0 to 21 are taken out
pub no_line : (n : ℕ) → NoneBelow 22 n → L0 ≡ line_of n
no_line = none_left L0 (L0 ∷ printed)
