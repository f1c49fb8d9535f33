-- Table and events are as said by their numbers; and the numbers that name no line. Assumes nothing.
use Prim.Native.Nat.{ℕ, ◌≤◌}
use native.Mathlib.Omega.{arith}
use mathlib.Core.Path.{◌≡◌, refl}
use mathlib.Core.Bool.{Bool}
use mathlib.Core.List.{[], ◌∷◌, map}
use lib.ListN.{length}
use Rattle.object.proofs.Choice.{by_test}
use Rattle.machine.specs.declared.Node.{Node}
use Rattle.machine.specs.declared.Thread.{Thread}
use Rattle.machine.specs.declared.Event.TheVariants.{Other}
use Rattle.machine.specs.Fields.{is_null}
use Rattle.machine.specs.Lines.{up_from, beside}
use Rattle.machine.proofs.NoLine.{NoneBelow, none_left}
use Rattle.dsm_lines.specs.Lines.{Line, L0, printed, line_of, accesses, event_in}
use Rattle.dsm_lines.specs.Said.{shared_accesses, said_events}
use Rattle.dsm_lines.proofs.Numbers.{each_line}

-- lines 1 to 28 make the accesses that stand beside their numbers, and no others; line 19 one or three, by what it finds
pub as_tabled : (th : Thread) (x : Node) → map (accesses th x) printed ≡ map (λ k. beside [] k (shared_accesses th x)) (up_from 1 28)
as_tabled th x = by_test (is_null x.next) (λ e. rw e refl) (λ e. rw e refl)

-- at most three
pub few : (th : Thread) (x : Node) (l : Line) → length (accesses th x l) ≤ 3
few th x =
    each_line (λ (l : Line). length (accesses th x l) ≤ 3)
    (by_test (is_null x.next) (λ e. rw e (omega arith)) (λ e. rw e (omega arith)))

-- an entry of each is what is said of its number
pub as_said_lem : (x : Node) (emptied : Bool) → map (event_in x emptied) printed ≡ map (λ k. beside Other k (said_events x emptied)) (up_from 1 28)
as_said_lem x emptied = refl

-- past 28 there is no line, nor among what is left when 0 to 28 are taken out
pub no_line : (n : ℕ) → NoneBelow 29 n → L0 ≡ line_of n
no_line = none_left L0 (L0 ∷ printed)
