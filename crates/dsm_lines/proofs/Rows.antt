-- A line's row says of it what the definitions line by line say. Assumes nothing.
use mathlib.Core.Path.{◌≡◌, refl}
use mathlib.Core.Bool.{Bool}
use Rattle.machine.specs.declared.Node.{Node}
use Rattle.machine.specs.declared.Thread.{Thread}
use Rattle.machine.specs.Accesses.{accesses_of, written_of}
use Rattle.machine.specs.Accesses as machine
use Rattle.machine.specs.Events.{event_found}
use Rattle.dsm_lines.specs.Lines.{Line, accesses, pointed, target, event_in}
use Rattle.dsm_lines.specs.Rows.{row_of}
use Rattle.dsm_lines.proofs.Numbers.{agree}

-- the node that it points to
pub row_points : (th : Thread) (l : Line) → machine.pointed (row_of l).node th ≡ pointed th l
row_points th = agree (λ (l : Line). machine.pointed (row_of l).node th) (pointed th) refl refl

module _ (x : Node) where
  -- its accesses, where x is the node that it points to
  pub row_accesses : (th : Thread) (l : Line) → accesses_of (row_of l) (pointed th l) x.next ≡ accesses th x l
  row_accesses th = agree (λ (l : Line). accesses_of (row_of l) (pointed th l) x.next) (accesses th x) refl refl

  -- the node that it writes
  pub row_writes_lem : (th : Thread) (l : Line) → written_of (row_of l) (pointed th l) x.next ≡ target th x l
  row_writes_lem th = agree (λ (l : Line). written_of (row_of l) (pointed th l) x.next) (target th x) refl refl

  -- what an entry of it is
  pub event_found_lem : (emptied : Bool) (l : Line) → event_found (row_of l) x emptied ≡ event_in x emptied l
  event_found_lem emptied = agree (λ (l : Line). event_found (row_of l) x emptied) (event_in x emptied) refl refl
