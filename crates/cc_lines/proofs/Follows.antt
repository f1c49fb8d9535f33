-- The line that follows is the one that document 01 names, and an entry is a spin exactly if its line follows itself. Assumes nothing.
use Prim.Native.Nat.{ℕ, ◌+◌}
use mathlib.Core.Path.{◌≡◌, refl}
use mathlib.Core.Bool.{Bool, true, false, cond, not, ◌&&◌}
use mathlib.Core.List.{map}
use lib.Dec.{ltb, eqb}
use Rattle.object.specs.Each.{Each}
use Rattle.object.proofs.Choice.{either}
use Rattle.machine.specs.declared.Event.TheVariants.{Spins, Other}
use Rattle.machine.specs.declared.Node.{Node}
use Rattle.machine.specs.Fields.{is_null}
use Rattle.machine.specs.Events.{same_event}
use Rattle.machine.specs.Lines.{up_from, beside}
use Rattle.cc_lines.specs.Lines.{printed, line_of, row_of, following, event_in}
use Rattle.cc_lines.specs.Said.{said_following}

-- line 9 follows itself where it spins
nine_follows : (waits : Bool) → same_event (cond waits Spins Other) Spins ≡ eqb (cond waits 9 10) 9
nine_follows true = refl
nine_follows false = refl

module _ (x : Node) (served h : ℕ) where
  -- each of lines 1 to 21 is followed by the line that document 01 names, the next one printed where it names none
  pub follows_as_said : map (following x served h) printed ≡ map (λ k. beside (k + 1) k (said_following x served h)) (up_from 1 21)
  follows_as_said = refl

  -- of the printed lines, one after the other, an entry is a spin exactly if its line follows itself
  abbrev pub SpinFollows : ℕ → Type 0
  SpinFollows k = same_event (event_in (row_of (line_of k)).event x) Spins ≡ eqb (following x served h (line_of k)) k

  -- lines from 14 on, from 13 on, from 10 on, and all
  from_14 : Each SpinFollows (up_from 14 8)
  from_14 = (refl, (refl, (refl, (refl, (refl, (refl, (refl, (refl, tt))))))))

  from_13 : Each SpinFollows (up_from 13 9)
  from_13 = (either (λ k. false ≡ eqb k 13) (not (is_null x.next) && ltb served h) (λ e. refl) (λ e. refl), from_14)

  from_10 : Each SpinFollows (up_from 10 12)
  from_10 = (either (λ k. false ≡ eqb k 10) x.completed (λ e. refl) (λ e. refl), (refl, (refl, from_13)))

  pub spin_follows : Each SpinFollows (up_from 1 21)
  spin_follows = (refl, (refl, (refl, (refl, (refl, (refl, (refl, (refl, (nine_follows x.wait, from_10)))))))))
