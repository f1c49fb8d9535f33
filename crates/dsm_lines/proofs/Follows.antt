-- The line that follows is the one that is said of its number, and an entry is a spin exactly if its line follows itself. Assumes nothing.
use Prim.Native.Nat.{ℕ, suc, ◌+◌}
use native.Mathlib.Omega.{arith}
use mathlib.Core.Path.{◌≡◌, refl, sym}
use mathlib.Core.Bool.{Bool, true, false, cond, ◌||◌}
use mathlib.Core.List.{map}
use lib.ListN.{drop}
use lib.Dec.{leb, eqb}
use borrow.Author.Tests.{eq-eqb, ne_eqb}
use Rattle.object.specs.Each.{Each}
use Rattle.object.proofs.Choice.{either}
use Rattle.machine.specs.declared.NodeId.{NodeId}
use Rattle.machine.specs.declared.Node.{Node}
use Rattle.machine.specs.declared.Event.TheVariants.{TurnEnds, Spins, Other}
use Rattle.machine.specs.Fields.{is_null}
use Rattle.machine.specs.Events.{same_event}
use Rattle.machine.specs.Lines.{up_from, beside}
use Rattle.dsm_lines.specs.Lines.{Line, printed, number, event_in, following}
use Rattle.dsm_lines.specs.Said.{said_following}

-- where a test decides between staying and going on
stays_or_goes : (test : Bool) (k : ℕ) → same_event (cond test Spins Other) Spins ≡ eqb (cond test (suc k) (suc (suc k))) (suc k)
stays_or_goes true k = sym (eq-eqb (suc k) (suc k) refl)
stays_or_goes false k = sym (ne_eqb (suc (suc k)) (suc k) (λ e. omega arith))

ends_turn : (test : Bool) → same_event (cond test TurnEnds Other) Spins ≡ eqb (cond test 24 25) 23
ends_turn true = refl
ends_turn false = refl

module _ (x y : Node) (pred : NodeId) (emptied : Bool) (served h : ℕ) where
  -- each of lines 1 to 28 is followed by the line that is named there, the next one printed where none is
  pub follows_as_said : map (following x y pred emptied served h) printed ≡ map (λ k. beside (k + 1) k (said_following x emptied y pred served h)) (up_from 1 28)
  follows_as_said = refl

  -- of the printed lines, one after the other, an entry is a spin exactly if its line follows itself
  abbrev pub SpinFollows : Line → Type 0
  SpinFollows l = same_event (event_in x emptied l) Spins ≡ eqb (following x y pred emptied served h l) (number l)

  -- lines 10 and 25 stay or go on, 23 ends the turn or not, and 8, 11, 19 and 22 go to one of two other lines; of the rest the line that follows is known
  from_22 : Each SpinFollows (drop 21 printed)
  from_22 =
      (either (λ k. false ≡ eqb k 22) (is_null x.next) (λ _. refl) (λ _. refl), (ends_turn emptied, (refl, (stays_or_goes (is_null x.next) 24, (refl, (refl, (refl, tt)))))))

  from_19 : Each SpinFollows (drop 18 printed)
  from_19 =
      let test : Bool = is_null x.next || (is_null y.next || leb h served) in
      (either (λ k. false ≡ eqb k 19) test (λ _. refl) (λ _. refl), (refl, (refl, from_22)))

  from_11 : Each SpinFollows (drop 10 printed)
  from_11 = (either (λ k. false ≡ eqb k 11) x.completed (λ _. refl) (λ _. refl), (refl, (refl, (refl, (refl, (refl, (refl, (refl, from_19))))))))

  from_8 : Each SpinFollows (drop 7 printed)
  from_8 = (either (λ k. false ≡ eqb k 8) (is_null pred) (λ _. refl) (λ _. refl), (refl, (stays_or_goes x.wait 9, from_11)))

  pub spin_follows : Each SpinFollows printed
  spin_follows = (refl, (refl, (refl, (refl, (refl, (refl, (refl, from_8)))))))
