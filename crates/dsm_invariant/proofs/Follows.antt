-- The line that follows: what holds of each line, of what its entry may be and of the line that may follow, whichever way its tests go. Assumes nothing.
use Prim.Native.Nat.{ℕ}
use native.Mathlib.Omega.{arith}
use mathlib.Core.Path.{◌≡◌, sym, ◌∙◌, subst}
use mathlib.Core.Bool.{Bool, true, false, cond, ◌||◌}
use mathlib.Core.List.{◌∷◌}
use lib.Dec.{eqb, leb}
use borrow.Author.Tests.{ne_eqb}
use Rattle.object.specs.declared.Request.{Request}
use Rattle.object.specs.declared.Answer.{Answer}
use Rattle.object.specs.Each.{Each}
use Rattle.object.proofs.Choice.{by_equal, either}
use Rattle.machine.specs.declared.NodeId.{NodeId}
use Rattle.machine.specs.declared.Node.{Node}
use Rattle.machine.specs.declared.Thread.{Thread}
use Rattle.machine.specs.declared.Event.{Event}
use Rattle.machine.specs.declared.Event.TheVariants.{TurnEnds, Spins, Other}
use Rattle.machine.specs.Fields.{is_null}
use Rattle.machine.specs.Lines.{stands_at}
use Rattle.dsm_lines.specs.Lines.{Line, printed, number, event_in, following, L0}
use Rattle.dsm_lines.proofs.Numbers.{each_line, by_line}
use Rattle.invariant.specs.View.{View}
use Rattle.dsm_invariant.specs.View.{first, behind, emptied, does, Does}

-- the lines that test
abbrev pub tests : ℕ → Bool
tests k = eqb k 8 || (eqb k 10 || (eqb k 11 || (eqb k 19 || (eqb k 22 || (eqb k 23 || eqb k 25)))))

-- of a property of a line's number, of what its entry is and of the line that follows: both ways of the lines that test
abbrev pub Tested : (ℕ → Event → ℕ → Type 0) → Type 0
Tested P =
    P 8 Other 13 × P 8 Other 9 × P 10 Spins 10 × P 10 Other 11 × P 11 Other 12 × P 11 Other 13 × P 19 Other 20 × P 19 Other 21 × P 22 Other 23 × P 22 Other 26
    × P 23 TurnEnds 24 × P 23 Other 25 × P 25 Spins 25 × P 25 Other 26

module _ (x y : Node) (pred : NodeId) (emptied : Bool) (served h : ℕ) (P : ℕ → Event → ℕ → Type 0) where
  abbrev pub Way : Line → Type 0
  Way l = P (number l) (event_in x emptied l) (following x y pred emptied served h l)

  -- and the lines that don't
  abbrev pub Plain : Type 0
  Plain = Each (λ (l : Line). cond (tests (number l)) Unit (Way l)) (L0 ∷ printed)

  pub each_way : Plain → Tested P → (l : Line) → Way l
  each_way plain ways l =
      by_equal (number l) 8 (λ q. by_line Way l q (either (P 8 Other) (is_null pred) (λ _. ways.0) (λ _. ways.1))) λ q8.
      by_equal (number l) 10 (λ q. by_line Way l q (spins x.wait ways.2 ways.3)) λ q10.
      by_equal (number l) 11 (λ q. by_line Way l q (either (P 11 Other) x.completed (λ _. ways.4) (λ _. ways.5))) λ q11.
      by_equal (number l) 19 (λ q. by_line Way l q (either (P 19 Other) (is_null x.next || (is_null y.next || leb h served)) (λ _. ways.6) (λ _. ways.7))) λ q19.
      by_equal (number l) 22 (λ q. by_line Way l q (either (P 22 Other) (is_null x.next) (λ _. ways.8) (λ _. ways.9))) λ q22.
      by_equal (number l) 23 (λ q. by_line Way l q (spins emptied ways.10 ways.11)) λ q23.
      by_equal (number l) 25 (λ q. by_line Way l q (spins (is_null x.next) ways.12 ways.13)) λ q25.
      rw (
        ne_eqb (number l) 8 q8,
        ne_eqb (number l) 10 q10,
        ne_eqb (number l) 11 q11,
        ne_eqb (number l) 19 q19,
        ne_eqb (number l) 22 q22,
        ne_eqb (number l) 23 q23,
        ne_eqb (number l) 25 q25,
      ) at (each_line (λ (l : Line). cond (tests (number l)) Unit (Way l)) plain l)
    where
      spins : {k i j : ℕ} {a b : Event} (test : Bool) → P k a i → P k b j → P k (cond test a b) (cond test i j)
      spins true p q = p
      spins false p q = q

-- the line that thread t's line takes it to
abbrev pub onto : ℕ → View → ℕ → Line → ℕ
onto h v t l = following (first v t l) (behind v t l) (v.thread t).pred (emptied v t) (v.thread t).served h l

module _ {n h : ℕ} {v v' : View} {t : ℕ} {l : Line} {request : Request} {answer : Answer} (run : Does n h v v' t l request answer) where
  -- what holds of the thread after every line holds after the one that is run
  pub each_after : (P : Line → Thread → Type 0) → Each (λ (m : Line). P m (does v t m h request answer).thread) (L0 ∷ printed) → P l (v'.thread t)
  each_after P each = subst (P l) (sym run.mine) (each_line (λ (m : Line). P m (does v t m h request answer).thread) each l)

  pub line_after : (v'.thread t).line ≡ onto h v t l
  line_after =
      let Stays : Line → Type 0 = λ m. (v.thread t).line ≡ stands_at (number m) → cond (eqb (number m) 0) (v.thread t).line (onto h v t m) ≡ onto h v t m in
      each_after (λ m th. th.line ≡ cond (eqb (number m) 0) (v.thread t).line (onto h v t m)) (omega arith)
      ∙ by_equal (number l) 0 (λ q. by_line Stays l q (λ e. e) run.stands) (λ q. rw (ne_eqb (number l) 0 q))

  -- and so what holds of it, of what its entry is and of the line that follows
  module _ (P : ℕ → Event → ℕ → Type 0) where
    pub each_run : Plain (first v t l) (behind v t l) (v.thread t).pred (emptied v t) (v.thread t).served h P → Tested P
        → P (number l) (event_in (first v t l) (emptied v t) l) (v'.thread t).line
    each_run plain ways = rw line_after (each_way (first v t l) (behind v t l) (v.thread t).pred (emptied v t) (v.thread t).served h P plain ways l)
