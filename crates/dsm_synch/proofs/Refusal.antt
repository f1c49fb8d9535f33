-- What it means that a line is not refused, and what `run_line` does then. Assumes what the laws' premises say: of a state in range, that thread t is one of 16 and its
-- toggle 0 or 1.
use Prim.Native.Nat.{ℕ, ◌≤◌, ◌<◌}
use native.Mathlib.Omega.{arith}
use mathlib.Core.Path.{◌≡◌, refl, sym, ap, ◌∙◌}
use mathlib.Core.Bool.{Bool, true, false, cond, or-false, and-false}
use mathlib.Core.List.{◌∷◌}
use lib.Dec.{leb, ltb, eqb}
use borrow.Author.Tests.{leb-false, ltb-false, lt-leb, le-ltb}
use Rattle.object.proofs.Choice.{both_fail}
use Rattle.object.proofs.Each.{each_same}
use Rattle.object.specs.declared.Request.{Request}
use Rattle.object.specs.declared.Answer.{Answer}
use Rattle.machine.specs.declared.NodeId.{NodeId}
use Rattle.machine.specs.declared.Node.{Node}
use Rattle.machine.specs.declared.Thread.{Thread}
use Rattle.machine.specs.Effect.{Effect}
use Rattle.machine.specs.Lines.{line_run}
use Rattle.dsm_lines.specs.Lines.{Line, L0, printed, line_of}
use Rattle.dsm_lines.proofs.Numbers.{each_line}
use Rattle.dsm_synch.specs.Effect.{takes_out, no_node, is_refused, executed, refused_effect, effect_of}

module _ (t : ℕ) (th : Thread) (x : Node) (h line : ℕ) where
  -- it takes nothing out, and has its node
  parts : is_refused t th x h line ≡ false → (takes_out th x h line ≡ false) × (no_node t th line ≡ false)
  parts = both_fail (takes_out th x h line) (no_node t th line)

  -- a call begins only where a request is left
  pub begun_below : is_refused t th x h line ≡ false → line ≡ 1 → th.begun < th.count
  begun_below e k = let stay = (parts e).0 in leb-false th.count th.begun (both_fail _ _ (both_fail _ _ (rw k at stay)).0).0

  -- the served counter grows only below h
  pub served_below : is_refused t th x h line ≡ false → line ≡ 15 → th.served < h
  served_below e k = let stay = (parts e).0 in leb-false h th.served (both_fail _ _ (rw k at stay)).0

  -- and myNode is one of the two nodes of one of 16 threads
  pub node_there : is_refused t th x h line ≡ false → line ≡ 2 → (t < 16) × (th.toggle < 2)
  node_there e k =
      let stay = (parts e).1 in
      let there = both_fail (leb 16 t) (ltb 1 th.toggle) (rw k at stay) in
      (leb-false 16 t there.0, omega (arith, ltb-false 1 th.toggle there.1))

  -- in a state in range a line is refused only for what it takes out
  pub in_range : t < 16 → th.toggle ≤ 1 → is_refused t th x h line ≡ takes_out th x h line
  in_range below place =
      let there : no_node t th line ≡ false = rw (lt-leb 16 t below, le-ltb 1 th.toggle place) (and-false (eqb line 2)) in
      rw there (or-false (takes_out th x h line))

module _ (t : ℕ) (th : Thread) (x y : Node) (tail : NodeId) (h : ℕ) (request : Request) (answer : Answer) where
  abbrev line : ℕ
  line = line_run th

  abbrev does : Bool → Effect
  does out = cond out (refused_effect t th x y tail h request answer) (executed t th x y tail h request answer (line_of line))

  -- a line that is not refused does what Algorithm 2 does
  pub goes_on : is_refused t th x h line ≡ false → effect_of t th x y tail h request answer ≡ executed t th x y tail h request answer (line_of line)
  goes_on = ap does

  -- Algorithm 2 itself refuses nothing
  refuses_none : (l : Line) → (executed t th x y tail h request answer l).refusal ≡ 0
  refuses_none =
      each_line (λ (l : Line). (executed t th x y tail h request answer l).refusal ≡ 0)
      (each_same (λ l. (executed t th x y tail h request answer l).refusal) (λ l. 0) (L0 ∷ printed) refl)

  not_refused : (out : Bool) → (does out).refusal ≡ 0 → out ≡ false
  not_refused true e = absurd (omega (arith, e))
  not_refused false e = refl

  refused_by : (out : Bool) → ((does out).refusal ≡ 0 → ⊥) → out ≡ true
  refused_by true e = refl
  refused_by false e = absurd (e (refuses_none (line_of line)))

  -- a line that is refused is 14
  pub refused_14 : ((effect_of t th x y tail h request answer).refusal ≡ 0 → ⊥) → (effect_of t th x y tail h request answer).refusal ≡ 14
  refused_14 e = ap (λ (out : Bool). (does out).refusal) (refused_by (is_refused t th x h line) e)

  -- in a state in range
  module _ (below : t < 16) (place : th.toggle ≤ 1) where
    abbrev same : is_refused t th x h line ≡ takes_out th x h line
    same = in_range t th x h line below place

    -- a line that takes nothing out does what Algorithm 2 does
    pub goes_ahead : takes_out th x h line ≡ false → effect_of t th x y tail h request answer ≡ executed t th x y tail h request answer (line_of line)
    goes_ahead stay = goes_on (same ∙ stay)

    -- one that is not refused takes nothing out, and does the same
    pub goes_through : (effect_of t th x y tail h request answer).refusal ≡ 0
        → (takes_out th x h line ≡ false) × (effect_of t th x y tail h request answer ≡ executed t th x y tail h request answer (line_of line))
    goes_through e = let stay = not_refused (is_refused t th x h line) e in (sym same ∙ stay, goes_on stay)

    -- one that is refused meets null, would take a number out, uses an empty req or ret, or is past 28
    pub refused_out : ((effect_of t th x y tail h request answer).refusal ≡ 0 → ⊥) → takes_out th x h line ≡ true
    refused_out e = sym same ∙ refused_by (is_refused t th x h line) e
