-- What it means that a line takes no number out, and what `run_line` does then. Assumes nothing.
use Rattle.std.proofs.Common.{◌≡◌, ℕ, ◌+◌, ◌<◌, ◌≤◌, Bool, true, false, cond, eqb, refl, ap, mod-eq_of_lt, arith, ltb-false, ne_eqb, leb-false}
use Rattle.object.proofs.Choice.{both_fail, by_equal}
use Rattle.object.specs.declared.Request.{Request}
use Rattle.object.specs.declared.Answer.{Answer}
use Rattle.machine.specs.declared.NodeId.{NodeId}
use Rattle.machine.specs.declared.Node.{Node}
use Rattle.machine.specs.declared.Thread.{Thread}
use Rattle.machine.specs.Effect.{Effect}
use Rattle.cc_lines.specs.Lines.{Line, line_of, number}
use Rattle.cc_lines.proofs.Numbers.{number_of, agree}
use Rattle.machine.specs.Lines.{line_run}
use Rattle.cc_synch.specs.Effect.{takes_out, wrapped, executed, refused_effect, effect_of}
use Rattle.cc_synch.proofs.Written.{told}

module _ (th : Thread) (x : Node) (h : ℕ) {line : ℕ} where
  -- a line that is run is a blank or printed
  pub line_below : takes_out th x h line ≡ false → line ≤ 21
  line_below e = ltb-false 21 line (both_fail _ _ (both_fail _ _ (both_fail _ _ (both_fail _ _ e).0).0).0).0

  -- a call begins only where a request is left
  pub begun_below : takes_out th x h line ≡ false → line ≡ 1 → th.begun < th.count
  begun_below e k =
      leb-false th.count th.begun (both_fail _ _ (both_fail _ _ (both_fail _ _ (rw k at e)).0).0).0

  -- and the served counter grows only below h
  pub served_below : takes_out th x h line ≡ false → line ≡ 14 → th.served < h
  served_below e k = leb-false h th.served (both_fail _ _ (both_fail _ _ (rw k at e)).0).0

-- numbers of 8 bits do not wrap
pub fits_wrapped : (e : Effect) → e.thread.begun < 256 → e.thread.served < 256 → wrapped e ≡ e
fits_wrapped e begun served = rw (mod-eq_of_lt begun, mod-eq_of_lt served) refl

module _ (th : Thread) (x : Node) (tail : NodeId) (h : ℕ) (request : Request) (answer : Answer) where
  abbrev line : ℕ
  line = line_run th

  abbrev does : Bool → Effect
  does out = cond out (refused_effect th x tail h request answer) (executed th x tail h request answer (line_of line))

  -- line 1 alone adds to the requests begun, line 14 alone to the served counter, which line 1 sets to 0
  begun_after : (l : Line) → (executed th x tail h request answer l).thread.begun ≡ cond (eqb (number l) 1) (th.begun + 1) th.begun
  begun_after = agree (λ l. (executed th x tail h request answer l).thread.begun) (λ l. cond (eqb (number l) 1) (th.begun + 1) th.begun) refl refl

  served_after : (l : Line) → (executed th x tail h request answer l).thread.served ≡ cond (eqb (number l) 1) 0 (cond (eqb (number l) 14) (th.served + 1) th.served)
  served_after = agree (λ l. (executed th x tail h request answer l).thread.served) (λ l. cond (eqb (number l) 1) 0 (cond (eqb (number l) 14) (th.served + 1) th.served)) refl refl

  -- so a line that takes nothing out of a thread in 8 bits leaves it in them
  module _ (k : ℕ) (stays : takes_out th x h k ≡ false) where
    begun_fits : th.count < 256 → th.begun < 256 → (executed th x tail h request answer (line_of k)).thread.begun < 256
    begun_fits count begun =
        rw (begun_after (line_of k), number_of k (line_below th x h stays))
        (by_equal k 1 (λ e. rw e (omega (arith, begun_below th x h stays e))) (λ ne. rw (ne_eqb k 1 ne) begun))

    served_fits : h < 256 → th.served < 256 → (executed th x tail h request answer (line_of k)).thread.served < 256
    served_fits most served =
        rw (served_after (line_of k), number_of k (line_below th x h stays))
        (by_equal k 1 (λ e. rw e (omega arith))
        (λ ne. rw (ne_eqb k 1 ne) (by_equal k 14 (λ e. rw e (omega (arith, served_below th x h stays e))) (λ no. rw (ne_eqb k 14 no) served))))

    pub unwrapped : th.count < 256 → th.begun < 256 → h < 256 → th.served < 256
        → wrapped (executed th x tail h request answer (line_of k)) ≡ executed th x tail h request answer (line_of k)
    unwrapped count begun most served = fits_wrapped _ (begun_fits count begun) (served_fits most served)

  -- a line that takes nothing out does what Algorithm 1 does
  pub goes_ahead : takes_out th x h line ≡ false → effect_of th x tail h request answer ≡ executed th x tail h request answer (line_of line)
  goes_ahead = ap does

  nothing_out : (out : Bool) → (does out).refusal ≡ 0 → out ≡ false
  nothing_out true e = absurd (omega (arith, e))
  nothing_out false e = refl

  -- one that is not refused takes nothing out, and does the same
  pub goes_through : (effect_of th x tail h request answer).refusal ≡ 0
      → (takes_out th x h line ≡ false) × (effect_of th x tail h request answer ≡ executed th x tail h request answer (line_of line))
  goes_through e = let stay = nothing_out (takes_out th x h line) e in (stay, goes_ahead stay)

  refused_by : (out : Bool) → ((does out).refusal ≡ 0 → ⊥) → out ≡ true
  refused_by true e = refl
  refused_by false e = absurd (e (told th x tail h request answer (line_of line)).refusal)

  -- one that is refused would take a number out or use an empty req or ret
  pub refused_out : ((effect_of th x tail h request answer).refusal ≡ 0 → ⊥) → takes_out th x h line ≡ true
  refused_out = refused_by (takes_out th x h line)

  -- and it is 14
  pub refused_14 : ((effect_of th x tail h request answer).refusal ≡ 0 → ⊥) → (effect_of th x tail h request answer).refusal ≡ 14
  refused_14 e = ap (λ (out : Bool). (does out).refusal) (refused_out e)
