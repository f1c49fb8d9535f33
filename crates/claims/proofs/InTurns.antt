-- A request that is applied in a turn has that turn's number, and so has begun. Assumes that no request is applied outside a turn.
use Prim.Native.Nat.{◌<◌}
use native.Mathlib.Omega.{arith}
use mathlib.Core.Path.{◌≡◌, refl, sym, ◌∙◌}
use mathlib.Core.Bool.{Bool, true, false, cond, not, ◌&&◌, false≢true, and-eq-true_iff}
use mathlib.Core.List.{List, [], ◌∷◌}
use lib.Dec.{eqb}
use Rattle.object.specs.Each.{Each}
use Rattle.object.proofs.Each.{each_append, each_map}
use Rattle.object.proofs.Choice.{by_test, both_fail}
use Rattle.machine.specs.declared.ThreadId.{ThreadId}
use Rattle.machine.specs.declared.Event.TheVariants.{TurnBegins, Applies, TurnEnds}
use Rattle.history.specs.Entries.{Entry, happened, is, is_by, how_many}
use Rattle.history.specs.Terms.{turn_of, combines, Serving, serving_of, servings}
use Rattle.claims.specs.Claims.{outside_turn}

-- the turn of a combiner has begun
turn_begun : (t : ThreadId) (past : List Entry) → combines t past ≡ true → turn_of t past < how_many TurnBegins past
turn_begun t [] told = absurd (false≢true told)
turn_begun t (e ∷ past) told =
    by_test (is_by t TurnBegins e)
    (λ begins. rw (begins, ((and-eq-true_iff (eqb e.thread.0 t.0) (is TurnBegins e)).0 begins).1) (omega arith))
    (λ other. by_test (is_by t TurnEnds e)
    (λ ends.
    let its = ((and-eq-true_iff (eqb e.thread.0 t.0) (is TurnEnds e)).0 ends).0 in
    let begins : is TurnBegins e ≡ true = rw (other, ends) at told in
    absurd (false≢true (sym other ∙ rw (its, begins))))
    (λ neither. rw other (omega (arith, turn_begun t past (rw (other, neither) at told)))))

-- one that is not outside a turn is in one
inside : (applies combining : Bool) → (applies && not combining) ≡ false → applies ≡ true → combining ≡ true
inside true true e z = refl
inside true false e z = absurd (false≢true (sym e))
inside false combining e z = absurd (false≢true z)

pub in_turns : (past : List Entry) → happened outside_turn past ≡ false → Each (λ (w : Serving). w.turn < how_many TurnBegins past) (servings past)
in_turns [] none = tt
in_turns (e ∷ past) none =
    let (here, before) = both_fail (outside_turn e past) (happened outside_turn past) none in
    each_append (λ (w : Serving). w.turn < how_many TurnBegins (e ∷ past)) (servings past) (cond (is Applies e) (serving_of e past ∷ []) [])
    (each_map (λ (w : Serving) h. omega (arith, h)) (servings past) (in_turns past before))
    (by_test (is Applies e)
    (λ applies. rw applies (omega (arith, turn_begun e.thread past (inside (is Applies e) (combines e.thread past) here applies)), tt))
    (λ other. rw other tt))
