-- Lines of the turn keep Control: 16 to 19, 21, 23 and 26. Assumes Control before the line.
use Prim.Native.Nat.{ℕ, suc, ◌≤◌, ◌<◌}
use native.Mathlib.Omega.{arith}
use mathlib.Core.Path.{◌≡◌, refl, sym, ◌∙◌, ap}
use mathlib.Core.Bool.{Bool, true, false, cond, ◌||◌}
use lib.Dec.{leb}
use borrow.Author.Tests.{eqb-true, leb-false, lt-ltb}
use Rattle.object.specs.declared.Request.{Request}
use Rattle.object.specs.declared.Answer.{Answer}
use Rattle.machine.specs.declared.NodeId.{NodeId}
use Rattle.machine.specs.Fields.{null, is_null}
use Rattle.dsm_lines.specs.Lines.{L16, L17, L18, L19, L21, L23, L26}
use Rattle.machine.specs.Threads.{goes}
use Rattle.invariant.specs.View.{View}
use Rattle.dsm_invariant.specs.Ledger.{Ledger, noted}
use Rattle.dsm_invariant.specs.View.{emptied, Does}
use Rattle.invariant.specs.Waits.{waits}
use Rattle.dsm_invariant.specs.Control.{Tailed, empty, last, CombineRow, CombineFacts, Control}
use Rattle.object.proofs.Choice.{either, both_fail}
use Rattle.invariant.proofs.Waits.{waits_below, waits_same, waits_turn, turn_neither}
use Rattle.dsm_invariant.proofs.Places.{places_apart, place_exists, known, tmp_place, next_right}
use Rattle.dsm_invariant.proofs.Ways.{moves, forks, far, serves}

-- the turn goes on from a released position: another that does not get it waits as before
waits_else : (g : Ledger) (given : Bool) (i : ℕ) → g.b < g.r → (i ≡ g.a → ⊥) → waits g.r g.b g.given i ≡ waits g.r g.a given i
waits_else g given i past apart =
    waits_same g.r g.b g.given g.r g.a given i (λ z. z) (λ z. z) (λ z. turn_neither g.b g.given g.a given i (λ w. omega arith) apart)

-- what a combiner knows of tmpNode, the node of position k
module _ {n h : ℕ} {v : View} {g : Ledger} (c : Control n h v g) {row : CombineRow} {i tmp served : ℕ} (f : CombineFacts row h g i tmp served) where
  -- where Tail is tmpNode, nothing is left to serve
  all_served : n ≤ 16 → v.tail.0 ≡ tmp → Tailed g v.tail.0 → g.s ≡ suc g.k
  all_served small e (empty z p) = absurd (place_exists c g.k small f.below (sym f.serving ∙ sym e ∙ p))
  all_served small e (last j z y p) =
      let q = places_apart c j g.k (omega (arith, c.order)) (omega arith) c.order.one f.below (sym p ∙ e ∙ f.serving) in omega arith

module _ {n h : ℕ} {v v' : View} {g : Ledger} {t : ℕ} {request : Request} {answer : Answer} (c : Control n h v g) where
  -- lines 16, 17 and 18 write the node of tmpNode's position and move one count
  pub applies : Does n h v v' t L16 request answer → Control n h v' (noted v t g L16)
  applies run =
      let f = (known c run).1 in
      serves c run 17 refl tt tt f g.k (suc g.a) g.d g.r g.b g.k g.given
      (omega (arith, f, c.order)) f.serving refl (λ y. search y) (λ i k e. refl) (λ x i. (i, search (arith, f))) refl (omega (arith, f, c.order))

  pub completes : Does n h v v' t L17 request answer → Control n h v' (noted v t g L17)
  completes run =
      let f = (known c run).1 in
      let done = sym (lt-ltb g.k (suc g.d) (omega (arith, f.completed))) in
      serves c run 18 refl tt tt f g.k g.a (suc g.d) g.r g.b g.k g.given
      (omega (arith, f, c.order)) f.serving refl (λ y. search (y, done)) (λ i k e. refl) (λ x i. (i, search (arith, f))) refl (omega (arith, f, c.order))

  pub releases : Does n h v v' t L18 request answer → Control n h v' (noted v t g L18)
  releases run =
      let f = (known c run).1 in
      let free = sym (waits_below (suc g.r) g.b g.given g.k (omega (arith, f.released))) in
      serves c run 19 refl tt tt f g.k g.a g.d (suc g.r) g.b g.k g.given
      (omega (arith, f, c.order)) f.serving refl (λ y. search (y, free))
      (λ i k e. waits_same g.r g.b g.given (suc g.r) g.b g.given i (λ z. omega arith) (λ z. omega (arith, f.released)) (λ z. refl))
      (λ x i. (i, search (arith, f))) refl (omega (arith, f, c.order))

  -- line 19 goes on below h; what it reads of the nodes tells nothing that lasts
  pub goes_on : Does n h v v' t L19 request answer → Control n h v' (noted v t g L19)
  goes_on run =
      let f = (known c run).1 in
      let last = is_null (v.node (v.thread t).tmp.0).next in
      let next_last = is_null (v.node (v.node (v.thread t).tmp.0).next.0).next in
      let full = leb h (v.thread t).served in
      forks c run refl (last || (next_last || full)) 20 21 refl tt refl tt tt
      (λ e x i. (i, f))
      (λ e x i. let room = leb-false h (v.thread t).served (both_fail next_last full (both_fail last (next_last || full) e).1).1 in (i, search (arith, f)))

  -- line 21 goes on to serve the position after tmpNode's
  pub advances : Does n h v v' t L21 request answer → Control n h v' (noted v t g L21)
  advances run =
      let f = (known c run).1 in
      let next = next_right c f run.fine in
      serves c run 14 refl tt tt f g.k g.a g.d g.r g.b (suc g.k) g.given
      (omega (arith, f, c.order)) f.serving refl (λ y. search y) (λ i k e. refl) (λ x i. (i, search (arith, f, next))) refl (omega (arith, f, c.order))

  -- line 26 gives the turn to the position after tmpNode's
  pub passes : Does n h v v' t L26 request answer → Control n h v' (noted v t g L26)
  passes run =
      let f = (known c run).1 in
      let next = next_right c f run.fine in
      let range = tmp_place c f in
      let free = sym (waits_turn g.r g.a true (suc g.k) (omega (arith, f.applied)) refl) in
      serves c run 27 refl tt tt f (suc g.k) g.a g.d g.r g.a g.a true
      (omega (arith, f, c.order, next)) next.2 refl (λ y. search (y, free))
      (λ i k e. waits_else g true i (omega (arith, f, c.order)) (λ z. e (omega (arith, f.applied))))
      (λ x i. (i, search (arith, f, c.order))) refl (omega (arith, f, next))

  -- line 23 leaves nothing to serve, or goes on
  pub leaves_empty : n ≤ 16 → Does n h v v' t L23 request answer → Control n h v' (noted v t g L23)
  leaves_empty small run =
      let f = (known c run).1 in
      either (λ g'. Control n h v' g') (emptied v t)
      (λ e.
      let range = tmp_place c f in
      let all = all_served c f small (eqb-true v.tail.0 (v.thread t).tmp.0 e) c.tailed in
      let past : g.b < g.r = omega (arith, f, c.order) in
      far c run 24 (ap (λ z. goes (v.thread t) (cond z 24 25)) e) tt tt f g.k g.a g.d g.r g.a g.a false
      (omega (arith, f, c.order)) f.serving refl
      (λ y. record { wait = y.wait ∙ waits_else g false g.k past (omega (arith, f)); completed = y.completed })
      (λ i k e. waits_else g false i past (omega (arith, f)))
      (λ x i. (i, search (arith, f, c.order)))
      absurd
      (empty (omega (arith, f)) (ap (λ (m : NodeId). m.0) run.tail ∙ ap (λ z. (cond z null v.tail).0) e)))
      (λ e. moves c run (ap (λ z. cond z null v.tail) e) 25 (ap (λ z. goes (v.thread t) (cond z 24 25)) e) tt refl tt (λ x i. (i, f)))
