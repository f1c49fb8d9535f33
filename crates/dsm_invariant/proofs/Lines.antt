-- Lines before the turn and after it keep Control: 1, 2, 8 to 11, 13 and 27. Assumes Control before the line.
use Prim.Native.Nat.{ℕ, suc, ◌-◌, ◌≤◌, ◌<◌}
use native.Mathlib.Omega.{arith}
use mathlib.Core.Path.{◌≡◌, refl, sym, ◌∙◌, ap}
use mathlib.Core.Bool.{true, cond}
use lib.Dec.{T}
use borrow.Author.Tests.{eqb-true, eqb-false, ltb-true, ltb-false}
use Rattle.object.specs.declared.Request.{Request}
use Rattle.object.specs.declared.Answer.{Answer}
use Rattle.machine.specs.Fields.{is_null}
use Rattle.dsm_lines.specs.Lines.{Line, L1, L2, L8, L9, L10, L11, L13, L27}
use Rattle.machine.specs.Threads.{goes}
use Rattle.invariant.specs.Ledger.{upd}
use Rattle.invariant.specs.View.{View}
use Rattle.dsm_invariant.specs.Stages.{out, idle, o2, wait, w8, w9, w10, w13, leave, v27, v28, queued}
use Rattle.dsm_invariant.specs.Ledger.{Ledger, node_number, node_at, with_joined, noted}
use Rattle.dsm_invariant.specs.View.{Does}
use Rattle.dsm_invariant.specs.Control.{none, right, Old, Pred, first, after, Gate, closed, turn, Gated, WaitRow, WaitFacts, Control}
use Rattle.object.proofs.Choice.{by_equal, either}
use Rattle.invariant.proofs.Upd.{upd_same, upd_other, upd_more}
use Rattle.invariant.proofs.Waits.{waits_free, waits_held}
use Rattle.dsm_invariant.proofs.Basics.{toggled_twice}
use Rattle.dsm_invariant.proofs.Places.{from, alone, placed, prepared_apart, places_apart, place_exists, known, inside, mine_old}
use Rattle.dsm_invariant.proofs.Stable.{link_stable}
use Rattle.dsm_invariant.proofs.Frame.{old_in, kept}
use Rattle.dsm_invariant.proofs.Ways.{Joins, no_joins, joins_grown, quiet, prepares, home, calm, moves, forks}

-- line 1 toggles: the earlier Swaps of an idle thread then have its other toggle
toggled : (g : Ledger) (u toggle : ℕ) → Old g u (out idle) toggle → Old g u (out o2) (1 - toggle)
toggled g u toggle f = record {
  toggled = omega arith;
  bit = λ i k w e z. f.bit i k w e absurd ∙ sym (toggled_twice f.toggled);
  before = λ i k w e z. absurd z;
}

-- a waiting call's position joins, and a gate is known of it
joined_facts : (g : Ledger) (t : ℕ) {row : WaitRow} {pred served : ℕ} → WaitFacts row g (g.at t) pred served → (gate : Gate)
    → Gated gate (with_joined g (upd g.joined (g.at t) true)) (g.at t) pred
    → WaitFacts (record { joined = true; gate = gate }) (with_joined g (upd g.joined (g.at t) true)) (g.at t) pred served
joined_facts g t f gate known = record {
  none_served = f.none_served;
  joined = upd_same g.joined (g.at t) true;
  early = absurd;
  even = λ z. search (f.even z);
  gate = known;
}

-- a predecessor is null only at the turn's position
first_turn : {n h : ℕ} {v : View} {g : Ledger} → Control n h v g → n ≤ 16 → (i pred : ℕ) → i < g.s → pred ≡ 255 → Pred g i pred → i ≡ g.b
first_turn c small i pred k e (first z p) = z
first_turn c small i pred k e (after j z p) = absurd (place_exists c j small (omega arith) (sym p ∙ e))

module _ {n h : ℕ} {v v' : View} {g : Ledger} {t : ℕ} {request : Request} {answer : Answer} (c : Control n h v g) where
  pub begins_call : Does n h v v' t L1 request answer → Control n h v' (noted v t g L1)
  begins_call run = prepares c run refl _ refl (λ z. z) (λ m e. kept c run refl m) (toggled g t _ (mine_old c run)) (search (arith, absurd))

  pub chooses_node : Does n h v v' t L2 request answer → Control n h v' (noted v t g L2)
  unfolding node_number
  chooses_node run =
      let f = known c run in let o = mine_old c run in prepares c run refl _ refl (λ z. z) (λ m e. kept c run refl m) (search o) (search (arith, absurd, f))

  -- the thread's position joins: its predecessor knows of it, or it is the first
  joins : {l : Line} → Does n h v v' t l request answer → T (queued (from l)) → Joins n v g t (upd g.joined (g.at t) true)
  joins run q = record {
    more = upd_more g.joined (g.at t);
    same = λ u k e p. upd_other _ _ _ _ (λ z. e (alone c u t k run.below p (inside c run q) z));
  }

  -- line 8: a call that found Tail null has the turn, another has a predecessor
  pub finds_predecessor : n ≤ 16 → Does n h v v' t L8 request answer → Control n h v' (noted v t g L8)
  finds_predecessor small run =
      let f = known c run in
      either (λ g'. Control n h v' g') (is_null (v.thread t).pred)
      (λ e.
      let at_turn = first_turn c small _ _ f.0.below (eqb-true (v.thread t).pred.0 255 e) f.1.gate in
      calm c run refl 13 (ap (λ z. goes (v.thread t) (cond z 13 9)) e) tt refl _ (joins run tt) (λ _. tt)
      (old_in g t (wait w8) _ tt (wait w13) tt (mine_old c run))
      (λ x i. (i, joined_facts g t f.1 turn at_turn)))
      (λ e.
      let behind = eqb-false (v.thread t).pred.0 255 e in
      moves c run refl 9 (ap (λ z. goes (v.thread t) (cond z 13 9)) e) tt refl tt (λ x i. (i, search (arith, f.1, behind))))

  -- line 9 writes the next of the position before
  links_after : (run : Does n h v v' t L9 request answer) → Pred g (g.at t) (v.thread t).pred.0 → Control n h v' (noted v t g L9)
  links_after run (first z p) = absurd ((known c run).1.gate.0 p)
  links_after run (after j z p) =
      let f = known c run in
      let mine : (v.thread t).my.0 ≡ node_at g (suc j) = placed c t run.below (inside c run tt) ∙ ap (node_at g) z in
      let lo : j < g.s = omega (arith, f.0.below) in
      let hi : g.a ≤ suc j = omega (arith, f.1.early tt) in
      home c run refl 10 refl tt _ (joins run tt) (quiet c run refl refl)
      (λ u k x q y. rw (run.elsewhere _ (λ w. prepared_apart c u j k q lo hi (w ∙ p))) y)
      (λ i lo' hi'. by_equal i j
      (λ w. right (omega (arith, f.0.below)) (rw (w, ← z) (upd_same g.joined (g.at t) true)) (rw (w, ← p, run.there) mine))
      (λ w. link_stable g _ (joins_grown (joins run tt)) i _
      (rw (run.elsewhere (node_at g i) (λ y. w (places_apart c i j hi' lo' hi lo (y ∙ p)))) (c.link i lo' hi'))))
      (λ _. tt)
      (old_in g t (wait w9) _ tt (wait w10) tt (mine_old c run))
      (λ x i. (i, joined_facts g t f.1 closed tt))

  pub links : Does n h v v' t L9 request answer → Control n h v' (noted v t g L9)
  links run = links_after run (known c run).1.gate.1

  -- line 10 goes on when wait is false
  pub spins : Does n h v v' t L10 request answer → Control n h v' (noted v t g L10)
  spins run =
      let f = known c run in
      forks c run refl (v.node (v.thread t).my.0).wait 10 11 refl tt refl tt tt
      (λ e x i. (i, f.1))
      (λ e x i. let opened = sym f.0.fields.wait ∙ e in (i, search (arith, f)))

  -- line 11: a completed call is released, another has the turn
  pub answers : Does n h v v' t L11 request answer → Control n h v' (noted v t g L11)
  answers run =
      let f = known c run in
      forks c run refl (v.node (v.thread t).my.0).completed 12 13 refl tt refl tt tt
      (λ e x i.
      let done = ltb-true (g.at t) g.d (sym f.0.fields.completed ∙ e) in
      let released = waits_free g.r g.b g.given (g.at t) f.1.gate (λ z. omega (arith, f.1.even z, c.order)) in
      (i, search (arith, f)))
      (λ e x i.
      let left = ltb-false (g.at t) g.d (sym f.0.fields.completed ∙ e) in
      let turn = waits_held g.r g.b g.given (g.at t) f.1.gate (omega (arith, c.order)) in
      (i, search (arith, f)))

  -- line 13: the turn begins at the thread's own position
  pub begins_turn : 0 < h → Does n h v v' t L13 request answer → Control n h v' (noted v t g L13)
  begins_turn some run =
      let f = known c run in
      let turn = f.1.gate in
      let even = f.1.even turn in
      let at : g.at t ≡ g.k = turn ∙ sym even.k in
      let serving = placed c t run.below (inside c run tt) ∙ ap (node_at g) at in
      let joined = sym (ap g.joined at) ∙ f.1.joined in
      moves c run refl 14 refl tt refl tt (λ x i. (i, search (arith, f, even, c.order)))

  -- line 27 takes a next back, whosever it is by now
  pub takes_back : Does n h v v' t L27 request answer → Control n h v' (noted v t g L27)
  takes_back run =
      home c run refl 28 refl tt g.joined no_joins (quiet c run refl refl)
      (λ u k x q y. by_equal (v.thread u).my.0 (v.thread t).tmp.0 (λ w. rw (w, run.there)) (λ w. rw (run.elsewhere _ w) y))
      (λ i lo hi. by_equal (node_at g i) (v.thread t).tmp.0 (λ w. none (rw (w, run.there))) (λ w. rw (run.elsewhere _ w) (c.link i lo hi)))
      (λ _. tt)
      (old_in g t (leave v27) _ tt (leave v28) tt (mine_old c run))
      (λ x i. (i, (known c run).1))
