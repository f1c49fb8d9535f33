-- The Swap, line 7, keeps the invariant: the thread's node becomes that of the last position. Assumes Control.
use Prim.Native.Nat.{ℕ, suc, ◌≤◌, ◌<◌}
use native.Mathlib.Omega.{arith}
use mathlib.Core.Path.{◌≡◌, refl, sym, ◌∙◌, ap, ap₂}
use mathlib.Core.Bool.{false}
use borrow.Author.Tests.{le-ltb}
use Rattle.object.specs.declared.Request.{Request}
use Rattle.object.specs.declared.Answer.{Answer}
use Rattle.machine.specs.declared.NodeId.{NodeId}
use Rattle.dsm_lines.specs.Lines.{L7}
use Rattle.machine.specs.Threads.{with_pred}
use Rattle.invariant.specs.View.{View}
use Rattle.dsm_invariant.specs.Stages.{wait, w8, stage_of}
use Rattle.dsm_invariant.specs.Ledger.{Ledger, node_number, node_at, swapped}
use Rattle.dsm_invariant.specs.View.{Does}
use Rattle.dsm_invariant.specs.Control.{Tailed, empty, last, Link, none, Old, Pred, first, after, Seat, Real, ThreadFacts, Control}
use Rattle.object.proofs.Choice.{by_equal}
use Rattle.invariant.proofs.Upd.{upd_same, upd_other}
use Rattle.invariant.proofs.Waits.{waits_new}
use Rattle.dsm_invariant.proofs.Places.{queued_in, known, mine_old}
use Rattle.dsm_invariant.proofs.Stable.{Grown, kept_same, rely_still, place_same, link_stable, old_stable, facts_stable}
use Rattle.dsm_invariant.proofs.Frame.{kept}

module _ {n h : ℕ} {v v' : View} {g : Ledger} {t : ℕ} {request : Request} {answer : Answer} (c : Control n h v g)
    (run : Does n h v v' t L7 request answer) where
  abbrev toggle : ℕ
  toggle = (v.thread t).toggle

  abbrev g' : Ledger
  g' = swapped v t g

  node_now : (m : ℕ) → v'.node m ≡ v.node m
  node_now = kept c run refl

  -- the ledger after the Swap
  grown : Grown g g'
  grown = record {
    s = omega arith;
    a = omega arith;
    r = omega arith;
    b = omega arith;
    who = λ i k. upd_other _ _ _ i (omega arith);
    bit = λ i k. upd_other _ _ _ i (omega arith);
    joined = λ i k e. upd_other _ _ _ i (omega arith) ∙ e;
  }

  who_last : g'.who g.s ≡ t
  who_last = upd_same g.who g.s t

  bit_last : g'.bit g.s ≡ toggle
  bit_last = upd_same g.bit g.s toggle

  node_last : node_at g' g.s ≡ (v.thread t).my.0
  node_last = ap₂ node_number who_last bit_last ∙ sym ((known c run).chosen tt)

  at_mine : g'.at t ≡ g.s
  at_mine = upd_same g.at t g.s

  -- what Tail was is the predecessor
  pred_now : Tailed g v.tail.0 → Pred g' g.s v.tail.0
  pred_now (empty e p) = first (sym e) p
  pred_now (last j e z p) = after j e (p ∙ sym (place_same g g' grown j (omega arith)))

  mine_facts : ThreadFacts n h g' t (with_pred (v.thread t) 8 v.tail) (v.node (v.thread t).my.0)
  mine_facts =
      let f = known c run in
      rw at_mine (
        record {
          below = rw at_mine (omega arith);
          who = rw at_mine who_last;
          bit = rw at_mine bit_last;
          home = f.chosen tt;
          fields = record {
            wait = f.wait tt ∙ rw at_mine (sym (waits_new g.r g.b g.given g.s (omega (arith, c.order)) c.given));
            completed = f.completed tt ∙ rw at_mine (sym (le-ltb g.s g.d (omega (arith, c.order))));
          };
        },
        record {
          none_served = f.begun tt;
          joined = upd_same g.joined g.s false;
          early = λ _. omega (arith, c.order);
          even = λ e. omega (arith, c.order, e);
          gate = pred_now c.tailed;
        },
      )

  mine_old_now : Old g' t (wait w8) toggle
  mine_old_now =
      let f = mine_old c run in
      record {
        toggled = f.toggled;
        bit = λ i k w e z.
            let apart : i ≡ g.s → ⊥ = λ x. z tt (x ∙ sym at_mine) in
            let lo : i < g.s = omega arith in
            grown.bit i lo ∙ f.bit i lo w (sym (grown.who i lo) ∙ e) absurd;
        before = λ i k w e z. omega (arith, at_mine);
      }

  -- the other threads: their positions and nodes are as they were
  other_facts : (u : ℕ) → u < n → (u ≡ t → ⊥) → ThreadFacts n h g' u (v.thread u) (v.node (v.thread u).my.0)
  other_facts u k e =
      facts_stable g g' grown u n h (stage_of (v.thread u).line) (v.thread u) _ _
      (λ q. rely_still u
      (record { a = refl; d = refl; r = refl; b = refl; k = refl; given = refl })
      (upd_other _ _ _ u e)
      (upd_other _ _ _ _ (omega (arith, (queued_in c u k q).below))))
      (λ q. let f = (queued_in c u k q).fields in search f)
      (λ q. kept_same refl)
      (c.facts u k)

  other_old : (u : ℕ) → u < n → (u ≡ t → ⊥) → Old g' u (stage_of (v.thread u).line) (v.thread u).toggle
  other_old u k e =
      old_stable g g' grown u _ _ (upd_other _ _ _ u e)
      (λ i lo hi z. let y : i ≡ g.s = omega arith in e (sym z ∙ rw y who_last))
      (c.old u k)

  real_now : (i : ℕ) → i < suc g.s → Real n g' i
  real_now i k =
      by_equal i g.s
      (λ e. rw e (record { who = rw who_last run.below; bit = rw bit_last (mine_old c run).toggled }))
      (λ e.
      let lo : i < g.s = omega arith in
      let f = c.real i lo in
      record { who = rw (grown.who i lo) f.who; bit = rw (grown.bit i lo) f.bit })

  seat_now : (i : ℕ) → g.a ≤ i → i < suc g.s → Seat n v' g' i
  seat_now i lo hi =
      by_equal i g.s
      (λ e. rw e (record { who = rw who_last run.below; queued = rw (who_last, run.mine) tt; at = rw (who_last, at_mine) }))
      (λ e.
      let f = c.seat i lo (omega arith) in
      let who = grown.who i (omega arith) in
      let apart : g.who i ≡ t → ⊥ = λ z. rw (z, run.stands) at f.queued in
      record { who = rw who f.who; queued = rw (who, run.others _ apart) f.queued; at = rw who (upd_other _ _ _ _ apart ∙ f.at) })

  link_now : (i : ℕ) → i < suc g.s → g.a ≤ suc i → Link g' i (v'.node (node_at g' i)).next.0
  link_now i hi lo =
      by_equal i g.s
      (λ e. none (rw (e, node_last, node_now) ((known c run).next tt)))
      (λ e. rw (place_same g g' grown i (omega arith), node_now) (link_stable g g' grown i _ (c.link i (omega arith) lo)))

  pub swap : Control n h v' g'
  swap = record {
    order = omega (arith, c.order);
    given = λ q. omega (arith, c.given q);
    tailed = last g.s refl (omega (arith, c.order)) (ap (λ (m : NodeId). m.0) run.tail ∙ sym node_last);
    real = real_now;
    seat = seat_now;
    link = link_now;
    old = λ u k. by_equal u t (λ e. rw (e, run.mine) mine_old_now) (λ e. rw (run.others u e) (other_old u k e));
    facts = λ u k. by_equal u t (λ e. rw (e, run.mine, node_now) mine_facts) (λ e. rw (run.others u e, node_now) (other_facts u k e));
  }
