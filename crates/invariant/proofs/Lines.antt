-- Every line keeps Control. Assumes Control before it, n at most 16 and h above 0.
use Prim.Native.Nat.{ℕ, suc, ◌≤◌, ◌<◌}
use native.Mathlib.Omega.{arith}
use mathlib.Core.Path.{◌≡◌, refl, sym, ◌∙◌, ap, subst}
use mathlib.Core.Bool.{Bool, true, false, cond, not, ◌&&◌, false≢true, and-eq-true_iff}
use lib.Dec.{T, ltb}
use borrow.Author.Tests.{lt-ltb, eq-eqb, ne_eqb, ltb-true, ltb-false}
use Rattle.object.specs.declared.Request.{Request}
use Rattle.object.specs.declared.Answer.{Answer}
use Rattle.machine.specs.declared.Node.{Node}
use Rattle.machine.specs.declared.Thread.{Thread}
use Rattle.machine.specs.Fields.{is_null}
use Rattle.cc_lines.specs.Lines.{Line, L0, L1, L2, L3, L4, L5, L6, L7, L8, L9, L10, L11, L12, L13, L14, L15, L16, L17, L18, L19, L20, L21}
use Rattle.machine.specs.Threads.{goes}
use Rattle.invariant.specs.Stages.{queued}
use Rattle.invariant.specs.Ledger.{Ledger, noted}
use Rattle.invariant.specs.View.{View, Does}
use Rattle.invariant.specs.Control.{holding, slot, slot_of_thread, NodeFields, StageFacts, Control}
use Rattle.object.proofs.Choice.{by_order}
use Rattle.invariant.proofs.Upd.{upd_same, upd_other, upd_more}
use Rattle.invariant.proofs.Waits.{waits_below, waits_turn, waits_free, waits_held}
use Rattle.invariant.proofs.Seats.{stage_at, known, seats_apart, fields_at, node_bound, linked_below}
use Rattle.invariant.proofs.Frame.{no_links, kept, wrote, from, home, far}
use Rattle.invariant.proofs.Swap.{swap}

-- thread t of n runs a line; h bounds the requests of a turn
module _ (n h : ℕ) (small : n ≤ 16) (some : 0 < h) (v v' : View) (g : Ledger) (t : ℕ) (request : Request) (answer : Answer) (c : Control n h v g) where
  abbrev Run : Line → Type 0
  Run l = Does n h v v' t l request answer

  abbrev th : Thread
  th = v.thread t

  -- the node that tmpNode points to
  abbrev tmp : Node
  tmp = v.node (v.thread t).tmp.0

  -- what the thread knows before its line
  knows : {l : Line} → Run l → StageFacts h g t (from l) (slot_of_thread th) (v.node (holding (from l) th))
  knows run = known c run refl

  -- line 7 links the thread's position
  link : Run L7 → Control n h v' (noted n t th.own.0 g L7)
  link run =
      let f = knows run in
      let l = upd_same g.linked (g.at t) true in
      let k : T (queued (slot n v t).stage) = rw (stage_at c t _ run.below run.stands) tt in
      home c run _ refl refl tt refl
      (record {
        more = upd_more g.linked (g.at t);
        same = λ u j e q. upd_other _ _ _ _ (λ z. e (seats_apart c u t j (omega (arith, run.below)) q k z));
      })
      (wrote run)
      (λ q k. tt) (
        record {
          who = f.0.who;
          node = f.0.node;
          fields = record { next = rw l (f.1.swapped tt); wait = f.0.fields.wait; completed = f.0.fields.completed };
        },
        search (arith, absurd, f),
      )

  -- line 9 goes on when wait is false
  spins : Run L9 → (b : Bool) → (v.node th.cur.0).wait ≡ b → Control n h v' g
  spins run true e = home c run (goes th 9) (ap (λ z. goes th (cond z 9 10)) e) refl tt refl no_links (kept run refl _) (λ q k. tt) (knows run)
  spins run false e =
      let f = knows run in
      let free = sym f.0.fields.wait ∙ e in
      home c run (goes th 10) (ap (λ z. goes th (cond z 9 10)) e) refl tt refl no_links (kept run refl _) (λ q k. tt) (search (arith, f))

  -- line 10: a completed one is released, another has the turn
  answers : Run L10 → (b : Bool) → (v.node th.cur.0).completed ≡ b → Control n h v' g
  answers run true e =
      let f = knows run in
      let done = ltb-true (g.at t) g.d (sym f.0.fields.completed ∙ e) in
      let released = waits_free g.r g.b true (g.at t) (f.1.free tt) (λ z. omega (arith, f.1.even z, c.order)) in
      home c run (goes th 11) (ap (λ z. goes th (cond z 11 12)) e) refl tt refl no_links (kept run refl _) (λ q k. tt) (search (arith, absurd, f))
  answers run false e =
      let f = knows run in
      let left = ltb-false (g.at t) g.d (sym f.0.fields.completed ∙ e) in
      let turn = waits_held g.r g.b true (g.at t) (f.1.free tt) (omega (arith, c.order)) in
      home c run (goes th 12) (ap (λ z. goes th (cond z 11 12)) e) refl tt refl no_links (kept run refl _) (λ q k. tt) (search (arith, absurd, f))

  -- line 12: the turn begins at the thread's own position
  begins_turn : Run L12 → Control n h v' g
  begins_turn run =
      let f = knows run in
      let turn = f.1.turn tt in
      let even = f.1.even turn in
      let back = f.1.home tt in
      let serving = sym f.0.node ∙ ap g.node (turn ∙ sym even.1) in
      home c run _ refl refl tt refl no_links (kept run refl _) (λ q k. tt) (f.0, search (arith, absurd, f, even, back, serving, c.order))

  -- the node to serve is that of position r
  serving : th.tmp.0 ≡ g.node g.r → NodeFields g g.r tmp
  serving e = subst (λ k. NodeFields g g.r (v.node k)) (sym e) (fields_at c g.r (omega arith) (omega (arith, c.order)))

  -- its next is null just if it is not linked
  linked_next : th.tmp.0 ≡ g.node g.r → not (is_null tmp.next) ≡ g.linked g.r
  linked_next e = go (g.linked g.r) refl
    where
      go : (b : Bool) → g.linked g.r ≡ b → not (is_null tmp.next) ≡ b
      go true z =
          let i = linked_below c g.r (omega (arith, c.order)) z in
          let k = node_bound c (suc g.r) (omega arith) i in
          ap not (ne_eqb tmp.next.0 255 (λ x. omega (arith, rw z at (serving e).next)))
      go false z = ap not (eq-eqb tmp.next.0 255 (rw z at (serving e).next))

  -- a turn that ends has served one at least: its own position is linked
  served_one : Run L13 → (not (is_null tmp.next) && ltb th.served h) ≡ false → g.b < g.r
  served_one run e =
      let f = knows run in
      by_order g.b g.r (λ k. k) (λ k.
      let z : g.b ≡ g.r = omega (arith, c.order) in
      let next = linked_next f.1.1.serving ∙ (rw (f.1.0.turn ∙ z) at f.1.0.linked) in
      absurd (false≢true (sym e ∙ rw (next, lt-ltb th.served h (omega (arith, f.1.1.counted))))))

  -- line 13 goes on to serve a linked node below h, or the turn ends
  goes_on : Run L13 → (b : Bool) → (not (is_null tmp.next) && ltb th.served h) ≡ b → Control n h v' g
  goes_on run true e =
      let f = knows run in
      let p = simp and-eq-true_iff at e in
      let room = ltb-true th.served h p.1 in
      let linked = sym (linked_next f.1.1.serving) ∙ p.0 in
      home c run (goes th 14) (ap (λ z. goes th (cond z 14 20)) e) refl tt refl no_links (kept run refl _) (λ q k. tt) (search (arith, f))
  goes_on run false e =
      let f = knows run in
      let past = served_one run e in
      home c run (goes th 20) (ap (λ z. goes th (cond z 14 20)) e) refl tt refl no_links (kept run refl _) (λ q k. tt) (search (arith, f))

  -- lines 16, 17, 18 and 20 write the node of position r and move one count
  applies : Run L16 → Control n h v' (noted n t th.own.0 g L16)
  applies run =
      let f = knows run in
      let e = f.1.1.serving in
      let i = linked_below c g.r (omega (arith, c.order)) (f.1.1.linked tt) in
      let p = serving e in
      far c run _ refl refl tt refl (suc g.a) g.d g.r g.b tt tt e (omega (arith, f, c.order)) (search p) (λ y q. (q, search (arith, f)))

  completes : Run L17 → Control n h v' (noted n t th.own.0 g L17)
  completes run =
      let f = knows run in
      let e = f.1.1.serving in
      let p = serving e in
      let done = sym (lt-ltb g.r (suc g.d) (omega (arith, f.1.1.completed))) in
      far c run _ refl refl tt refl g.a (suc g.d) g.r g.b tt tt e (omega (arith, f, c.order)) (search (p, done)) (λ y q. (q, search (arith, f)))

  releases : Run L18 → Control n h v' (noted n t th.own.0 g L18)
  releases run =
      let f = knows run in
      let e = f.1.1.serving in
      let p = serving e in
      let next = f.1.1.next tt in
      let free = sym (waits_below (suc g.r) g.b true g.r (omega arith)) in
      far c run _ refl refl tt refl g.a g.d (suc g.r) g.b tt tt e (omega (arith, f, c.order)) (search (p, free)) (λ y q. (q, search (arith, f, c.order)))

  passes : Run L20 → Control n h v' (noted n t th.own.0 g L20)
  passes run =
      let f = knows run in
      let e = f.1.1.serving in
      let p = serving e in
      let past = f.1.1.past tt in
      let free = sym (waits_turn g.r g.a true g.r (omega (arith, f.1.1.applied)) refl) in
      far c run _ refl refl tt refl g.a g.d g.r g.a tt tt e (omega (arith, f, c.order)) (search (p, free)) (λ y q. (q, search (arith, f)))

  -- the invariant is kept, by line
  pub control_kept : (l : Line) → Does n h v v' t l request answer → Control n h v' (noted n t (v.thread t).own.0 g l)
  control_kept L0 run = home c run _ (ap (goes th) run.stands) refl tt refl no_links (kept run refl _) (λ q k. q) (knows run)
  control_kept L1 run = home c run _ refl refl tt refl no_links (kept run refl _) (λ q k. q) (search (arith, absurd))
  control_kept L2 run = let f = knows run in home c run _ refl refl tt refl no_links (wrote run) (λ q k. q) (search (arith, f))
  control_kept L3 run = let f = knows run in home c run _ refl refl tt refl no_links (wrote run) (λ q k. q) (search (arith, f))
  control_kept L4 run = let f = knows run in home c run _ refl refl tt refl no_links (wrote run) (λ q k. q) (search (arith, f))
  control_kept L5 run = swap c run
  control_kept L6 run = let f = knows run in home c run _ refl refl tt refl no_links (wrote run) (λ q k. tt) (search (arith, f))
  control_kept L7 run = link run
  control_kept L8 run = let f = knows run in home c run _ refl refl tt refl no_links (kept run refl _) (λ q k. tt) (search (arith, absurd, f))
  control_kept L9 run = spins run _ refl
  control_kept L10 run = answers run _ refl
  control_kept L11 run =
      let f = knows run in home c run _ refl refl tt (f.1.home tt) no_links (kept run refl _) (λ q k. absurd (omega (arith, f.1.released tt))) (search absurd)
  control_kept L12 run = begins_turn run
  control_kept L13 run = goes_on run _ refl
  control_kept L14 run =
      let f = knows run in let room = f.1.1.room tt in home c run _ refl refl tt refl no_links (kept run refl _) (λ q k. tt) (search (arith, absurd, f))
  control_kept L15 run =
      let f = knows run in
      let next = rw (f.1.1.linked tt) at (serving f.1.1.serving).next in
      home c run _ refl refl tt refl no_links (kept run refl _) (λ q k. tt) (search (arith, f))
  control_kept L16 run = applies run
  control_kept L17 run = completes run
  control_kept L18 run = releases run
  control_kept L19 run = let f = knows run in home c run _ refl refl tt refl no_links (kept run refl _) (λ q k. tt) (search (arith, absurd, f))
  control_kept L20 run = passes run
  control_kept L21 run =
      let f = knows run in home c run _ refl refl tt f.1.home no_links (kept run refl _) (λ q k. absurd (omega (arith, f.1.past, c.order))) (search absurd)
