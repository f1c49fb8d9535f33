-- Every line keeps Tip, and so a Swap gives no node of its own thread. Assumes Control, and at most 16 threads.
use Prim.Native.Nat.{ℕ, suc, ◌/◌, ◌≤◌, ◌<◌}
use native.Mathlib.Omega.{arith}
use mathlib.Core.Path.{◌≡◌, sym, ◌∙◌, ap}
use mathlib.Core.Bool.{true, false, cond, not, ◌&&◌, ◌||◌}
use lib.Dec.{T, eqb, leb}
use lib.Ieee.Bits.{is_true}
use borrow.Author.Tests.{eqb-false, ne_eqb}
use Rattle.object.specs.declared.Request.{Request}
use Rattle.object.specs.declared.Answer.{Answer}
use Rattle.object.proofs.Choice.{by_equal, by_order, by_test, both_fail}
use Rattle.machine.specs.Fields.{is_null}
use Rattle.machine.specs.Lines.{stands_at}
use Rattle.machine.specs.Owners.{owner_of}
use Rattle.machine.proofs.Owners.{owns_both}
use Rattle.dsm_lines.specs.Lines.{Line, number, L19}
use Rattle.dsm_lines.proofs.Numbers.{by_line}
use Rattle.invariant.specs.View.{View}
use Rattle.invariant.proofs.Upd.{upd_same}
use Rattle.dsm_invariant.specs.Stages.{stage_of, queued}
use Rattle.dsm_invariant.specs.Ledger.{Ledger, node_number, node_at, noted, fresh_ledger}
use Rattle.dsm_invariant.specs.View.{first, behind, Does}
use Rattle.dsm_invariant.specs.Control.{Tailed, empty, last, Seat, Control, InQueue}
use Rattle.dsm_invariant.specs.Tip.{Tip}
use Rattle.dsm_invariant.proofs.Places.{from, facts_at, linked, next_right}
use Rattle.dsm_invariant.proofs.Notes.{ending, Notes, notes, at_swap, at_kept}
use Rattle.dsm_invariant.proofs.Follows.{onto, each_run, line_after}
use Rattle.dsm_invariant.proofs.Threads.{HasTurn, last_line, by_last, by_ending, one_turn, known_at}

-- the owner of a thread's node
pub owner : (u : ℕ) {x : ℕ} → x ≤ 1 → node_number u x / 2 ≡ u
unfolding node_number
owner u {x} one = owns_both u x one

-- line 19 goes on to 21 where it finds a next behind the next
sees_two : {n h : ℕ} {v v' : View} {g : Ledger} {t : ℕ} {request : Request} {answer : Answer} → Control n h v g → Does n h v v' t L19 request answer
    → (v'.thread t).line ≡ 21 → suc (suc g.k) < g.s
sees_two {h = h} {v} {g = g} {t} c run e =
    by_test (is_null (first v t L19).next || (is_null (behind v t L19).next || leb h (v.thread t).served))
    (λ stops. absurd (omega (arith, rw stops at (sym (line_after run) ∙ e))))
    (λ goes.
    let f = (facts_at c t 19 run.below run.stands).1 in
    let tests = both_fail (is_null (first v t L19).next) (is_null (behind v t L19).next || leb h (v.thread t).served) goes in
    let one = next_right c f tests.0 in
    let two : is_null (v.node (node_at g (suc g.k))).next ≡ false =
    ap (λ (m : ℕ). is_null (v.node m).next) (sym one.2) ∙ (both_fail (is_null (behind v t L19).next) (leb h (v.thread t).served) tests.1).0 in
    (linked (suc g.k) (eqb-false _ 255 two) (c.link (suc g.k) one.0 (omega (arith, f.applied)))).0)

module _ {n h : ℕ} {v v' : View} {g : Ledger} {t : ℕ} {l : Line} {request : Request} {answer : Answer} (c : Control n h v g)
    (run : Does n h v v' t l request answer) (x : Tip n v g) where
  abbrev g' : Ledger
  g' = noted v t g l

  note : Notes v t g (number l) g'
  note = notes v t g l

  -- the line after which a thread is at 21 is 19, and a thread in the queue stays there but by a call's last line
  to_21 : (v'.thread t).line ≡ 21 → number l ≡ 19
  to_21 e =
      by_equal (number l) 19 (λ q. q)
      (λ q. absurd (rw (e, ne_eqb (number l) 19 q) at (each_run run (λ k event j. T (cond (eqb j 21) (eqb k 19) true)) (omega arith) (omega arith))))

  stays_queued : T (queued (from l)) → last_line (number l) ≡ false → InQueue v' t
  stays_queued q other =
      rw (is_true (queued (from l)) q, other) at
      (each_run run (λ k event j. T (cond (queued (stage_of (stands_at k)) && not (last_line k)) (queued (stage_of j)) true)) (omega arith) (omega arith))

  still_queued : (u : ℕ) → (u ≡ t → last_line (number l) ≡ true → ⊥) → InQueue v u → InQueue v' u
  still_queued u stays q =
      by_equal u t
      (λ same. rw same (by_test (last_line (number l)) (λ over. absurd (stays same over)) (stays_queued (rw (same, run.stands) at q))))
      (λ apart. rw (run.others u apart) q)

  here : {k : ℕ} → number l ≡ k → (v.thread t).line ≡ stands_at k
  here q = run.stands ∙ ap stands_at q

  -- tmpNode's position moves at 21, and where a turn ends; that of the turn is never taken back
  still : ending v t (number l) ≡ false → (number l ≡ 21 → ⊥) → g'.k ≡ g.k
  still over other = note.k ∙ rw (over, ne_eqb (number l) 21 other) (omega arith)

  turn_grows : g.b ≤ g'.b
  turn_grows = by_test (ending v t (number l)) (λ over. omega (arith, rw over at note.b, c.order)) (λ over. omega (arith, rw over at note.b))

  -- while t runs a line, another that is in its turn keeps tmpNode's position
  tmp_kept : (u : ℕ) → u < n → (u ≡ t → ⊥) → HasTurn v u → g'.k ≡ g.k
  tmp_kept u below apart turn =
      let clash : HasTurn v t → ⊥ = λ mine. apart (one_turn c u t below run.below turn mine) in
      by_test (ending v t (number l)) (λ over. absurd (by_ending v t (number l) over (λ q. clash (rw (here q) tt)) (λ q _. clash (rw (here q) tt))))
      (λ over. by_equal (number l) 21 (λ q. absurd (clash (rw (here q) tt))) (still over))

  behind_after : g'.b < g'.k → suc g'.k < g'.s
  behind_after z =
      by_test (ending v t (number l)) (λ over. absurd (omega (arith, rw over at note.b, rw over at note.k))) λ over.
      by_equal (number l) 21
      (λ q. omega (arith, x.ahead t run.below (here q), rw (over, q) at note.k, note.s))
      (λ q. let same = still over q in let turn = rw over at note.b in omega (arith, x.behind (omega arith), note.s))

  ahead_after : (u : ℕ) → u < n → (v'.thread u).line ≡ 21 → suc (suc g'.k) < g'.s
  ahead_after u below e =
      by_equal u t
      (λ same.
      let here_21 : (v'.thread t).line ≡ 21 = rw same at e in
      let q = to_21 here_21 in
      let two = by_line (λ (l : Line). Does n h v v' t l request answer → suc (suc g.k) < g.s) l q (λ run. sees_two c run here_21) run in
      omega (arith, still (rw q) (λ z. omega arith), note.s))
      (λ apart.
      let before : (v.thread u).line ≡ 21 = rw (run.others u apart) at e in
      omega (arith, x.ahead u below before, tmp_kept u below apart (rw before tt), note.s))

  -- who returns is not at the last position while anyone has the turn
  not_last : last_line (number l) ≡ true → g.b < g.s → g.s ≡ suc (g.at t) → ⊥
  not_last over turn e =
      by_last (number l) over
      (λ q.
      let f = (known_at c l run.below run.stands q).1 in
      by_order g.b g.k (λ z. omega (arith, x.behind z, f.gate, c.order))
      (λ z. by_equal (g.at t) g.b (λ q. omega (arith, f.even q, f.gate, c.order)) (λ q. omega (arith, f.gate, c.order))))
      (λ q. omega (arith, (known_at c l run.below run.stands q).1.past))
      (λ q. omega (arith, (known_at c l run.below run.stands q).1.past))

  -- a Swap's own call is at the last position
  seat_swapped : number l ≡ 7 → Seat n v' g' g.s
  seat_swapped q =
      let who : g'.who g.s ≡ t = note.who g.s ∙ rw q (upd_same g.who g.s t) in
      record {
        who = rw who run.below;
        queued = rw (who, line_after run) (by_line (λ (m : Line). T (queued (stage_of (onto h v t m)))) l q tt);
        at = ap g'.at who ∙ at_swap v t g l q;
      }

  -- and else the one that was there stays
  seat_kept : (number l ≡ 7 → ⊥) → g.b < g.s → (j : ℕ) → g.s ≡ suc j → Seat n v' g' j
  seat_kept other turn j e =
      let old = x.seat turn j e in
      let who : g'.who j ≡ g.who j = note.who j ∙ rw (ne_eqb (number l) 7 other) in
      record {
        who = rw who old.who;
        queued = rw who (still_queued (g.who j) (λ same over. not_last over turn (e ∙ ap suc (sym (rw same at old.at)))) old.queued);
        at = ap g'.at who ∙ at_kept v t g l (g.who j) (λ _. other) ∙ old.at;
      }

  seat_after : g'.b < g'.s → (j : ℕ) → g'.s ≡ suc j → Seat n v' g' j
  seat_after turn j e =
      by_equal (number l) 7
      (λ q. let same : j ≡ g.s = omega (arith, rw q at note.s) in rw same (seat_swapped q))
      (λ q. let s = rw (ne_eqb (number l) 7 q) at note.s in seat_kept q (omega (arith, turn_grows)) j (omega arith))

  pub tip_kept : Tip n v' (noted v t g l)
  tip_kept = record { behind = behind_after; ahead = ahead_after; seat = seat_after }

  -- a Swap gives no node of its own thread
  pub swap_gives : n ≤ 16 → number l ≡ 7 → owner_of v.tail ≡ t → ⊥
  swap_gives small q = go c.tailed
    where
      go : Tailed g v.tail.0 → owner_of v.tail ≡ t → ⊥
      go (empty e p) z = omega (arith, run.below)
      go (last j e turn p) z =
          let same : g.who j ≡ t = sym (owner (g.who j) (c.real j (omega arith)).bit) ∙ sym (ap (λ (m : ℕ). m / 2) p) ∙ z in
          rw (same, run.stands ∙ ap stands_at q) at (x.seat turn j e).queued

-- at the start there is no Swap
pub tip_fresh : (n : ℕ) (v : View) → ((u : ℕ) → u < n → (v.thread u).line ≡ 0) → Tip n v fresh_ledger
tip_fresh n v idle = record {
  behind = λ z. absurd (omega arith);
  ahead = λ u k e. absurd (omega (arith, idle u k));
  seat = λ z. absurd (omega arith);
}
