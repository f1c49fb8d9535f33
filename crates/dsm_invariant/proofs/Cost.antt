-- Every line keeps Cost, and a call that another serves costs two remote references. Assumes Control and Tip before the line, and at most 16 threads.
use Prim.Native.Nat.{ℕ, ◌+◌, ◌/◌, ◌≤◌, ◌<◌}
use native.Mathlib.Omega.{arith}
use mathlib.Core.Path.{◌≡◌, refl, sym, ◌∙◌, ap}
use mathlib.Core.Bool.{Bool, cond, not, ◌&&◌}
use mathlib.Core.List.{List}
use lib.Dec.{T, eqb, leb}
use borrow.Author.Tests.{eq-eqb, ne_eqb, le-leb, lt-leb}
use Rattle.object.specs.declared.Request.{Request}
use Rattle.object.specs.declared.Answer.{Answer}
use Rattle.object.specs.Paper.{within}
use Rattle.object.proofs.Choice.{by_equal, by_order, either}
use Rattle.object.proofs.Within.{within_range}
use Rattle.machine.specs.declared.Method.TheVariants.{DsmSynch}
use Rattle.machine.specs.declared.NodeId.{NodeId}
use Rattle.machine.specs.declared.Node.{Node}
use Rattle.machine.specs.declared.Thread.{Thread}
use Rattle.machine.specs.Owners.{owner_of}
use Rattle.dsm_lines.specs.Lines.{Line, number, accesses}
use Rattle.dsm_lines.proofs.Numbers.{each_line}
use Rattle.copies.specs.Remote.{referred_by}
use Rattle.step.specs.Entry.{one_if}
use Rattle.invariant.specs.Ledger.{upd}
use Rattle.invariant.specs.View.{View}
use Rattle.invariant.proofs.Upd.{upd_same, upd_other}
use Rattle.dsm_invariant.specs.Ledger.{Ledger}
use Rattle.dsm_invariant.specs.View.{first, Does}
use Rattle.dsm_invariant.specs.Control.{Control}
use Rattle.dsm_invariant.specs.Tip.{Tip}
use Rattle.dsm_invariant.specs.Cost.{remote_at, price, Cost}
use Rattle.dsm_invariant.proofs.Places.{from}
use Rattle.dsm_invariant.proofs.Follows.{each_after, each_run}
use Rattle.dsm_invariant.proofs.Threads.{chosen, known_there, my_home}
use Rattle.dsm_invariant.proofs.Tip.{owner, swap_gives}

-- 1 where a node is not thread t's
abbrev pub another : ℕ → NodeId → ℕ
another t m = cond (eqb (owner_of m) t) 0 1

-- the lines from 3 to 12 that go to a node
abbrev pub touches : ℕ → Bool
touches k = leb 3 k && not (eqb k 8)

-- of lines 0 to 12, in any state, 7 makes one remote reference, 9 one unless myPredNode is the thread's own, and the others none unless myNode is another's: so
-- a call that has come to line 12 has made two, or one if its Swap gave a node of its own
abbrev pub early : ℕ → Thread → ℕ → ℕ
early t th k = cond (eqb k 7) 1 (cond (eqb k 9) (another t th.pred) (cond (touches k) (another t th.my) 0))

pub remote_early : (n t : ℕ) (copies : List ℕ) (th : Thread) (x : Node) (l : Line) → number l ≤ 12
    → (referred_by DsmSynch n t copies (accesses th x l)).remote ≡ early t th (number l)
remote_early n t copies th x l low =
    let Early : Line → Type 0 = λ l. (referred_by DsmSynch n t copies (accesses th x l)).remote ≡ early t th (number l) in
    rw (le-leb (number l) 12 low) at (each_line (λ (l : Line). cond (leb (number l) 12) (Early l) Unit) (omega arith) l)

module _ {n h : ℕ} {v v' : View} {g : Ledger} {t : ℕ} {l : Line} {request : Request} {answer : Answer} {cost : ℕ → ℕ} (copies : List ℕ) (small : n ≤ 16)
    (control : Control n h v g) (tip : Tip n v g) (before : Cost n v cost) (run : Does n h v v' t l request answer) where
  stands_at : 2 ≤ number l → (v.thread t).line ≡ number l
  stands_at from = run.stands ∙ rw (lt-leb (number l) 1 from)

  -- lines 3 to 12 find their own node at hand
  near : 2 < number l → number l ≤ 12 → another t (v.thread t).my ≡ 0
  near above low =
      let there : T (chosen (from l)) = rw (lt-leb (number l) 2 above, lt-leb 14 (number l) (omega arith)) at (known_there l) in
      rw (my_home control t run.below (rw run.stands there), owner t (control.old t run.below).toggled, eq-eqb t t refl)

  pays : 2 ≤ number l → number l ≤ 12 → remote_at n v t copies l ≡ one_if (eqb (number l) 7) + one_if (eqb (number l) 9)
  pays from low =
      remote_early n t copies (v.thread t) (first v t l) l low
      ∙ by_equal (number l) 7 (λ q. rw q) λ p.
      by_equal (number l) 9
      (λ q. rw (q, ne_eqb (owner_of (v.thread t).pred) t (before.foreign t run.below (omega (arith, stands_at from)) (omega (arith, stands_at from))))) λ q.
      by_order 2 (number l)
      (λ above. rw (ne_eqb (number l) 7 p, ne_eqb (number l) 9 q) (either (λ (k : ℕ). k ≡ 0) (touches (number l)) (λ _. near above low) (λ _. refl)))
      (λ two. let z : number l ≡ 2 = omega arith in rw z)

  -- a thread comes to lines 2 to 12 by lines 1 to 12, and what they make is what the price grows by
  comes_early : 2 ≤ (v'.thread t).line → (v'.thread t).line ≤ 12 → (1 ≤ number l) × (number l ≤ 12)
  comes_early low high =
      let inside = (within_range 2 (v'.thread t).line 12).1 (low, high) in (
        rw inside at (each_run run (λ k event j. 1 ≤ cond (within 2 j 12) k 1) (omega arith) (omega arith)),
        rw inside at (each_run run (λ k event j. cond (within 2 j 12) k 1 ≤ 12) (omega arith) (omega arith)),
      )

  price_grows : 2 ≤ (v'.thread t).line → (v'.thread t).line ≤ 12
      → price (v'.thread t).line ≡ cond (eqb (number l) 1) 0 (price (number l)) + (one_if (eqb (number l) 7) + one_if (eqb (number l) 9))
  price_grows low high =
      rw ((within_range 2 (v'.thread t).line 12).1 (low, high)) at (each_run run
      (λ k event j. cond (within 2 j 12) (price j) 0 ≡ cond (within 2 j 12) (cond (eqb k 1) 0 (price k) + (one_if (eqb k 7) + one_if (eqb k 9))) 0)
      (omega arith) (omega arith))

  spent_before : 2 ≤ number l → number l ≤ 12 → cost t ≡ price (number l)
  spent_before from low = rw (stands_at from) at (before.spent t run.below) from low

  spent_after : 2 ≤ (v'.thread t).line → (v'.thread t).line ≤ 12 → cond (eqb (number l) 1) 0 (cost t) + remote_at n v t copies l ≡ price (v'.thread t).line
  spent_after low high =
      let early = comes_early low high in
      by_equal (number l) 1
      (λ q. rw (price_grows low high, q) (omega (arith, rw q at (remote_early n t copies (v.thread t) (first v t l) l early.1))))
      (λ q.
      let from : 2 ≤ number l = omega (arith, early) in
      rw (price_grows low high, ne_eqb (number l) 1 q) (omega (arith, pays from early.1, spent_before from early.1)))

  -- and to 8 and 9 by 7 and 8: the Swap gave another's node
  foreign_after : 8 ≤ (v'.thread t).line → (v'.thread t).line ≤ 9 → owner_of (v'.thread t).pred ≡ t → ⊥
  foreign_after low high e =
      let inside = (within_range 8 (v'.thread t).line 9).1 (low, high) in
      let least : 7 ≤ number l = rw inside at (each_run run (λ k event j. 7 ≤ cond (within 8 j 9) k 7) (omega arith) (omega arith)) in
      let most : number l ≤ 8 = rw inside at (each_run run (λ k event j. cond (within 8 j 9) k 8 ≤ 8) (omega arith) (omega arith)) in
      let pred = each_after run (λ m th. th.pred.0 ≡ cond (eqb (number m) 7) v.tail.0 (cond (eqb (number m) 1) 255 (v.thread t).pred.0)) (omega arith) in
      by_equal (number l) 7
      (λ q. swap_gives control run tip small q (sym (ap (λ (m : ℕ). m / 2) (rw q at pred)) ∙ e))
      (λ q. before.foreign t run.below (omega (arith, stands_at (omega arith))) (omega (arith, stands_at (omega arith)))
      (sym (ap (λ (m : ℕ). m / 2) (rw (ne_eqb (number l) 7 q, ne_eqb (number l) 1 (λ z. omega arith)) at pred)) ∙ e))

  pub cost_kept : Cost n v' (upd cost t (cond (eqb (number l) 1) 0 (cost t) + remote_at n v t copies l))
  cost_kept = record {
    spent = λ u below. by_equal u t (λ same. rw (same, upd_same) spent_after) (λ apart. rw (run.others u apart, upd_other cost t _ u apart) (before.spent u below));
    foreign = λ u below. by_equal u t (λ same. rw same foreign_after) (λ apart. rw (run.others u apart) (before.foreign u below));
  }

  -- a call that another serves returns at 12, with two
  pub returns_12 : number l ≡ 12 → cost t + remote_at n v t copies l ≡ 2
  returns_12 q = omega (arith, rw q at (pays (omega arith) (omega arith)), rw q at (spent_before (omega arith) (omega arith)))

-- at the start no call is open
pub cost_fresh : (n : ℕ) (v : View) (cost : ℕ → ℕ) → ((u : ℕ) → u < n → (v.thread u).line ≡ 0) → Cost n v cost
cost_fresh n v cost idle = record { spent = λ u below low. absurd (omega (arith, idle u below)); foreign = λ u below low. absurd (omega (arith, idle u below)) }
