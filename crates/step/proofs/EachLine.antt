-- Each line of Algorithm 1 on numbers in range: what it leaves is in range again, but for the causes that `takes_out` names. Assumes what the module's
-- parameters say.
use Rattle.std.proofs.Common.{◌≡◌, ℕ, ◌+◌, ◌<◌, ◌≤◌, Bool, true, false, not, ◌&&◌, ltb, leb, ◌∷◌, refl, subst, arith, le-ltb, ne_eqb, leb-false, leb-true}
use mathlib.Core.Bool.{or-false, and-eq-true_iff, false≢true}
use borrow.Author.Tests.{lt-leb}
use Rattle.object.specs.declared.Kind.{Kind}
use Rattle.object.specs.declared.Request.{Request}
use Rattle.object.specs.declared.Answer.{Answer}
use Rattle.object.specs.Paper.{within, answer_in_range}
use Rattle.object.specs.Apply.{knows}
use Rattle.object.proofs.Choice.{either}
use Rattle.machine.specs.declared.Method.TheVariants.{CcSynch}
use Rattle.machine.specs.declared.NodeId.{NodeId}
use Rattle.machine.specs.declared.Node.{Node}
use Rattle.machine.specs.declared.Thread.{Thread}
use Rattle.machine.specs.Effect.{Effect}
use Rattle.machine.specs.declared.Pointer.{Pointer}
use Rattle.machine.specs.declared.Pointer.TheVariants.{Own, Cur, Tmp, My, Pred}
use Rattle.machine.specs.Fields.{is_null}
use Rattle.machine.specs.Accesses.{pointed}
use Rattle.cc_lines.specs.Lines.{Line, printed, line_of, row_of, L0, L1, L2, L3, L4, L5, L6, L7, L8, L9, L10, L11, L12, L13, L14, L15, L16, L17, L18, L19, L20, L21, number}
use Rattle.machine.specs.Threads.{goes, with_cur, with_tmp, with_served}
use Rattle.cc_synch.specs.Effect.{keeps, writes, uses_empty, takes_out, executed}
use Rattle.state.proofs.Kept.{first_at}
use Rattle.state.proofs.RangeFacts.{there, nowhere, ThreadFits, NodeFits, not_null, leb_iff}
use Rattle.machine.specs.Lines.{stands_at}
use Rattle.cc_lines.proofs.Numbers.{number_of}
use Rattle.step.proofs.Leaving.{Leaves, goes_on, kept, written, barred}

-- the lines at which a pointer of a thread of CC-Synch is a node for sure
abbrev sure : Pointer → ℕ → Bool
sure Own k = true
sure Cur k = leb 6 k
sure Tmp k = within 13 k 20
sure My k = false
sure Pred k = false

module _ (n h : ℕ) (th : Thread) where
  sure_at : (p : Pointer) (k : ℕ) → sure p k ≡ true → ThreadFits CcSynch n h th (stands_at k) → (pointed p th).0 ≤ n
  sure_at Own k e f = f.pointers.own
  sure_at Cur k e f =
      let from = leb-true 6 k e in
      rw (lt-leb k 1 (omega arith), le-ltb k 6 from) at f.pointers.cur
  sure_at Tmp k e f =
      let p = simp (and-eq-true_iff, leb_iff) at e in
      rw (lt-leb k 1 (omega arith), le-ltb k 13 p.0, ne_eqb k 21 (λ q. omega arith)) at f.pointers.tmp
  sure_at My k e f = absurd (false≢true e)
  sure_at Pred k e f = absurd (false≢true e)

  -- a line points to a node
  pub target_at : (k : ℕ) → k ≤ 21 → ThreadFits CcSynch n h th (stands_at k) → (pointed (row_of (line_of k)).node th).0 ≤ n
  target_at k b f =
      sure_at (row_of (line_of k)).node k
      (rw (number_of k b) at
      (first_at (λ (l : Line). sure (row_of l).node (number l)) 22 (L0 ∷ printed) k refl (omega arith) (omega arith) L0))
      f

module _ (n h : ℕ) (kind : Kind) (capacity : ℕ) (th : Thread) (x : Node) (tail : NodeId) (request : Request) (answer : Answer)
    (small : n ≤ 16) (tail_fits : tail.0 ≤ n) (x_fits : NodeFits kind capacity n x)
    (now : ThreadFits CcSynch n h th th.line) (known : 0 < th.begun → knows kind request ≡ true)
    (answer_fits : answer_in_range capacity answer ≡ true) where
  abbrev LeavesAt : ℕ → Effect → Type 0
  LeavesAt k e = Leaves CcSynch n h kind capacity th (uses_empty x k) (takes_out th x h k) e

  -- the forms of lines, with what they may miss and why they may be 14
  stays : (k : ℕ) (after : Thread) → after.count ≡ th.count → takes_out th x h k ≡ uses_empty x k → ThreadFits CcSynch n h after after.line
      → LeavesAt k (keeps th x tail after)
  stays k = kept CcSynch n h kind capacity th x tail tail_fits x_fits (uses_empty x k) (takes_out th x h k)

  writes_on : (k line : ℕ) (after : Node) → NodeFits kind capacity n after → takes_out th x h k ≡ uses_empty x k → ThreadFits CcSynch n h (goes th line) line
      → LeavesAt k (writes th x tail after line)
  writes_on k = written CcSynch n h kind capacity th x tail tail_fits x_fits (uses_empty x k) (takes_out th x h k)

  -- that the thread fits at the line that it goes on to
  abbrev AtLine : ℕ → Type 0
  AtLine line = ThreadFits CcSynch n h (goes th line) line

  -- line by line
  line_leaves : (l : Line) → ThreadFits CcSynch n h th (stands_at (number l)) → (number l ≡ 1 → th.begun < th.count)
      → LeavesAt (number l) (executed th x tail h request answer l)
  line_leaves L0 f g = stays 0 _ refl refl now
  line_leaves L1 f g = let room = g refl in stays 1 _ refl (simp (lt-leb th.count th.begun)) (search (arith, f, nowhere))
  line_leaves L2 f g = writes_on 2 _ _ (search (x_fits, nowhere)) refl (search (arith, f))
  line_leaves L3 f g = writes_on 3 _ _ (search x_fits) refl (search (arith, f))
  line_leaves L4 f g = writes_on 4 _ _ (search x_fits) refl (search (arith, f))
  line_leaves L5 f g = record {
    thread = goes_on CcSynch n h kind capacity th x tail tail_fits x_fits false false (with_cur th 6 tail) refl (search (arith, f));
    count = refl;
    tail = f.pointers.own;
    node = x_fits;
  }
  line_leaves L6 f g = writes_on 6 _ _ (search (x_fits, known f.begun)) refl (search (arith, f))
  line_leaves L7 f g = writes_on 7 _ _ (search (x_fits, there f.pointers.own)) refl (search (arith, f))
  line_leaves L8 f g = stays 8 _ refl refl (search (arith, f))
  line_leaves L9 f g = stays 9 _ refl refl (either AtLine x.wait (λ t. search (arith, f)) (λ t. search (arith, f)))
  line_leaves L10 f g = stays 10 _ refl refl (either AtLine x.completed (λ t. search (arith, f)) (λ t. search (arith, f)))
  line_leaves L11 f g = stays 11 _ refl refl (search (arith, f, there))
  line_leaves L12 f g = stays 12 _ refl refl (search (arith, f))
  line_leaves L13 f g = stays 13 _ refl refl (either AtLine (not (is_null x.next) && ltb th.served h) (λ t. search (arith, f)) (λ t. search (arith, f)))
  line_leaves L14 f g =
      barred CcSynch n h kind capacity th x tail tail_fits x_fits (uses_empty x 14) (takes_out th x h 14) (with_served th 15 (th.served + 1)) (leb h th.served) refl refl (simp or-false)
      (λ e. let below = leb-false h th.served e in search (arith, f))
      (λ after. lt-leb h th.served (omega (arith, after.served)))
  line_leaves L15 f g = stays 15 _ refl refl (search (arith, f, x_fits))
  line_leaves L16 f g = writes_on 16 _ _ (search (x_fits, answer_fits)) refl (search (arith, f))
  line_leaves L17 f g = writes_on 17 _ _ (search x_fits) refl (search (arith, f))
  line_leaves L18 f g = writes_on 18 _ _ (search x_fits) refl (search (arith, f))
  line_leaves L19 f g =
      barred CcSynch n h kind capacity th x tail tail_fits x_fits (uses_empty x 19) (takes_out th x h 19) (with_tmp th 13 th.tmpnext) (is_null th.tmpnext) refl refl (simp or-false)
      (λ e. let below = not_null f.pointers.tmpnext e in search (arith, f))
      (λ after. ne_eqb th.tmpnext.0 255 (λ q. omega (arith, after.pointers.tmp)))
  line_leaves L20 f g = writes_on 20 _ _ (search x_fits) refl (search (arith, f, there))
  line_leaves L21 f g = stays 21 _ refl refl (search (arith, f, there))

  -- the same by the line's number
  pub leaves_at : (k : ℕ) → k ≤ 21 → ThreadFits CcSynch n h th (stands_at k) → (k ≡ 1 → th.begun < th.count)
      → LeavesAt k (executed th x tail h request answer (line_of k))
  leaves_at k b =
      subst
      (λ (j : ℕ).
      ThreadFits CcSynch n h th (stands_at j) → (j ≡ 1 → th.begun < th.count)
      → LeavesAt j (executed th x tail h request answer (line_of k)))
      (number_of k b) (line_leaves (line_of k))
