-- Each line of Algorithm 2 on numbers in range: what it leaves is in range again, but for the causes that `takes_out` names; and the node that it points to, or
-- writes, is one in use or null. Assumes what the modules' parameters say.
use Rattle.std.proofs.Common.{◌≡◌, ℕ, ◌+◌, ◌<◌, ◌≤◌, Bool, true, false, cond, not, ◌&&◌, ◌||◌, eqb, ltb, leb, sym, refl, subst, arith, le-ltb, ne_eqb, leb-false, leb-true}
use mathlib.Core.Bool.{or-false, or-true, and-eq-true_iff}
use borrow.Author.Tests.{lt-leb}
use Rattle.object.specs.declared.Kind.{Kind}
use Rattle.object.specs.declared.Request.{Request}
use Rattle.object.specs.declared.Answer.{Answer}
use Rattle.object.specs.Paper.{answer_in_range}
use Rattle.object.specs.Apply.{knows}
use Rattle.object.proofs.Choice.{either, both_fail}
use Rattle.machine.specs.declared.Method.TheVariants.{DsmSynch}
use Rattle.machine.specs.declared.NodeId.{NodeId}
use Rattle.machine.specs.declared.Node.{Node}
use Rattle.machine.specs.declared.Thread.{Thread}
use Rattle.machine.specs.Effect.{Effect}
use Rattle.machine.specs.Accesses.{to_null}
use Rattle.machine.specs.Fields.{is_null}
use Rattle.machine.specs.Lines.{stands_at}
use Rattle.machine.specs.Owners.{node_of}
use Rattle.machine.specs.Sizes.{most_nodes}
use Rattle.machine.specs.Threads.{goes, with_pred, with_tmp, with_served}
use Rattle.dsm_lines.specs.Lines.{Line, line_of, number, accesses, pointed, target, empties, L0, L1, L2, L3, L4, L5, L6, L7, L8, L9, L10, L11, L12, L13, L14, L15, L16, L17, L18, L19, L20, L21, L22, L23, L24, L25, L26, L27, L28}
use Rattle.dsm_lines.proofs.Numbers.{number_of, number_most, agree}
use Rattle.dsm_synch.specs.Effect.{keeps, writes, uses_empty, takes_out, executed}
use Rattle.dsm_synch.proofs.Null.{PointsToNode, meets_exactly}
use Rattle.state.specs.Range.{thread_in_range}
use Rattle.state.proofs.RangeFacts.{NodeOrNull, there, nowhere, Points, ThreadFits, NodeFits, not_null}
use Rattle.step.proofs.Leaving.{Leaves, goes_on, kept, written, barred}

-- what a pointer may be where null is allowed
maybe : {last : ℕ} (nullable : Bool) {m : NodeId} → Points last nullable m → NodeOrNull last m.0
maybe true p = p
maybe false p = there p

-- a line points to myPredNode at 9, to tmpNode from 14 on but at 24 and 28, and else to myNode
abbrev at_tmp : ℕ → Bool
at_tmp k = leb 14 k && not (eqb k 24 || eqb k 28)

abbrev pointed_at : Thread → ℕ → NodeId
pointed_at th k = cond (eqb k 9) th.pred (cond (at_tmp k) th.tmp th.my)

pointed_at_lem : (th : Thread) (l : Line) → pointed th l ≡ pointed_at th (number l)
pointed_at_lem th = agree (pointed th) (λ l. pointed_at th (number l)) refl refl

module _ (last h : ℕ) (th : Thread) where
  -- from line 3 on myNode is a node, from line 14 on tmpNode
  my_at : (k : ℕ) → 3 ≤ k → ThreadFits DsmSynch last h th (stands_at k) → th.my.0 ≤ last
  my_at k from f = rw (lt-leb k 1 (omega arith), le-ltb k 3 from) at f.pointers.my

  tmp_at : (k : ℕ) → 14 ≤ k → ThreadFits DsmSynch last h th (stands_at k) → th.tmp.0 ≤ last
  tmp_at k from f = rw (lt-leb k 1 (omega arith), le-ltb k 14 from) at f.pointers.tmp

  module _ (l : Line) (f : ThreadFits DsmSynch last h th (stands_at (number l))) where
    points_maybe : NodeOrNull last (pointed th l).0
    points_maybe =
        rw (pointed_at_lem th l) (either (λ (m : NodeId). NodeOrNull last m.0) (eqb (number l) 9) (λ e. f.pointers.pred)
        (λ e. either (λ (m : NodeId). NodeOrNull last m.0) (at_tmp (number l)) (λ e. maybe (ltb (stands_at (number l)) 14) f.pointers.tmp)
        (λ e. maybe (ltb (stands_at (number l)) 3) f.pointers.my)))

    writes_maybe : (x : Node) → NodeOrNull last x.next.0 → NodeOrNull last (target th x l).0
    writes_maybe x next = either (λ (m : NodeId). NodeOrNull last m.0) (eqb (number l) 26) (λ e. next) (λ e. points_maybe)

    -- so from line 3 on, but at 9, the line points to a node, which is not null
    points_sure : last < most_nodes → (x : Node) → PointsToNode th x l
    points_sure few x from other =
        ne_eqb (pointed th l).0 255 (λ q.
        let below : (pointed th l).0 ≤ last =
        rw (pointed_at_lem th l, ne_eqb (number l) 9 other) (either (λ (m : NodeId). m.0 ≤ last) (at_tmp (number l))
        (λ e. tmp_at (number l) (leb-true 14 (number l) ((and-eq-true_iff _ _).0 e).0) f) (λ e. my_at (number l) (omega arith) f))
        in
        omega arith)

  -- the same by the line's number
  module _ (k : ℕ) (b : k ≤ 28) (f : ThreadFits DsmSynch last h th (stands_at k)) where
    at_line : ThreadFits DsmSynch last h th (stands_at (number (line_of k)))
    at_line = subst (λ (j : ℕ). ThreadFits DsmSynch last h th (stands_at j)) (sym (number_of k b)) f

    pub points_at : NodeOrNull last (pointed th (line_of k)).0
    points_at = points_maybe (line_of k) at_line

    pub writes_at : (x : Node) → NodeOrNull last x.next.0 → NodeOrNull last (target th x (line_of k)).0
    writes_at = writes_maybe (line_of k) at_line

-- the lines with a cause of their own
abbrev own_cause : ℕ → Bool
own_cause k = eqb k 1 || (eqb k 15 || eqb k 21)

exchanged : (a b : Bool) → (a || false || false || false || false || b) ≡ (b || a)
exchanged true b = sym (or-true b)
exchanged false b = sym (or-false b)

-- thread t, th; x, the node that its line points to, and y, the node behind x; and Tail
module _ (last h : ℕ) (kind : Kind) (capacity t : ℕ) (th : Thread) (x y : Node) (tail : NodeId) (request : Request) (answer : Answer)
    (few : last < most_nodes) (its_own : (place : ℕ) → place ≤ 1 → (node_of t place).0 ≤ last) (tail_fits : NodeOrNull last tail.0)
    (x_fits : NodeFits kind capacity last x) (y_fits : NodeFits kind capacity last y) (now : ThreadFits DsmSynch last h th th.line)
    (known : 0 < th.begun → knows kind request ≡ true) (answer_fits : answer_in_range capacity answer ≡ true) where
  abbrev misses : Line → Bool
  misses l = uses_empty x (number l) || to_null (accesses th x l)

  abbrev LeavesAt : Line → Effect → Type 0
  LeavesAt l e = Leaves DsmSynch last h kind capacity th (misses l) (takes_out th x h (number l)) e

  -- any other line is 14 exactly if it misses something
  free : (l : Line) → ThreadFits DsmSynch last h th (stands_at (number l)) → own_cause (number l) ≡ false → takes_out th x h (number l) ≡ misses l
  free l f none =
      let first = both_fail (eqb (number l) 1) (eqb (number l) 15 || eqb (number l) 21) none in
      let others = both_fail (eqb (number l) 15) (eqb (number l) 21) first.1 in
      rw (
        meets_exactly th x l (points_sure last h th l f few x),
        le-ltb 28 (number l) (number_most l),
        first.0,
        others.0,
        others.1,
      ) (exchanged (to_null (accesses th x l)) (uses_empty x (number l)))

  -- the forms of such lines
  stays : (l : Line) (after : Thread) → ThreadFits DsmSynch last h th (stands_at (number l)) → own_cause (number l) ≡ false → after.count ≡ th.count
      → ThreadFits DsmSynch last h after after.line → LeavesAt l (keeps t th x y tail after)
  stays l after f none c = kept DsmSynch last h kind capacity th x tail tail_fits x_fits (misses l) (takes_out th x h (number l)) after c (free l f none)

  writes_on : (l : Line) (line : ℕ) (after : Node) → ThreadFits DsmSynch last h th (stands_at (number l)) → own_cause (number l) ≡ false
      → NodeFits kind capacity last after → ThreadFits DsmSynch last h (goes th line) line → LeavesAt l (writes t th x y tail after line)
  writes_on l line after f none p =
      written DsmSynch last h kind capacity th x tail tail_fits x_fits (misses l) (takes_out th x h (number l)) line after p (free l f none)

  -- that the thread fits at the line that it goes on to
  abbrev AtLine : ℕ → Type 0
  AtLine line = ThreadFits DsmSynch last h (goes th line) line

  -- the thread's part of a line that leaves more
  goes_free : (l : Line) (after : Thread) → ThreadFits DsmSynch last h th (stands_at (number l)) → own_cause (number l) ≡ false
      → ThreadFits DsmSynch last h after after.line → (not (misses l) && thread_in_range DsmSynch last h after) ≡ not (takes_out th x h (number l))
  goes_free l after f none = goes_on DsmSynch last h kind capacity th x tail tail_fits x_fits (misses l) (takes_out th x h (number l)) after (free l f none)

  -- line by line
  line_leaves : (l : Line) → ThreadFits DsmSynch last h th (stands_at (number l)) → (number l ≡ 1 → th.begun < th.count)
      → LeavesAt l (executed t th x y tail h request answer l)
  line_leaves L0 f g = stays L0 _ f refl refl now
  line_leaves L1 f g =
      let room = g refl in
      kept DsmSynch last h kind capacity th x tail tail_fits x_fits (misses L1) (takes_out th x h 1) _ refl (simp (lt-leb th.count th.begun))
      (search (arith, f, nowhere))
  line_leaves L2 f g = let mine = its_own th.toggle f.pointers.toggle in stays L2 _ f refl refl (search (arith, f))
  line_leaves L3 f g = writes_on L3 _ _ f refl (search x_fits) (search (arith, f))
  line_leaves L4 f g = writes_on L4 _ _ f refl (search x_fits) (search (arith, f))
  line_leaves L5 f g = writes_on L5 _ _ f refl (search (x_fits, nowhere)) (search (arith, f))
  line_leaves L6 f g = writes_on L6 _ _ f refl (search (x_fits, known f.begun)) (search (arith, f))
  line_leaves L7 f g = record { thread = goes_free L7 (with_pred th 8 tail) f refl (search (arith, f)); count = refl; tail = there f.pointers.my; node = x_fits }
  line_leaves L8 f g = stays L8 _ f refl refl (either AtLine (is_null th.pred) (λ e. search (arith, f)) (λ e. search (arith, f)))
  line_leaves L9 f g = writes_on L9 _ _ f refl (search (x_fits, there f.pointers.my)) (search (arith, f))
  line_leaves L10 f g = stays L10 _ f refl refl (either AtLine x.wait (λ e. search (arith, f)) (λ e. search (arith, f)))
  line_leaves L11 f g = stays L11 _ f refl refl (either AtLine x.completed (λ e. search (arith, f)) (λ e. search (arith, f)))
  line_leaves L12 f g = stays L12 _ f refl refl (search (arith, f, there))
  line_leaves L13 f g = stays L13 _ f refl refl (search (arith, f))
  line_leaves L14 f g = stays L14 _ f refl refl (search (arith, f))
  line_leaves L15 f g =
      barred DsmSynch last h kind capacity th x tail tail_fits x_fits (misses L15) (takes_out th x h 15) (with_served th 16 (th.served + 1)) (leb h th.served)
      refl refl (simp or-false) (λ e. let below = leb-false h th.served e in search (arith, f))
      (λ after. lt-leb h th.served (omega (arith, after.served)))
  line_leaves L16 f g = writes_on L16 _ _ f refl (search (x_fits, answer_fits)) (search (arith, f))
  line_leaves L17 f g = writes_on L17 _ _ f refl (search x_fits) (search (arith, f))
  line_leaves L18 f g = writes_on L18 _ _ f refl (search x_fits) (search (arith, f))
  line_leaves L19 f g =
      stays L19 _ f refl refl
      (either AtLine (is_null x.next || (is_null y.next || leb h th.served)) (λ e. search (arith, f)) (λ e. search (arith, f)))
  line_leaves L20 f g = stays L20 _ f refl refl (search (arith, f))
  line_leaves L21 f g =
      barred DsmSynch last h kind capacity th x tail tail_fits x_fits (misses L21) (takes_out th x h 21) (with_tmp th 14 x.next) (is_null x.next) refl
      (rw (points_sure last h th L21 f few x (omega arith) (λ e. omega arith))) (simp or-false)
      (λ e. let below = not_null x_fits.next e in search (arith, f))
      (λ after. ne_eqb x.next.0 255 (λ q. omega (arith, after.pointers.tmp)))
  line_leaves L22 f g = stays L22 _ f refl refl (either AtLine (is_null x.next) (λ e. search (arith, f)) (λ e. search (arith, f)))
  line_leaves L23 f g = record {
    thread = goes_free L23 _ f refl (either AtLine (empties tail th.tmp) (λ e. search (arith, f)) (λ e. search (arith, f)));
    count = refl;
    tail = either (λ (m : NodeId). NodeOrNull last m.0) (empties tail th.tmp) (λ e. nowhere refl) (λ e. tail_fits);
    node = x_fits;
  }
  line_leaves L24 f g = stays L24 _ f refl refl (search (arith, f, there))
  line_leaves L25 f g = stays L25 _ f refl refl (either AtLine (is_null x.next) (λ e. search (arith, f)) (λ e. search (arith, f)))
  line_leaves L26 f g = record { thread = goes_free L26 (goes th 27) f refl (search (arith, f)); count = refl; tail = tail_fits; node = search y_fits }
  line_leaves L27 f g = writes_on L27 _ _ f refl (search (x_fits, nowhere)) (search (arith, f))
  line_leaves L28 f g = stays L28 _ f refl refl (search (arith, f, there))

  -- the same by the line's number
  pub leaves_at : (k : ℕ) → k ≤ 28 → ThreadFits DsmSynch last h th (stands_at k) → (k ≡ 1 → th.begun < th.count)
      → Leaves DsmSynch last h kind capacity th (uses_empty x k || to_null (accesses th x (line_of k))) (takes_out th x h k) (executed t th x y tail h request answer (line_of k))
  leaves_at k b =
      subst
      (λ (j : ℕ).
      ThreadFits DsmSynch last h th (stands_at j) → (j ≡ 1 → th.begun < th.count)
      → Leaves DsmSynch last h kind capacity th (uses_empty x j || to_null (accesses th x (line_of k))) (takes_out th x h j)
      (executed t th x y tail h request answer (line_of k)))
      (number_of k b) (line_leaves (line_of k))
