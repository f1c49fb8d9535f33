-- From lists to functions: what the entry of a thread does to a state by DSM-Synch is what its line does to the view. Assumes full arrays of threads and nodes,
-- at most 16 threads, Control, a thread below n, and that its line meets no null.
use Prim.Native.Nat.{ℕ, ◌≤◌, ◌<◌}
use native.Mathlib.Omega.{arith}
use mathlib.Core.Path.{◌≡◌, refl, sym}
use mathlib.Core.Bool.{false}
use mathlib.Core.List.{List}
use lib.ListN.{length, get_or, set}
use lib.Seq.{set_out, get_or-set_same, get_or-set_other}
use Rattle.object.proofs.Choice.{by_equal, by_order}
use Rattle.object.specs.declared.Request.{Request}
use Rattle.object.specs.declared.Answer.{Answer}
use Rattle.machine.specs.declared.ThreadId.{ThreadId}
use Rattle.machine.specs.declared.NodeId.{NodeId}
use Rattle.machine.specs.declared.Node.{Node}
use Rattle.machine.specs.declared.Thread.{Thread}
use Rattle.machine.specs.Lines.{stands_at}
use Rattle.machine.specs.Sizes.{most_nodes}
use Rattle.machine.proofs.Lines.{RunsNext, runs_next}
use Rattle.dsm_lines.specs.Lines.{Line, number, pointed, target}
use Rattle.dsm_synch.specs.Effect.{meets_null, executed}
use Rattle.dsm_lines.proofs.Numbers.{number_of, by_line}
use Rattle.state.specs.declared.State.{State}
use Rattle.step.specs.Entry.{zero_thread, zero_node, named, line, request}
use Rattle.step.specs.DsmEntry.{runs, node, behind, written, applied, effect, entered, null_met}
use Rattle.invariant.specs.View.{view_of}
use Rattle.dsm_invariant.specs.Ledger.{Ledger}
use Rattle.dsm_invariant.specs.View.{Does}
use Rattle.dsm_invariant.specs.Control.{Control}
use Rattle.dsm_invariant.proofs.Threads.{line_most_lem, line_begun, goal_range}

-- what is stored at its own place changes nothing, even past the end
set_kept : {A : Type 0} (l : List A) (i : ℕ) (a d : A) → a ≡ get_or l i d → get_or (set l i a) i d ≡ a
set_kept l i a d e = by_order i (length l) (get_or-set_same l i a d) (λ past. rw (set_out l i a past) (sym e))

-- lines 0, 1 and 2 leave their node, which may be null
module _ (t : ℕ) (th : Thread) (nodes : List Node) (y : Node) (tail : NodeId) (h : ℕ) (asked : Request) (answer : Answer) where
  abbrev at : Line → Node
  at l = get_or nodes (pointed th l).0 zero_node

  node_left : (l : Line) → number l ≤ 2 → (executed t th (at l) y tail h asked answer l).node ≡ get_or nodes (target th (at l) l).0 zero_node
  node_left l low =
      let Left : Line → Type 0 = λ l. (executed t th (at l) y tail h asked answer l).node ≡ get_or nodes (target th (at l) l).0 zero_node in
      by_equal (number l) 0 (λ q. by_line Left l q refl) λ p.
      by_equal (number l) 1 (λ q. by_line Left l q refl) λ r.
      let last : number l ≡ 2 = omega arith in by_line Left l last refl

module _ (s : State) (t : ThreadId) {g : Ledger} (c : Control s.n s.h (view_of s) g) (below : t.0 < s.n) where
  pub runs_it : RunsNext (named s t) 28
  runs_it = runs_next (named s t) 28 (omega arith) (line_most_lem c t.0 below) (line_begun c t.0 below)

  pub number_line : number (runs s t) ≡ line s t
  number_line = number_of (line s t) runs_it.printed

  pub stands_so : (named s t).line ≡ stands_at (number (runs s t))
  stands_so = rw number_line runs_it.stands

  module _ (threads : length s.threads ≡ 16) (nodes : length s.nodes ≡ most_nodes) (small : s.n ≤ 16) (fine : null_met s t ≡ false) where
    fine_so : meets_null (named s t) (node s t) (number (runs s t)) ≡ false
    fine_so = rw number_line fine

    -- a write is at a node, or at no place
    there_so : get_or (entered s t).nodes (written s t).0 zero_node ≡ (effect s t).node
    there_so =
        by_order 2 (number (runs s t))
        (λ above. get_or-set_same s.nodes (written s t).0 (effect s t).node zero_node (omega (arith, goal_range c (runs s t) below stands_so fine_so above)))
        (λ low.
        set_kept s.nodes (written s t).0 (effect s t).node zero_node
        (node_left t.0 (named s t) s.nodes (behind s t) s.tail s.h (request s t) (applied s t).answer (runs s t) low))

    pub does_of : Does s.n s.h (view_of s) (view_of (entered s t)) t.0 (runs s t) (request s t) (applied s t).answer
    does_of = record {
      below = below;
      stands = stands_so;
      fine = fine_so;
      mine = get_or-set_same s.threads t.0 (effect s t).thread zero_thread (omega arith);
      others = λ u apart. get_or-set_other s.threads t.0 u (effect s t).thread zero_thread apart;
      there = there_so;
      elsewhere = λ m apart. get_or-set_other s.nodes (written s t).0 m (effect s t).node zero_node apart;
      tail = refl;
    }
