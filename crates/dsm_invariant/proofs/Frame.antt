-- The invariant after a line that is no Swap: it asks only for what the thread knows then, and what the others rely on. Assumes Control.
use Prim.Native.Nat.{ℕ, suc, ◌≤◌, ◌<◌}
use native.Mathlib.Omega.{arith}
use mathlib.Core.Path.{◌≡◌, refl, sym, ◌∙◌, ap}
use mathlib.Core.Bool.{Bool}
use lib.Dec.{T}
use Rattle.object.specs.declared.Request.{Request}
use Rattle.object.specs.declared.Answer.{Answer}
use Rattle.machine.specs.declared.Node.{Node}
use Rattle.machine.specs.declared.Thread.{Thread}
use Rattle.dsm_lines.specs.Lines.{Line}
use Rattle.invariant.specs.View.{View}
use Rattle.invariant.proofs.Serving.{field_left}
use Rattle.dsm_invariant.specs.Stages.{Stage, out, idle, stage_of, queued}
use Rattle.dsm_invariant.specs.Ledger.{Ledger, node_at, going}
use Rattle.dsm_invariant.specs.View.{goal, does, Does}
use Rattle.dsm_invariant.specs.Control.{Order, Tailed, empty, last, Link, NodeFields, Old, preparing, ThreadFacts, Seat, Control}
use Rattle.object.proofs.Choice.{by_equal}
use Rattle.dsm_invariant.proofs.Places.{from, former_queued}
use Rattle.dsm_invariant.proofs.Stable.{Grown, Rely, Kept, old_stable, facts_stable}

module _ (g : Ledger) (tail : ℕ) (joined : ℕ → Bool) (a d r : ℕ) where
  -- Tail is told by s and b alone
  pub tailed_same : (k : ℕ) (given : Bool) → Tailed g tail → Tailed (going g joined a d r g.b k given) tail
  tailed_same k given (empty e p) = empty e p
  tailed_same k given (last j e z p) = last j e z p

  -- the turn goes from a position to another
  pub tailed_turn : (b k : ℕ) (given : Bool) → g.b < g.s → b < g.s → Tailed g tail → Tailed (going g joined a d r b k given) tail
  tailed_turn b k given old new (empty e p) = absurd (omega arith)
  tailed_turn b k given old new (last j e z p) = last j e new p

module _ (g : Ledger) (u : ℕ) (s : Stage) (toggle : ℕ) (in_queue_lem : T (queued s)) where
  -- a thread stays in the queue
  pub old_in : (s' : Stage) → T (queued s') → Old g u s toggle → Old g u s' toggle
  old_in s' q f = record {
    toggled = f.toggled;
    bit = λ i k w e z. f.bit i k w e (λ _. z q) ∙ former_queued s toggle in_queue_lem ∙ sym (former_queued s' toggle q);
    before = λ i k w e z. f.before i k w e in_queue_lem;
  }

  -- a call that was applied returns
  pub old_out : g.at u < g.a → g.bit (g.at u) ≡ toggle → Old g u s toggle → Old g u (out idle) toggle
  old_out lt e f = record {
    toggled = f.toggled;
    bit = λ i k w z _. let y = f.before i k w z in_queue_lem in let x : i ≡ g.at u = omega arith in ap g.bit x ∙ e;
    before = λ i k w z q. absurd q;
  }

-- thread t runs line l and becomes th
module _ {n h : ℕ} {v v' : View} {g : Ledger} {t : ℕ} {l : Line} {request : Request} {answer : Answer} (c : Control n h v g)
    (run : Does n h v v' t l request answer) where
  -- what the line keeps of the node that it writes it keeps of every node: a field, or all of it
  pub field_same : {A : Type 0} (field : Node → A) → field (does v t l h request answer).node ≡ field (v.node (goal v t l))
      → (m : ℕ) → field (v'.node m) ≡ field (v.node m)
  field_same field = field_left field (goal v t l) run.there run.elsewhere

  pub kept : (does v t l h request answer).node ≡ v.node (goal v t l) → (m : ℕ) → v'.node m ≡ v.node m
  kept = field_same (λ x. x)

  -- what holds of the other threads that are at certain stages
  abbrev pub Others : (Stage → Bool) → (ℕ → Type 0) → Type 0
  Others which P = (u : ℕ) → u < n → (u ≡ t → ⊥) → T (which (stage_of (v.thread u).line)) → P u

  module _ (th : Thread) (after : (does v t l h request answer).thread ≡ th) (joined : ℕ → Bool) (a d r b k : ℕ) (given : Bool) where
    abbrev g' : Ledger
    g' = going g joined a d r b k given

    -- the thread leaves the queue only when its position is applied
    pub frame : Order g'
        → (T given → b < g.s)
        → Tailed g' v'.tail.0
        → Grown g g'
        → (T (queued (from l)) → a ≤ g.at t → T (queued (stage_of th.line)))
        → ThreadFacts n h g' t th (v'.node th.my.0)
        → Old g' t (stage_of th.line) th.toggle
        → Others queued (λ u. Rely g g' u)
        → Others queued (λ u. NodeFields g' (g.at u) (v'.node (v.thread u).my.0))
        → Others preparing (λ u. Kept (v.node (v.thread u).my.0) (v'.node (v.thread u).my.0))
        → ((i : ℕ) → i < g.s → a ≤ suc i → Link g' i (v'.node (node_at g i)).next.0)
        → Control n h v' g'
    frame order gave tailed grown stays facts old rely fields keeps links = record {
      order = order;
      given = gave;
      tailed = tailed;
      real = λ i k. search (c.real i k);
      seat = λ i lo hi. seated i lo (c.seat i (omega (arith, grown.a)) hi);
      link = links;
      old = λ u j. by_equal u t
          (λ e. rw (e, mine) old)
          (λ e. rw (run.others u e) (old_stable g g' grown u _ _ refl (λ i lo hi z. omega arith) (c.old u j)));
      facts = λ u j. by_equal u t
          (λ e. rw (e, mine) facts)
          (λ e. rw (run.others u e)
          (facts_stable g g' grown u n h (stage_of (v.thread u).line) (v.thread u) _ _ (rely u j e) (fields u j e) (keeps u j e) (c.facts u j)));
    }
      where
        mine : v'.thread t ≡ th
        mine = run.mine ∙ after

        seated : (i : ℕ) → a ≤ i → Seat n v g i → Seat n v' g' i
        seated i lo f = record {
          who = f.who;
          queued = by_equal (g.who i) t
              (λ e. rw (e, mine) (stays (rw (e, run.stands) at f.queued) (omega (arith, rw e at f.at))))
              (λ e. rw (run.others _ e) f.queued);
          at = f.at;
        }
