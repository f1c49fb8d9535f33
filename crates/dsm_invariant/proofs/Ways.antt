-- The ways of the lines that are no Swap: before it a thread writes the node that it prepares; in the queue it goes on, and writes a next at most;
-- in its turn it writes the node of a position, and counts move. Assumes Control.
use Prim.Native.Nat.{ℕ, suc, ◌≤◌, ◌<◌}
use native.Mathlib.Omega.{arith}
use mathlib.Core.Path.{◌≡◌, refl, sym, ◌∙◌, ap}
use mathlib.Core.Bool.{Bool, true, false, cond, false≢true}
use lib.Dec.{T}
use Rattle.object.specs.declared.Request.{Request}
use Rattle.object.specs.declared.Answer.{Answer}
use Rattle.machine.specs.declared.NodeId.{NodeId}
use Rattle.machine.specs.declared.Node.{Node}
use Rattle.machine.specs.declared.Thread.{Thread}
use Rattle.dsm_lines.specs.Lines.{Line}
use Rattle.machine.specs.Threads.{goes, with_tmp, with_served}
use Rattle.invariant.specs.View.{View}
use Rattle.dsm_invariant.specs.Stages.{stage_of, queued}
use Rattle.dsm_invariant.specs.Ledger.{Ledger, node_number, node_at, counting, with_joined}
use Rattle.dsm_invariant.specs.View.{goal, does, Does}
use Rattle.invariant.specs.Waits.{waits}
use Rattle.dsm_invariant.specs.Control.{Order, Tailed, Link, NodeFields, In, Old, preparing, Even, CombineRow, CombineFacts, ThreadFacts, Control, InQueue}
use Rattle.object.proofs.Choice.{by_equal, by_test}
use Rattle.invariant.proofs.Waits.{ltb_same}
use Rattle.dsm_invariant.proofs.Basics.{thread_told}
use Rattle.dsm_invariant.proofs.Places.{from, queued_in, alone, placed, only_at, prepared_home, prepared_apart, inside, mine_in, mine_old}
use Rattle.dsm_invariant.proofs.Stable.{Grown, Kept, kept_same, rely_still, link_stable, old_stable, in_stable}
use Rattle.dsm_invariant.proofs.Frame.{Others, tailed_same, tailed_turn, old_in, old_out, field_same, kept, frame}

-- wait and completed stay in every node
pub record Quiet (v v' : View) : Type 0 where
  pub wait : (m : ℕ) → (v'.node m).wait ≡ (v.node m).wait
  pub completed : (m : ℕ) → (v'.node m).completed ≡ (v.node m).completed

-- the positions that have joined the queue: none is taken back, and those of the other threads stay
pub record Joins (n : ℕ) (v : View) (g : Ledger) (t : ℕ) (joined : ℕ → Bool) : Type 0 where
  pub more : (j : ℕ) → g.joined j ≡ true → joined j ≡ true
  pub same : (u : ℕ) → u < n → (u ≡ t → ⊥) → InQueue v u → joined (g.at u) ≡ g.joined (g.at u)

pub no_joins : {n : ℕ} {v : View} {g : Ledger} {t : ℕ} → Joins n v g t g.joined
no_joins = record { more = λ j e. e; same = λ u k e q. refl }

pub joins_grown : {n : ℕ} {v : View} {g : Ledger} {t : ℕ} {joined : ℕ → Bool} → Joins n v g t joined → Grown g (with_joined g joined)
joins_grown joins =
    record { s = omega arith; a = omega arith; r = omega arith; b = omega arith; who = λ i k. refl; bit = λ i k. refl; joined = λ i k. joins.more i }

-- counts that a line of the turn may set: only position j is marked completed
pub record Counted (g : Ledger) (j a d r b k : ℕ) (given : Bool) : Type 0 where
  pub place : j < g.s
  pub window : g.a ≤ suc j
  pub order : Order (counting g a d r b k given)
  pub applied : g.a ≤ a
  pub released : g.r ≤ r
  pub turned : g.b ≤ b
  pub even : (i : ℕ) → i ≡ b → (i ≡ g.b → ⊥) → Even (counting g a d r b k given)
  pub early : (i : ℕ) → (i ≡ g.k → ⊥) → g.a ≤ i → a ≤ i
  pub marked : (i : ℕ) → (i ≡ j → ⊥) → i < g.d → i < d
  pub left : (i : ℕ) → (i ≡ j → ⊥) → g.d ≤ i → d ≤ i

-- thread t runs line l
module _ {n h : ℕ} {v v' : View} {g : Ledger} {t : ℕ} {l : Line} {request : Request} {answer : Answer} (c : Control n h v g)
    (run : Does n h v v' t l request answer) where
  -- the node before the line and after it
  abbrev old : Node
  old = v.node (goal v t l)

  abbrev new : Node
  new = (does v t l h request answer).node

  -- the thread's call in the queue, by a ledger, with its node
  abbrev Mine : Ledger → Node → Type 0
  Mine g' x = In g' t (v.thread t).toggle (v.thread t).my.0 x

  pub quiet : new.wait ≡ old.wait → new.completed ≡ old.completed → Quiet v v'
  quiet wait completed = record { wait = field_same c run (λ x. x.wait) wait; completed = field_same c run (λ x. x.completed) completed }

  -- counts and Tail stay
  module _ (tails : (does v t l h request answer).tail ≡ v.tail) where
    still : (th : Thread) → (does v t l h request answer).thread ≡ th → (joined : ℕ → Bool)
        → Joins n v g t joined
        → (T (queued (from l)) → g.a ≤ g.at t → T (queued (stage_of th.line)))
        → ThreadFacts n h (with_joined g joined) t th (v'.node th.my.0)
        → Old (with_joined g joined) t (stage_of th.line) th.toggle
        → Others c run queued (λ u. NodeFields (with_joined g joined) (g.at u) (v'.node (v.thread u).my.0))
        → Others c run preparing (λ u. Kept (v.node (v.thread u).my.0) (v'.node (v.thread u).my.0))
        → ((i : ℕ) → i < g.s → g.a ≤ suc i → Link (with_joined g joined) i (v'.node (node_at g i)).next.0)
        → Control n h v' (with_joined g joined)
    still th after joined joins stays facts former fields keeps links =
        frame c run th after joined g.a g.d g.r g.b g.k g.given
        (search c.order)
        c.given
        (rw (run.tail, tails) (tailed_same g _ joined _ _ _ _ _ c.tailed))
        (joins_grown joins)
        stays
        facts
        former
        (λ u j e p. rely_still u (record { a = refl; d = refl; r = refl; b = refl; k = refl; given = refl }) refl (joins.same u j e p))
        fields
        keeps
        links

    -- before Swap: only the node that the thread prepares is written
    pub prepares : (th : Thread) → (does v t l h request answer).thread ≡ th
        → (T (queued (from l)) → ⊥)
        → ((m : ℕ) → (T (preparing (from l)) → m ≡ (v.thread t).my.0 → ⊥) → v'.node m ≡ v.node m)
        → Old g t (stage_of th.line) th.toggle
        → ThreadFacts n h g t th (v'.node th.my.0)
        → Control n h v' g
    prepares th after outside away former facts =
        still th after g.joined no_joins (λ q. absurd (outside q)) facts former
        (λ u j e p. let f = queued_in c u j p in rw (others u j e f.home) f.fields)
        (λ u j e p. kept_same (others u j e (prepared_home c u j p)))
        (λ i lo hi. rw (away (node_at g i) (λ p z. prepared_apart c t i run.below (now p) lo hi (sym z))) (c.link i lo hi))
      where
        now : T (preparing (from l)) → T (preparing (stage_of (v.thread t).line))
        now p = rw run.stands p

        others : (u : ℕ) → u < n → (u ≡ t → ⊥) → (v.thread u).my.0 ≡ node_number u (v.thread u).toggle
            → v'.node (v.thread u).my.0 ≡ v.node (v.thread u).my.0
        others u k e z =
            away _
            (λ p y. e (thread_told u t (c.old u k).toggled (c.old t run.below).toggled (sym z ∙ y ∙ prepared_home c t run.below (now p))))

    -- that node is written, and the thread goes on to prepare it
    pub fills : (line : ℕ) → (does v t l h request answer).thread ≡ goes (v.thread t) line
        → (T (queued (from l)) → ⊥)
        → T (preparing (from l))
        → goal v t l ≡ (v.thread t).my.0
        → Old g t (stage_of line) (v.thread t).toggle
        → ThreadFacts n h g t (goes (v.thread t) line) new
        → Control n h v' g
    fills line after outside own at former facts =
        prepares (goes (v.thread t) line) after outside (λ m e. run.elsewhere m (λ z. e own (z ∙ at))) former
        (rw (ap v'.node (sym at) ∙ run.there) facts)

    -- in the queue: the thread goes on to a line, with its node
    module _ (line : ℕ) {tmp : NodeId} {served : ℕ}
        (after : (does v t l h request answer).thread ≡ with_tmp (with_served (v.thread t) line served) line tmp)
        (in_queue_lem : T (queued (from l))) where
      abbrev th : Thread
      th = with_tmp (with_served (v.thread t) line served) line tmp

      -- a next at most is written
      pub home : (joined : ℕ → Bool)
          → Joins n v g t joined
          → Quiet v v'
          → Others c run preparing (λ u. (v.node (v.thread u).my.0).next.0 ≡ 255 → (v'.node (v.thread u).my.0).next.0 ≡ 255)
          → ((i : ℕ) → i < g.s → g.a ≤ suc i → Link (with_joined g joined) i (v'.node (node_at g i)).next.0)
          → (g.a ≤ g.at t → T (queued (stage_of line)))
          → Old g t (stage_of line) (v.thread t).toggle
          → ((x : Node) → Mine (with_joined g joined) x → ThreadFacts n h (with_joined g joined) t th x)
          → Control n h v' (with_joined g joined)
      home joined joins calm nexts links stays former facts =
          still th after joined joins (λ _. stays)
          (facts _ (in_stable g _ (joins_grown joins) t _ _ _ _ refl (fields t run.below (inside c run in_queue_lem)) (mine_in c run in_queue_lem)))
          (record { toggled = former.toggled; bit = former.bit; before = former.before })
          (λ u j e p. fields u j p)
          (λ u j e p. record { wait = calm.wait _; completed = calm.completed _; next = nexts u j e p })
          links
        where
          fields : (u : ℕ) → u < n → InQueue v u → NodeFields (with_joined g joined) (g.at u) (v'.node (v.thread u).my.0)
          fields u j p = let f = queued_in c u j p in record { wait = calm.wait _ ∙ f.fields.wait; completed = calm.completed _ ∙ f.fields.completed }

      -- nothing is written
      module _ (same : new ≡ old) where
        pub calm : (joined : ℕ → Bool)
            → Joins n v g t joined
            → (g.a ≤ g.at t → T (queued (stage_of line)))
            → Old g t (stage_of line) (v.thread t).toggle
            → ((x : Node) → Mine (with_joined g joined) x → ThreadFacts n h (with_joined g joined) t th x)
            → Control n h v' (with_joined g joined)
        calm joined joins stays former facts =
            home joined joins (quiet (ap (λ (x : Node). x.wait) same) (ap (λ (x : Node). x.completed) same))
            (λ u j e p z. rw (kept c run same (v.thread u).my.0) z)
            (λ i lo hi. link_stable g _ (joins_grown joins) i _ (rw (kept c run same (node_at g i)) (c.link i lo hi)))
            stays former facts

        -- the thread stays in the queue
        pub moves : T (queued (stage_of line)) → ((x : Node) → Mine g x → ThreadFacts n h g t th x) → Control n h v' g
        moves q facts = calm g.joined no_joins (λ _. q) (old_in g t (from l) _ in_queue_lem (stage_of line) q (mine_old c run)) facts

        -- the call returns
        pub returns : line ≡ 0 → g.at t < g.a → Control n h v' g
        returns e lt =
            calm g.joined no_joins (λ z. absurd (omega arith))
            (rw e (old_out g t (from l) _ in_queue_lem lt (mine_in c run in_queue_lem).bit (mine_old c run)))
            (λ x i. rw e (record { begun = absurd; chosen = absurd; wait = absurd; completed = absurd; next = absurd }))

    -- the thread stays in the queue, and a test tells the line; nothing is written
    pub forks : (test : Bool) (on off : ℕ) → (does v t l h request answer).thread ≡ goes (v.thread t) (cond test on off)
        → T (queued (from l))
        → new ≡ old
        → T (queued (stage_of on))
        → T (queued (stage_of off))
        → (test ≡ true → (x : Node) → Mine g x → ThreadFacts n h g t (goes (v.thread t) on) x)
        → (test ≡ false → (x : Node) → Mine g x → ThreadFacts n h g t (goes (v.thread t) off) x)
        → Control n h v' g
    forks test on off after q same q_on q_off facts_on facts_off =
        by_test test
        (λ e. moves on (after ∙ ap (λ z. goes (v.thread t) (cond z on off)) e) q same q_on (facts_on e))
        (λ e. moves off (after ∙ ap (λ z. goes (v.thread t) (cond z on off)) e) q same q_off (facts_off e))

  -- in the turn: the node of position j is written, and counts move
  module _ (line : ℕ) {tmp : NodeId}
      (after : (does v t l h request answer).thread ≡ with_tmp (v.thread t) line tmp)
      (in_queue_lem : T (queued (from l))) (stays : T (queued (stage_of line))) {row : CombineRow}
      (turn : CombineFacts row h g (g.at t) (v.thread t).tmp.0 (v.thread t).served) (j a d r b k : ℕ) (given : Bool) where
    abbrev g' : Ledger
    g' = counting g a d r b k given

    abbrev turned : Thread
    turned = with_tmp (v.thread t) line tmp

    module _ (counts : Counted g j a d r b k given)
        (at : goal v t l ≡ node_at g j)
        (nexts : new.next ≡ old.next)
        (there : NodeFields g j old → NodeFields g' j new)
        (else : (i : ℕ) → i < g.s → (i ≡ j → ⊥) → waits g.r g.b g.given i ≡ waits r b given i)
        (facts : (x : Node) → Mine g' x → ThreadFacts n h g' t turned x) where
      pub far : (T given → b < g.s) → Tailed g' v'.tail.0 → Control n h v' g'
      far gave tailed =
          frame c run turned after g.joined a d r b k given
          counts.order
          gave
          tailed
          grown
          (λ _ _. stays)
          (facts _ (in_stable g g' grown t _ _ _ _ refl (fields t run.below (inside c run in_queue_lem)) (mine_in c run in_queue_lem)))
          (old_in g' t (from l) _ in_queue_lem (stage_of line) stays (old_stable g g' grown t (from l) _ refl (λ i x y z. omega arith) (mine_old c run)))
          (λ u s e p. record {
            at = refl;
            joined = refl;
            still = λ z. absurd (e (alone c u t s run.below p (inside c run in_queue_lem) (z ∙ sym turn.turn)));
            even = counts.even _;
            early = λ z. counts.early _ (λ w. false≢true (sym z ∙ ap g.joined w ∙ turn.joined));
          })
          (λ u s e p. fields u s p)
          (λ u s e p. kept_same (away _ (prepared_apart c u j s p counts.place counts.window)))
          (λ i x y. link_stable g g' grown i _ (rw (field_same c run (λ x. x.next) nexts (node_at g i)) (c.link i x (omega (arith, counts.applied)))))
        where
          grown : Grown g g'
          grown =
              record { s = omega arith; a = counts.applied; r = counts.released; b = counts.turned; who = λ i k. refl; bit = λ i k. refl; joined = λ i k e. e }

          away : (m : ℕ) → (m ≡ node_at g j → ⊥) → v'.node m ≡ v.node m
          away m e = run.elsewhere m (λ z. e (z ∙ at))

          -- the thread at position j, if one is still there, sees the written node, the others theirs as it was
          fields : (u : ℕ) → u < n → InQueue v u → NodeFields g' (g.at u) (v'.node (v.thread u).my.0)
          fields u s p =
              let f = queued_in c u s p in
              by_equal (g.at u) j
              (λ e.
              let z : (v.thread u).my.0 ≡ goal v t l = placed c u s p ∙ ap (node_at g) e ∙ sym at in
              rw (z, run.there, e) (there (rw (z, e) at f.fields)))
              (λ e. rw (away _ (λ z. e (only_at c u j s p counts.place counts.window z)))
              (record {
                wait = f.fields.wait ∙ else (g.at u) f.below e;
                completed = f.fields.completed ∙ ltb_same (g.at u) g.d d (counts.marked _ e) (counts.left _ e);
              }))

      -- Tail stays, and the turn is at a position
      pub serves : (does v t l h request answer).tail ≡ v.tail → b < g.s → Control n h v' g'
      serves tails below =
          far (λ _. below) (rw (run.tail, tails) (tailed_turn g _ _ _ _ _ b k given (omega (arith, turn.below, c.order)) below c.tailed))
