-- Positions of the queue and the slots that hold them, as the invariant has them. Assumes Control.
use Prim.Native.Nat.{ℕ, ◌≤◌, ◌<◌}
use native.Mathlib.Omega.{arith}
use mathlib.Core.Path.{◌≡◌, sym, ◌∙◌, ap, subst}
use mathlib.Core.Bool.{true, false≢true}
use lib.Dec.{T}
use Rattle.object.specs.declared.Request.{Request}
use Rattle.object.specs.declared.Answer.{Answer}
use Rattle.cc_lines.specs.Lines.{Line, number}
use Rattle.machine.specs.Lines.{stands_at}
use Rattle.invariant.specs.Stages.{stage_of, queued}
use Rattle.invariant.specs.Ledger.{Ledger}
use Rattle.invariant.specs.View.{View, Does}
use Rattle.invariant.specs.Control.{holding, slot, slot_of_thread, held, Queued, NodeFields, StageFacts, DummyFacts, Control}
use Rattle.object.proofs.Choice.{by_equal}
use Rattle.invariant.proofs.Slots.{slot_tail, slot_thread, held_queued, in_queue_lem, at_swapped, at_turn_lem, turn_queued, at_turn}

module _ {n h : ℕ} {v : View} {g : Ledger} (c : Control n h v g) where
  pub queued_slot : (u : ℕ) → u ≤ n → T (queued (slot n v u).stage) → Queued g u (slot n v u).cur (v.node (held (slot n v u)))
  queued_slot u k q = in_queue_lem h g u (slot n v u).stage (slot n v u) _ q (c.facts u k)

  -- two queued slots at one position are one
  pub seats_apart : (u w : ℕ) → u ≤ n → w ≤ n → T (queued (slot n v u).stage) → T (queued (slot n v w).stage) → g.at u ≡ g.at w → u ≡ w
  seats_apart u w k j q p e = sym (queued_slot u k q).who ∙ ap g.who e ∙ (queued_slot w j p).who

  pub node_of : (u : ℕ) → u ≤ n → T (queued (slot n v u).stage) → held (slot n v u) ≡ g.node (g.at u)
  node_of u k q = held_queued (slot n v u) q ∙ sym (queued_slot u k q).node

  -- a position from the released on: its slot's node is the ledger's
  node_at : (i : ℕ) → g.r ≤ i → i ≤ g.s → held (slot n v (g.who i)) ≡ g.node i
  node_at i j k = let f = c.seat i j k in node_of _ f.who f.queued ∙ ap g.node f.at

  -- who holds its node is at it
  pub owner : (u i : ℕ) → u ≤ n → g.r ≤ i → i ≤ g.s → held (slot n v u) ≡ g.node i → g.who i ≡ u
  owner u i m j k e = c.apart _ u (c.seat i j k).who m (node_at i j k ∙ sym e)

  pub whose : (u i : ℕ) → u ≤ n → g.r ≤ i → i ≤ g.s → held (slot n v u) ≡ g.node i → g.at u ≡ i
  whose u i m j k e = rw (← owner u i m j k e) (c.seat i j k).at

  pub positions_apart : (i j : ℕ) → g.r ≤ i → i ≤ g.s → g.r ≤ j → j ≤ g.s → g.node i ≡ g.node j → i ≡ j
  positions_apart i j ri is rj js e = sym (c.seat i ri is).at ∙ whose _ j (c.seat i ri is).who rj js (node_at i ri is ∙ e)

  -- the fields of a position's node
  pub fields_at : (i : ℕ) → g.r ≤ i → i ≤ g.s → NodeFields g i (v.node (g.node i))
  fields_at i j k =
      let f = c.seat i j k in
      let q = (queued_slot _ f.who f.queued).fields in
      rw (← node_at i j k) (rw f.at at q)

  -- a position's node is one of the n + 1
  pub node_bound : (i : ℕ) → g.r ≤ i → i ≤ g.s → g.node i ≤ n
  node_bound i j k = rw (← node_at i j k) (c.nodes _ (c.seat i j k).who)

  pub turn_at : (u : ℕ) → u ≤ n → T (at_turn (slot n v u).stage) → g.at u ≡ g.b
  turn_at u k q = at_turn_lem h g u (slot n v u).stage (slot n v u) (v.node (held (slot n v u))) q (c.facts u k)

  -- one slot at most has the turn
  pub one_turn : (u w : ℕ) → u ≤ n → w ≤ n → T (at_turn (slot n v u).stage) → T (at_turn (slot n v w).stage) → u ≡ w
  one_turn u w k j p q =
      seats_apart u w k j (turn_queued (slot n v u).stage p) (turn_queued (slot n v w).stage q) (turn_at u k p ∙ sym (turn_at w j q))

  at_most : (u : ℕ) → u ≤ n → T (queued (slot n v u).stage) → g.at u ≤ g.s
  at_most u k q = at_swapped h g u (slot n v u).stage (slot n v u) (v.node (held (slot n v u))) q (c.facts u k)

  -- Tail's slot
  pub tail_facts : Queued g n v.tail.0 (v.node v.tail.0) × DummyFacts g (g.at n)
  tail_facts = rw (slot_tail n v) at (c.facts n (omega arith))

  -- the dummy has no next, so a position that has one is below it
  pub linked_below : (i : ℕ) → i ≤ g.s → g.linked i ≡ true → i < g.s
  linked_below i k e = by_equal i g.s (λ z. absurd (false≢true (sym tail_facts.1.linked ∙ ap g.linked (sym z) ∙ e))) (λ z. omega arith)

  -- a queued thread is before Tail
  pub before_tail : (u : ℕ) → u ≤ n → (u ≡ n → ⊥) → T (queued (slot n v u).stage) → g.at u < g.s
  before_tail u k apart q =
      by_equal (g.at u) g.s
      (λ e. absurd (apart (seats_apart u n k (omega arith) q (rw (slot_tail n v) tt) (e ∙ sym tail_facts.1.last))))
      (λ e. omega (arith, at_most u k q))

  pub tail_node : v.tail.0 ≡ g.node g.s
  tail_node = sym tail_facts.0.node ∙ ap g.node tail_facts.1.last

  -- a thread at line k: its stage, the node that it holds and what it knows
  pub stage_at : (t k : ℕ) → t < n → (v.thread t).line ≡ k → (slot n v t).stage ≡ stage_of k
  stage_at t k b e = rw (slot_thread n v t b) (ap stage_of e)

  pub holds : (t k : ℕ) → t < n → (v.thread t).line ≡ k → held (slot n v t) ≡ holding (stage_of k) (v.thread t)
  holds t k b e = rw (slot_thread n v t b) (ap (λ j. holding (stage_of j) (v.thread t)) e)

  pub now : (t k : ℕ) → t < n → (v.thread t).line ≡ k → StageFacts h g t (stage_of k) (slot_of_thread (v.thread t)) (v.node (holding (stage_of k) (v.thread t)))
  now t k b e =
      subst (λ j. StageFacts h g t (stage_of j) (slot_of_thread (v.thread t)) (v.node (holding (stage_of j) (v.thread t)))) e
      (rw (slot_thread n v t b) at (c.facts t (omega arith)))

  -- what the thread of a line knows when it runs it
  pub known : {v' : View} {t : ℕ} {l : Line} {request : Request} {answer : Answer} {k : ℕ} → Does n h v v' t l request answer → number l ≡ k
      → StageFacts h g t (stage_of (stands_at k)) (slot_of_thread (v.thread t)) (v.node (holding (stage_of (stands_at k)) (v.thread t)))
  known d q = now _ _ d.below (d.stands ∙ ap stands_at q)
