-- What a slot knows stays true while another thread runs a line: counts grow, and are still for the slot that has the turn. Assumes Control.
use Prim.Native.Nat.{ℕ, suc, ◌≤◌, ◌<◌}
use native.Mathlib.Omega.{arith}
use mathlib.Core.Path.{◌≡◌, refl, sym, ◌∙◌}
use mathlib.Core.Bool.{Bool, true, false, cond, not}
use lib.Dec.{T, ltb}
use Rattle.machine.specs.declared.Node.{Node}
use Rattle.invariant.specs.Stages.{Stage, Combine, c13, c14, c15, c16, c17, c18, c20, out, wait, combine, l19, l21, dummy, queued}
use Rattle.invariant.specs.Ledger.{Ledger}
use Rattle.invariant.specs.View.{View}
use Rattle.invariant.specs.Waits.{waits}
use Rattle.invariant.specs.Control.{Slot, slot, held, NodeFields, Queued, Even, WaitRow, WaitFacts, CombineFacts, combine_row, Turn, Facts19, Facts21, DummyFacts, StageFacts, Order, Control}
use Rattle.object.proofs.Choice.{by_equal}
use Rattle.invariant.proofs.Waits.{waits_below, waits_free}
use Rattle.invariant.proofs.Seats.{linked_below}

-- the counts of before
pub record Still (g g' : Ledger) : Type 0 where
  pub a : g'.a ≡ g.a
  pub d : g'.d ≡ g.d
  pub r : g'.r ≡ g.r
  pub b : g'.b ≡ g.b

-- what no line takes back
pub record Grown (g g' : Ledger) : Type 0 where
  pub s : g.s ≤ g'.s
  pub r : g.r ≤ g'.r
  pub b : g.b ≤ g'.b
  pub node : (j : ℕ) → j ≤ g.s → g'.node j ≡ g.node j
  pub linked : (j : ℕ) → j ≤ g.s → g.linked j ≡ true → g'.linked j ≡ true

-- what a queued slot u relies on when another thread runs a line: y is its node after it
pub record Rely (g g' : Ledger) (u : ℕ) (y : Node) : Type 0 where
  pub at : g'.at u ≡ g.at u
  pub who : g'.who (g.at u) ≡ g.who (g.at u)
  pub linked : g'.linked (g.at u) ≡ g.linked (g.at u)
  pub still : g.at u ≡ g.b → Still g g'
  pub even : g.at u ≡ g'.b → (g.at u ≡ g.b → ⊥) → (g'.a ≡ g'.b) × (g'.r ≡ g'.b)
  pub top : g.at u ≡ g.s → g'.s ≡ g.s
  pub fields : NodeFields g' (g.at u) y

-- the same fields by another ledger
pub fields_same : (g g' : Ledger) (i : ℕ) (y : Node)
    → g'.linked i ≡ g.linked i
    → (g.linked i ≡ true → g'.node (suc i) ≡ g.node (suc i))
    → waits g.r g.b true i ≡ waits g'.r g'.b true i
    → ltb i g.d ≡ ltb i g'.d
    → NodeFields g i y
    → NodeFields g' i y
fields_same g g' i y l k w e f = record {
  next = rw l (go (g.linked i) refl f.next);
  wait = f.wait ∙ w;
  completed = f.completed ∙ e;
}
  where
    go : (b : Bool) → g.linked i ≡ b → y.next.0 ≡ cond b (g.node (suc i)) 255 → y.next.0 ≡ cond b (g'.node (suc i)) 255
    go true z x = x ∙ sym (k z)
    go false z x = x

-- tmpNodeNext is known only where the node to serve has a next
next_linked : (c : Combine) → T (combine_row c).next → T (combine_row c).linked
next_linked c13 q = q
next_linked c14 q = tt
next_linked c15 q = tt
next_linked c16 q = tt
next_linked c17 q = tt
next_linked c18 q = tt
next_linked c20 q = q

module _ (g g' : Ledger) (order : Order g) (below : g.linked g.r ≡ true → g.r < g.s) (grown : Grown g g') (u : ℕ) where
  module _ (y' : Node) (rely : Rely g g' u y') where
    -- a position that comes to the turn finds nothing served beyond it
    even_stable : Even g (g.at u) → Even g' (g.at u)
    even_stable e k =
        by_equal (g.at u) g.b
        (λ i. let s = rely.still i in let f = e i in (omega (arith, s, f), omega (arith, s, f)))
        (rely.even k)

    free_stable : waits g.r g.b true (g.at u) ≡ false → waits g'.r g'.b true (g.at u) ≡ false
    free_stable f =
        by_equal (g.at u) g.b
        (λ i. let s = rely.still i in rw (s.r, s.b) f)
        (λ i. waits_below g'.r g'.b true (g.at u) (omega (arith, waits_free g.r g.b true (g.at u) f i, grown.r)))

    wait_stable : (row : WaitRow) (own cur served : ℕ) → WaitFacts row g (g.at u) own cur served → WaitFacts row g' (g.at u) own cur served
    wait_stable row own cur served f = record {
      below = omega (arith, f.below, grown.s);
      none_served = f.none_served;
      linked = rely.linked ∙ f.linked;
      swapped = λ q. f.swapped q ∙ sym (grown.node _ f.below);
      home = f.home;
      free = λ q. free_stable (f.free q);
      released = λ q. omega (arith, f.released q, grown.r);
      turn = λ q. f.turn q ∙ sym (rely.still (f.turn q)).b;
      even = even_stable f.even;
    }

    turn_stable : (h own cur served : ℕ) → Turn h g (g.at u) own cur served → Turn h g' (g.at u) own cur served
    turn_stable h own cur served f = let s = rely.still f.turn in let l = rely.linked ∙ f.linked in search (arith, f, s, grown)

    node_released : Still g g' → g'.node g'.r ≡ g.node g.r
    node_released s = rw s.r (grown.node _ (omega (arith, order)))

    combine_stable : (c : Combine) (h tmp tmpnext served : ℕ) → Still g g' → CombineFacts (combine_row c) h g tmp tmpnext served → CombineFacts (combine_row c) h g' tmp tmpnext served
    combine_stable c h tmp tmpnext served s f = record {
      serving = f.serving ∙ sym (node_released s);
      applied = omega (arith, f.applied, s);
      completed = omega (arith, f.completed, s);
      counted = omega (arith, f.counted, s);
      room = f.room;
      linked = λ q. rw s.r (grown.linked _ (omega (arith, order)) (f.linked q));
      next = λ q. rw s.r (f.next q ∙ sym (grown.node _ (below (f.linked (next_linked c q)))));
      past = λ q. omega (arith, f.past q, s);
    }

    stable_19 : (tmpnext served : ℕ) → Still g g' → Facts19 g tmpnext served → Facts19 g' tmpnext served
    stable_19 tmpnext served s f = let next = f.next ∙ sym (node_released s) in search (arith, f, s)

    stable_21 : (h own cur served : ℕ) → Facts21 h g (g.at u) own cur served → Facts21 h g' (g.at u) own cur served
    stable_21 h own cur served f = search (arith, f, grown)

    dummy_stable : DummyFacts g (g.at u) → DummyFacts g' (g.at u)
    dummy_stable f =
        let e = rely.top f.last in
        record {
          last = f.last ∙ sym e;
          linked = rw (e, ← f.last) (rely.linked ∙ rw f.last f.linked);
          even = rw (e, ← f.last) (even_stable (rw f.last f.even));
        }

    queued_stable : (cur : ℕ) (y : Node) → g.at u ≤ g.s → Queued g u cur y → Queued g' u cur y'
    queued_stable cur y k f = record {
      who = rw rely.at (rely.who ∙ f.who);
      node = rw rely.at (grown.node _ k ∙ f.node);
      fields = rw rely.at rely.fields;
    }

  -- one lemma for every stage: the slot keeps what it knows
  facts_stable : (h : ℕ) (l : Stage) (x : Slot) (y y' : Node)
      → (T (queued l) → Rely g g' u y')
      → (T (not (queued l)) → y' ≡ y)
      → StageFacts h g u l x y
      → StageFacts h g' u l x y'
  facts_stable h (out o) x y y' rely e f = rw (e tt) f
  facts_stable h (wait w) x y y' rely e f =
      let k = rely tt in (queued_stable y' k _ y (omega (arith, f.1.below)) f.0, rw k.at (wait_stable y' k _ _ _ _ f.1))
  facts_stable h (combine c) x y y' rely e f =
      let k = rely tt in (
        queued_stable y' k _ y (omega (arith, f.1.0.below)) f.0,
        (rw k.at (turn_stable y' k _ _ _ _ f.1.0), combine_stable y' k c _ _ _ _ (k.still f.1.0.turn) f.1.1),
      )
  facts_stable h l19 x y y' rely e f =
      let k = rely tt in (
        queued_stable y' k _ y (omega (arith, f.1.0.below)) f.0,
        (rw k.at (turn_stable y' k _ _ _ _ f.1.0), stable_19 y' k _ _ (k.still f.1.0.turn) f.1.1),
      )
  facts_stable h l21 x y y' rely e f =
      let k = rely tt in (queued_stable y' k _ y (omega (arith, f.1.below)) f.0, rw k.at (stable_21 y' k _ _ _ _ f.1))
  facts_stable h dummy x y y' rely e f =
      let k = rely tt in (queued_stable y' k _ y (omega (arith, f.1.last)) f.0, rw k.at (dummy_stable y' k f.1))

-- a slot of the invariant after another thread's line
pub slot_stable : {n h : ℕ} {v : View} {g g' : Ledger} → Control n h v g → Grown g g' → (u : ℕ) → u ≤ n → (y : Node)
    → (T (queued (slot n v u).stage) → Rely g g' u y)
    → (T (not (queued (slot n v u).stage)) → y ≡ v.node (held (slot n v u)))
    → StageFacts h g' u (slot n v u).stage (slot n v u) y
slot_stable {n} {h} {v} {g} {g'} c grown u k y rely e =
    facts_stable g g' c.order (linked_below c g.r (omega (arith, c.order))) grown u h (slot n v u).stage (slot n v u) _ y rely e (c.facts u k)
