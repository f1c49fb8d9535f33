-- What a thread knows stays true while another runs a line: counts grow, and are still for the thread that has the turn. Assumes what the laws' premises say.
use Prim.Native.Nat.{ℕ, suc, ◌≤◌, ◌<◌}
use native.Mathlib.Omega.{arith}
use mathlib.Core.Path.{◌≡◌, refl, sym, ◌∙◌, ap₂}
use mathlib.Core.Bool.{true, false}
use lib.Dec.{T}
use lib.Ieee.Bits.{is_false}
use Rattle.machine.specs.declared.Node.{Node}
use Rattle.machine.specs.declared.Thread.{Thread}
use Rattle.dsm_invariant.specs.Stages.{Stage, Out, idle, o2, o3, o4, o5, o6, o7, out, wait, combine, leave, nowhere, queued}
use Rattle.dsm_invariant.specs.Ledger.{Ledger, node_number, node_at}
use Rattle.invariant.specs.Waits.{waits}
use Rattle.dsm_invariant.specs.Control.{Link, none, right, NodeFields, In, Old, out_row, preparing, Even, Pred, first, after, Gate, arriving, behind, closed, opened, released, turn, Gated, WaitRow, wait_row, WaitFacts, CombineRow, combine_row, CombineFacts, Knows}
use Rattle.object.proofs.Choice.{by_equal, by_order}
use Rattle.invariant.proofs.Waits.{waits_below, waits_free}

-- the counts of before
pub record Still (g g' : Ledger) : Type 0 where
  pub a : g'.a ≡ g.a
  pub d : g'.d ≡ g.d
  pub r : g'.r ≡ g.r
  pub b : g'.b ≡ g.b
  pub k : g'.k ≡ g.k
  pub given : g'.given ≡ g.given

-- what no line takes back
pub record Grown (g g' : Ledger) : Type 0 where
  pub s : g.s ≤ g'.s
  pub a : g.a ≤ g'.a
  pub r : g.r ≤ g'.r
  pub b : g.b ≤ g'.b
  pub who : (i : ℕ) → i < g.s → g'.who i ≡ g.who i
  pub bit : (i : ℕ) → i < g.s → g'.bit i ≡ g.bit i
  pub joined : (i : ℕ) → i < g.s → g.joined i ≡ true → g'.joined i ≡ true

-- what a queued thread u relies on when another runs a line
pub record Rely (g g' : Ledger) (u : ℕ) : Type 0 where
  pub at : g'.at u ≡ g.at u
  pub joined : g'.joined (g.at u) ≡ g.joined (g.at u)
  pub still : g.at u ≡ g.b → Still g g'
  pub even : g.at u ≡ g'.b → (g.at u ≡ g.b → ⊥) → Even g'
  pub early : g.joined (g.at u) ≡ false → g.a ≤ g.at u → g'.a ≤ g.at u

-- a node that is being prepared keeps what is written into it
pub record Kept (x y : Node) : Type 0 where
  pub wait : y.wait ≡ x.wait
  pub completed : y.completed ≡ x.completed
  pub next : x.next.0 ≡ 255 → y.next.0 ≡ 255

pub kept_same : {x y : Node} → y ≡ x → Kept x y
kept_same e = rw e (record { wait = refl; completed = refl; next = λ z. z })

-- while the counts stay, a thread relies on its position alone
pub rely_still : {g g' : Ledger} (u : ℕ) → Still g g' → g'.at u ≡ g.at u → g'.joined (g.at u) ≡ g.joined (g.at u) → Rely g g' u
rely_still u s at joined = record { at = at; joined = joined; still = λ _. s; even = λ z y. absurd (y (z ∙ s.b)); early = λ _ z. omega (arith, s.a) }

-- what is written into a node is written after it is chosen
chosen_first : (o : Out)
    → (T (out_row o).wait → T (out_row o).chosen) × (T (out_row o).completed → T (out_row o).chosen) × (T (out_row o).next → T (out_row o).chosen)
chosen_first idle = (λ q. q, λ q. q, λ q. q)
chosen_first o2 = (λ q. q, λ q. q, λ q. q)
chosen_first o3 = (λ q. tt, λ q. tt, λ q. tt)
chosen_first o4 = (λ q. tt, λ q. tt, λ q. tt)
chosen_first o5 = (λ q. tt, λ q. tt, λ q. tt)
chosen_first o6 = (λ q. tt, λ q. tt, λ q. tt)
chosen_first o7 = (λ q. tt, λ q. tt, λ q. tt)

module _ (g g' : Ledger) (grown : Grown g g') where
  pub place_same : (i : ℕ) → i < g.s → node_at g' i ≡ node_at g i
  place_same i k = ap₂ node_number (grown.who i k) (grown.bit i k)

  pub link_stable : (i next : ℕ) → Link g i next → Link g' i next
  link_stable i next (none e) = none e
  link_stable i next (right k j e) = right (omega (arith, grown.s)) (grown.joined (suc i) k j) (e ∙ sym (place_same (suc i) k))

  -- the positions that are told of may have become fewer, and a new one is not the thread's
  pub old_stable : (u : ℕ) (s : Stage) (toggle : ℕ)
      → g'.at u ≡ g.at u
      → ((i : ℕ) → g.s ≤ i → i < g'.s → g'.who i ≡ u → ⊥)
      → Old g u s toggle
      → Old g' u s toggle
  old_stable u s toggle at fresh f = record {
    toggled = f.toggled;
    bit = λ i k w e q. let lo = low i k e in
        grown.bit i lo ∙ f.bit i lo (omega (arith, grown.a)) (sym (grown.who i lo) ∙ e) (λ j z. q j (z ∙ sym at));
    before = λ i k w e q. let lo = low i k e in omega (arith, at, f.before i lo (omega (arith, grown.a)) (sym (grown.who i lo) ∙ e) q);
  }
    where
      low : (i : ℕ) → i < g'.s → g'.who i ≡ u → i < g.s
      low i k e = by_order i g.s (λ z. z) (λ z. absurd (fresh i z k e))

  module _ (u : ℕ) where
    pub in_stable : (toggle my : ℕ) (x x' : Node) → g'.at u ≡ g.at u → NodeFields g' (g.at u) x' → In g u toggle my x → In g' u toggle my x'
    in_stable toggle my x x' at y f = record {
      below = omega (arith, at, f.below, grown.s);
      who = rw at (grown.who _ f.below ∙ f.who);
      bit = rw at (grown.bit _ f.below ∙ f.bit);
      home = f.home;
      fields = rw at y;
    }

    module _ (rely : Rely g g' u) where
      -- a position that comes to the turn finds nothing applied past it
      even_stable : (g.at u ≡ g.b → Even g) → g.at u ≡ g'.b → Even g'
      even_stable e z =
          by_equal (g.at u) g.b
          (λ i. let s = rely.still i in let f = e i in omega (arith, s, f))
          (rely.even z)

      opened_stable : waits g.r g.b g.given (g.at u) ≡ false → waits g'.r g'.b g'.given (g.at u) ≡ false
      opened_stable f =
          by_equal (g.at u) g.b
          (λ i. let s = rely.still i in rw (s.r, s.b, s.given) f)
          (λ i. waits_below g'.r g'.b g'.given (g.at u) (omega (arith, waits_free g.r g.b g.given (g.at u) f i, grown.r)))

      pred_stable : (pred : ℕ) → g.at u < g.s → Pred g (g.at u) pred → Pred g' (g.at u) pred
      pred_stable pred k (first e p) = first (e ∙ sym (rely.still e).b) p
      pred_stable pred k (after j e p) = after j e (p ∙ sym (place_same j (omega arith)))

      gate_stable : (gate : Gate) (pred : ℕ) → g.at u < g.s → Gated gate g (g.at u) pred → Gated gate g' (g.at u) pred
      gate_stable arriving pred k f = pred_stable pred k f
      gate_stable behind pred k f = (f.0, pred_stable pred k f.1)
      gate_stable closed pred k f = tt
      gate_stable opened pred k f = opened_stable f
      gate_stable released pred k f = omega (arith, grown.r)
      gate_stable turn pred k f = f ∙ sym (rely.still f).b

      wait_stable : (row : WaitRow) (pred served : ℕ) → g.at u < g.s → WaitFacts row g (g.at u) pred served → WaitFacts row g' (g.at u) pred served
      wait_stable row pred served k f = record {
        none_served = f.none_served;
        joined = rely.joined ∙ f.joined;
        early = λ q. rely.early (f.joined ∙ is_false row.joined q) (f.early q);
        even = even_stable f.even;
        gate = gate_stable row.gate pred k f.gate;
      }

      combine_stable : (row : CombineRow) (h tmp served : ℕ) → CombineFacts row h g (g.at u) tmp served → CombineFacts row h g' (g.at u) tmp served
      combine_stable row h tmp served f =
          let s = rely.still f.turn in
          record {
            turn = f.turn ∙ sym s.b;
            below = omega (arith, s, f.below, grown.s);
            joined = rw s.k (grown.joined _ f.below f.joined);
            serving = f.serving ∙ sym (rw s.k (place_same g.k f.below));
            applied = omega (arith, s, f.applied);
            completed = omega (arith, s, f.completed);
            released = omega (arith, s, f.released);
            counted = omega (arith, s, f.counted);
            room = f.room;
          }

    -- one lemma for every stage: the thread keeps what it knows
    pub facts_stable : (n h : ℕ) (s : Stage) (th : Thread) (x x' : Node)
        → (T (queued s) → Rely g g' u)
        → (T (queued s) → NodeFields g' (g.at u) x')
        → (T (preparing s) → Kept x x')
        → Knows n h g u s th x
        → Knows n h g' u s th x'
    facts_stable n h (out o) th x x' rely y kept f = record {
      begun = f.begun;
      chosen = f.chosen;
      wait = λ q. (kept ((chosen_first o).0 q)).wait ∙ f.wait q;
      completed = λ q. (kept ((chosen_first o).1 q)).completed ∙ f.completed q;
      next = λ q. (kept ((chosen_first o).2 q)).next (f.next q);
    }
    facts_stable n h (wait w) th x x' rely y kept f =
        let k = rely tt in (in_stable _ _ x x' k.at (y tt) f.0, rw k.at (wait_stable k (wait_row w) _ _ f.0.below f.1))
    facts_stable n h (combine w) th x x' rely y kept f =
        let k = rely tt in (in_stable _ _ x x' k.at (y tt) f.0, rw k.at (combine_stable k (combine_row w) h _ _ f.1))
    facts_stable n h (leave w) th x x' rely y kept f =
        let k = rely tt in (in_stable _ _ x x' k.at (y tt) f.0, search (arith, k.at, f.1, grown))
    facts_stable n h nowhere th x x' rely y kept f = f
