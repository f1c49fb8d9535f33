-- What Swap order and the servings say of the records: the first calls are served, each once, and a record shows the serving of its call.
-- Assumes SwapOrder, and that no more requests are applied than swapped.
use Prim.Native.Nat.{ℕ, zero, suc, ◌≤◌, ◌<◌}
use native.Mathlib.Omega.{arith}
use mathlib.Core.Path.{◌≡◌, refl, sym, ◌∙◌, ap}
use mathlib.Core.Bool.{false}
use mathlib.Core.List.{List, [], ◌∷◌, map}
use lib.ListN.{length, get_or, length-map}
use lib.Seq.{length-take-le, get_or-take}
use Rattle.object.specs.Each.{Each}
use Rattle.object.proofs.Choice.{either}
use Rattle.history.specs.Entries.{Entry}
use Rattle.history.specs.Terms.{Call, Serving, Shown, same, swap_order, servings, shown, unshown, shown_of, record_of, records_of}
use Rattle.history.specs.Method.{Seen, Positions}
use Rattle.history.specs.History.{SwapOrder}
use Rattle.history.proofs.OfCall.{same_itself, not_same}
use Rattle.history.proofs.Places.{map_at}

abbrev call_served : Serving → Call
call_served w = w.call

-- the serving that a record shows is the first of its call
pub shown_first : (l : List Serving) (i : ℕ) (x : Serving) → i < length l
    → ((j : ℕ) → j < i → same (get_or l i x).call (get_or l j x).call ≡ false) → shown_of (get_or l i x).call l ≡ shown (get_or l i x)
shown_first [] i x k f = absurd (omega arith)
shown_first (w ∷ l) zero x k f = rw (same_itself w.call)
shown_first (w ∷ l) (suc i) x k f = rw (f 0 (omega arith)) (shown_first l i x (omega arith) (λ j m. f (suc j) (omega arith)))

-- what holds of each serving as it is shown, and of none, holds of what a call shows
pub shown_each : (P : Shown → Type 0) → P unshown → (c : Call) (l : List Serving) → Each (λ (w : Serving). P (shown w)) l → P (shown_of c l)
shown_each P none c [] each = none
shown_each P none c (w ∷ l) each = either P (same c w.call) (λ t. each.0) (λ t. shown_each P none c l each.1)

-- and a call with no serving shows none
pub shown_not : (l : List Serving) (c d : Call)
    → ((j : ℕ) → j < length l → same c (get_or (map (λ (w : Serving). w.call) l) j d) ≡ false) → shown_of c l ≡ unshown
shown_not [] c d f = refl
shown_not (w ∷ l) c d f = rw (f 0 (omega arith)) (shown_not l c d (λ j m. f (suc j) (omega arith)))

-- record i is that of call i
pub record_at_lem : (past : List Entry) (i : ℕ) (d : Call) → i < length (swap_order past)
    → get_or (records_of past) i [] ≡ record_of past (get_or (swap_order past) i d)
record_at_lem past i d k = map_at (record_of past) (swap_order past) i d [] k

module _ {n : ℕ} {x : Seen} {p : Positions} {past : List Entry} (w : SwapOrder n x p past) (most : p.a ≤ p.s) where
  pub applied : length (servings past) ≡ p.a
  applied =
      sym (length-map (servings past) call_served) ∙ ap length w.served
      ∙ length-take-le p.a (swap_order past) (omega (arith, w.swaps))

  -- the i-th serving is of the i-th call
  pub call_at : (i : ℕ) (d : Call) → i < p.a → get_or (map (λ (w : Serving). w.call) (servings past)) i d ≡ get_or (swap_order past) i d
  call_at i d k = ap (λ (l : List Call). get_or l i d) w.served ∙ get_or-take p.a (swap_order past) i d k

  pub call_served_lem : (i : ℕ) (z : Serving) (d : Call) → i < p.a → (get_or (servings past) i z).call ≡ get_or (swap_order past) i d
  call_served_lem i z d k = sym (map_at call_served (servings past) i z d (omega (arith, applied))) ∙ call_at i d k

  -- a call's record shows the serving at its position, or none
  pub shown_at : (i : ℕ) (z : Serving) (d : Call) → i < p.a → shown_of (get_or (swap_order past) i d) (servings past) ≡ shown (get_or (servings past) i z)
  shown_at i z d k =
      rw (← call_served_lem i z d k) (shown_first (servings past) i z (omega (arith, applied)) (λ j m.
      not_same _ _ (λ e. w.once j i d m (omega arith) (sym (call_served_lem j z d (omega arith)) ∙ sym e ∙ call_served_lem i z d k))))

  pub shown_none : (i : ℕ) (d : Call) → p.a ≤ i → i < p.s → shown_of (get_or (swap_order past) i d) (servings past) ≡ unshown
  shown_none i d low high =
      shown_not (servings past) _ d (λ j m.
      let k : j < p.a = omega (arith, applied) in
      not_same _ _ (λ e. w.once j i d (omega arith) high (sym (call_at j d k) ∙ sym e)))
