-- When a position waits: neither released nor given the turn. Assumes nothing.
use Prim.Native.Nat.{ℕ, ◌≤◌, ◌<◌}
use native.Mathlib.Omega.{arith}
use mathlib.Core.Path.{◌≡◌, sym, ap, ◌∙◌}
use mathlib.Core.Bool.{Bool, true, false, not, ◌&&◌, or-true, false≢true}
use lib.Dec.{T, ltb, eqb}
use borrow.Author.Tests.{lt-ltb, le-ltb, eq-eqb, ne_eqb}
use Rattle.object.proofs.Choice.{by_equal, by_order, by_test}
use Rattle.invariant.specs.Waits.{waits}

module _ (r b : ℕ) (given : Bool) (i : ℕ) where
  pub waits_below : i < r → waits r b given i ≡ false
  waits_below k = rw (lt-ltb i r k)

  pub waits_turn : i ≡ b → given ≡ true → waits r b given i ≡ false
  waits_turn k e = rw (eq-eqb i b k, e, or-true)

  pub waits_beyond : r ≤ i → (i ≡ b → ⊥) → waits r b given i ≡ true
  waits_beyond k e = rw (le-ltb i r k, ne_eqb i b e)

  -- a position that does not wait is released or at the turn
  pub waits_free : waits r b given i ≡ false → (i ≡ b → ⊥) → i < r
  waits_free f e = by_order i r (λ k. k) (λ k. absurd (false≢true (sym f ∙ waits_beyond k e)))

  pub waits_held : waits r b given i ≡ false → r ≤ i → i ≡ b
  waits_held f k = by_equal i b (λ e. e) (λ e. absurd (false≢true (sym f ∙ waits_beyond k e)))

  -- the position of a Swap waits: no turn is given past the last
  pub waits_new : r ≤ i → (T given → b < i) → waits r b given i ≡ true
  waits_new k f =
      by_test given
      (λ e. waits_beyond k (λ z. let q = f (rw e tt) in omega arith))
      (λ e. by_test (eqb i b) (λ z. rw (le-ltb i r k, e, z)) (λ z. rw (le-ltb i r k, e, z)))

-- other counts by which it waits as before: it is released alike, and has the turn alike if it is not
pub waits_same : (r b : ℕ) (given : Bool) (r' b' : ℕ) (given' : Bool) (i : ℕ)
    → (i < r → i < r')
    → (r ≤ i → r' ≤ i)
    → (r ≤ i → (eqb i b && given) ≡ (eqb i b' && given'))
    → waits r b given i ≡ waits r' b' given' i
waits_same r b given r' b' given' i lo hi turn =
    by_order i r
    (λ k. waits_below r b given i k ∙ sym (waits_below r' b' given' i (lo k)))
    (λ k. rw (le-ltb i r k, le-ltb i r' (hi k)) (ap not (turn k)))

-- it has the turn alike: at both, or at neither
pub turn_same : (b b' : ℕ) (given : Bool) (i : ℕ) → (i ≡ b → i ≡ b') → (i ≡ b' → i ≡ b) → (eqb i b && given) ≡ (eqb i b' && given)
turn_same b b' given i to from =
    by_equal i b (λ e. rw (eq-eqb i b e, eq-eqb i b' (to e))) (λ e. rw (ne_eqb i b e, ne_eqb i b' (λ f. e (from f))))

pub turn_neither : (b : ℕ) (given : Bool) (b' : ℕ) (given' : Bool) (i : ℕ) → (i ≡ b → ⊥) → (i ≡ b' → ⊥) → (eqb i b && given) ≡ (eqb i b' && given')
turn_neither b given b' given' i e f = rw (ne_eqb i b e, ne_eqb i b' f)

pub ltb_same : (i d d' : ℕ) → (i < d → i < d') → (d ≤ i → d' ≤ i) → ltb i d ≡ ltb i d'
ltb_same i d d' lo hi = by_order i d (λ k. lt-ltb i d k ∙ sym (lt-ltb i d' (lo k))) (λ k. le-ltb i d k ∙ sym (le-ltb i d' (hi k)))
