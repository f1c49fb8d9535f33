-- A function with one value changed. Assumes nothing.
use Prim.Native.Nat.{ℕ}
use mathlib.Core.Path.{◌≡◌, refl, sym, ◌∙◌, subst}
use mathlib.Core.Bool.{Bool, true, cond}
use borrow.Author.Tests.{eq-eqb, ne_eqb}
use Rattle.object.proofs.Choice.{by_equal, either}
use Rattle.invariant.specs.Ledger.{upd}

pub upd_same : {A : Type 0} (f : ℕ → A) (k : ℕ) (x : A) → upd f k x k ≡ x
unfolding upd
upd_same f k x = rw (eq-eqb k k refl)

pub upd_other : {A : Type 0} (f : ℕ → A) (k : ℕ) (x : A) (j : ℕ) → (j ≡ k → ⊥) → upd f k x j ≡ f j
unfolding upd
upd_other f k x j e = rw (ne_eqb j k e)

-- changed by a test, elsewhere; and set to true, what was true stays
pub upd_if : {A : Type 0} (test : Bool) (f : ℕ → A) (k : ℕ) (x : A) (j : ℕ) → (test ≡ true → j ≡ k → ⊥) → cond test (upd f k x j) (f j) ≡ f j
upd_if test f k x j e = either (λ y. y ≡ f j) test (λ q. upd_other f k x j (e q)) (λ q. refl)

pub upd_more : (f : ℕ → Bool) (k j : ℕ) → f j ≡ true → upd f k true j ≡ true
upd_more f k j e = by_equal j k (λ z. rw z (upd_same f k true)) (λ z. upd_other f k true j z ∙ e)

-- two numbers exchanged
unfoldable pub exchange : ℕ → ℕ → ℕ → ℕ
exchange j k = upd (upd (λ u. u) j k) k j

-- what holds at j, at k and elsewhere holds everywhere
pub by_two : (P : ℕ → Type 0) (j k : ℕ) → P j → P k → ((u : ℕ) → (u ≡ j → ⊥) → (u ≡ k → ⊥) → P u) → (u : ℕ) → P u
by_two P j k first second other u = by_equal u j (λ e. subst P (sym e) first) (λ e. by_equal u k (λ z. subst P (sym z) second) (other u e))

module _ (j k : ℕ) (e : j ≡ k → ⊥) where
  pub exchange_first : exchange j k j ≡ k
  unfolding exchange
  exchange_first = upd_other _ k j j e ∙ upd_same _ j k

  pub exchange_second : exchange j k k ≡ j
  unfolding exchange
  exchange_second = upd_same _ k j

  pub exchange_other : (u : ℕ) → (u ≡ j → ⊥) → (u ≡ k → ⊥) → exchange j k u ≡ u
  unfolding exchange
  exchange_other u x y = upd_other _ k j u y ∙ upd_other _ j k u x

  pub exchange_twice : (u : ℕ) → exchange j k (exchange j k u) ≡ u
  exchange_twice =
      by_two (λ u. exchange j k (exchange j k u) ≡ u) j k
      (rw exchange_first exchange_second)
      (rw exchange_second exchange_first)
      (λ u x y. rw (exchange_other u x y) (exchange_other u x y))
