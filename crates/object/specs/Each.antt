-- What is said of each element of a list: a property, a test, a count. It stands here because every crate that says it of a list is above this one.
use Rattle.std.specs.Prelude.{ℕ, ◌+◌, Bool, true, ◌&&◌, List, [], ◌∷◌}

-- each has the property
abbrev pub Each : {A : Type 0} → (A → Type 0) → List A → Type 0
Each P [] = Unit
Each P (a ∷ l) = P a × Each P l

-- each passes the test
abbrev pub every : {A : Type 0} → (A → Bool) → List A → Bool
every test [] = true
every test (a ∷ l) = test a && every test l

-- the sum of what each counts
unfoldable pub sum_of : {A : Type 0} → (A → ℕ) → List A → ℕ
sum_of tally [] = 0
sum_of tally (a ∷ l) = tally a + sum_of tally l
