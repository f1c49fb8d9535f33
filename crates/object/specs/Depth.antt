-- How full a queue or a stack is, by its answers alone: document 01's words for put and take, and request No. 3's, with no list of values in them.
use Rattle.std.specs.Prelude.{◌≡◌, ℕ, ◌+◌, ◌-◌, ◌<◌, List, [], ◌∷◌}
use Rattle.object.specs.declared.Answer.{Answer}
use Rattle.object.specs.declared.Answer.TheVariants.{Done, Value, Empty, Full}

-- with so many items held before the first answer: done is below the capacity, tells one item more, and one more is held; a value leaves one fewer; empty is
-- where none is held, full where the capacity is
abbrev pub DepthsFrom : ℕ → ℕ → List Answer → Type 0
DepthsFrom capacity held [] = Unit
DepthsFrom capacity held (Done count ∷ answers) = (held < capacity) × (count ≡ held + 1) × DepthsFrom capacity (held + 1) answers
DepthsFrom capacity held (Value v ∷ answers) = (0 < held) × DepthsFrom capacity (held - 1) answers
DepthsFrom capacity held (Empty ∷ answers) = (held ≡ 0) × DepthsFrom capacity held answers
DepthsFrom capacity held (Full ∷ answers) = (held ≡ capacity) × DepthsFrom capacity held answers
