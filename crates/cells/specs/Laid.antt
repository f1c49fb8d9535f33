-- How text is laid behind other text: as far as there is room.
use Rattle.std.specs.Prelude.{ℕ, ◌-◌, ◌≡◌, List, ◌++◌, length, take}

-- words were laid behind a text, where there is room for so many bytes in all
pub record Laid (room : ℕ) (old words new : List ℕ) : Type 0 where
  pub is : new ≡ old ++ take (room - length old) words
