-- The words of a head line as the code lays them: the method's behind a space, or none. Assumes nothing.
use Prim.Native.Nat.{ℕ}
use mathlib.Core.Path.{◌≡◌, refl}
use mathlib.Core.Bool.{Bool, true, false, cond}
use mathlib.Core.List.{List, [], ◌∷◌, ◌++◌}
use Rattle.cells.specs.Text.{text, line_end}

abbrev pub spaced_if : Bool → List ℕ → List ℕ
spaced_if first word = cond first [] (text " " ++ word)

pub behind_method : (first : Bool) (word : List ℕ) (words : List (List ℕ)) → spaced_if first word ++ line_end words ≡ line_end (cond first [] (word ∷ []) ++ words)
behind_method true word words = refl
behind_method false word words = refl
