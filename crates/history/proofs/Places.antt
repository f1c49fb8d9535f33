-- Reading a list at one of its own places: the value given for other places does not matter, for the list and for the list mapped. Assumes nothing.
use Prim.Native.Nat.{ℕ, ◌<◌}
use mathlib.Core.Path.{◌≡◌, sym, ap, ◌∙◌}
use mathlib.Core.List.{List, map}
use lib.ListN.{length, get_or, length-map, get_or-map}
use lib.Seq.{get_or-set_same, set-get_or}

pub get_d_any : {A : Type 0} (l : List A) (i : ℕ) (a b : A) → i < length l → get_or l i a ≡ get_or l i b
get_d_any {A} l i a b k = sym (get_or-set_same l i (get_or l i a) b k) ∙ ap (λ (z : List A). get_or z i b) (set-get_or l i a)

pub map_at : {A B : Type 0} (f : A → B) (l : List A) (i : ℕ) (a : A) (b : B) → i < length l → get_or (map f l) i b ≡ f (get_or l i a)
map_at f l i a b k = get_d_any (map f l) i b (f a) (rw length-map k) ∙ get_or-map f l i a
