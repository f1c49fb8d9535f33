-- When a position in Swap order waits, by either method.
use Rattle.std.specs.Prelude.{ℕ, Bool, not, ◌&&◌, ◌||◌, ltb, eqb}

-- until it is one of the r released, or is b, which has the turn, if that is given; in CC-Synch it always is
abbrev pub waits : ℕ → ℕ → Bool → ℕ → Bool
waits r b given i = not (ltb i r || eqb i b && given)
