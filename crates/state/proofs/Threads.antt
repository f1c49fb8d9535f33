-- The fresh threads: how many, and which stands where. Assumes nothing.
use Prim.Native.Nat.{ℕ, zero, suc, ◌+◌, ◌<◌}
use native.Mathlib.Nat.{add-zero}
use native.Mathlib.Omega.{arith}
use mathlib.Core.Path.{◌≡◌, refl, ap}
use mathlib.Core.List.{List, [], ◌∷◌}
use lib.ListN.{length, get_or}
use Rattle.machine.specs.declared.Thread.{Thread}
use Rattle.state.specs.Fresh.{fresh_thread, fresh_threads}

pub length_fresh : (i : ℕ) (counts : List ℕ) → length (fresh_threads i counts) ≡ length counts
length_fresh i [] = refl
length_fresh i (c ∷ counts) = ap suc (length_fresh (i + 1) counts)

pub fresh_at : (i : ℕ) (counts : List ℕ) (u : ℕ) (d : Thread) → u < length counts → get_or (fresh_threads i counts) u d ≡ fresh_thread (i + u) (get_or counts u 0)
fresh_at i [] u d h = absurd (omega arith)
fresh_at i (c ∷ counts) zero d h = rw add-zero
fresh_at i (c ∷ counts) (suc u) d h = let next : i + 1 + u ≡ i + suc u = omega arith in rw (← next) (fresh_at (i + 1) counts u d (omega arith))
