-- The bytes that std makes of a number, the lowest first, are the paper's. Assumes nothing.
use Prim.Native.Nat.{ℕ}
use mathlib.Core.Path.{◌≡◌, refl}
use Rattle.std.specs.Int.{to_le_bytes, w16}
use Rattle.bench_file.specs.Bytes.{low_first}

pub two_bytes : (number : ℕ) → to_le_bytes w16 number ≡ low_first 2 number
unfolding low_first
two_bytes number = refl
