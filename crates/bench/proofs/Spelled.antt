-- The bytes that std makes of a test and of a number of 32 bits, the lowest first, are the paper's; of 16 bits: `two_bytes` of `bench_writer`. Assumes nothing.
use Prim.Native.Nat.{ℕ, ◌/◌, ◌%◌}
use native.Mathlib.Omega.{arith}
use mathlib.Core.Path.{◌≡◌, refl}
use mathlib.Core.Bool.{Bool, true, false}
use Rattle.std.specs.Int.{from_bool, to_le_bytes, w32}
use Rattle.bench_file.specs.Bytes.{low_first}
use Rattle.step.specs.Entry.{one_if}

pub one_or_none : (test : Bool) → from_bool test ≡ one_if test
one_or_none true = refl
one_or_none false = refl

pub four_bytes : (number : ℕ) → to_le_bytes w32 number ≡ low_first 4 number
unfolding low_first
four_bytes number = rw (third, fourth)
  where
    third : number / 65536 % 256 ≡ number / 256 / 256 % 256
    third = omega arith

    fourth : number / 16777216 % 256 ≡ number / 256 / 256 / 256 % 256
    fourth = omega arith
