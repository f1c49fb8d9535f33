-- Laws of what is written into a lent buffer: where it fits, and what then stands there. Assumes nothing.
use Prim.Native.Nat.{ℕ, ◌≤◌}
use native.Mathlib.Decide.{dec_le}
use native.Mathlib.Omega.{arith}
use mathlib.Core.Path.{◌≡◌, refl}
use mathlib.Core.List.{List, ◌++◌}
use lib.ListN.{length, take, drop}
use lib.Seq.{take_at}
use borrow.Author.Tests.{le-leb, lt-leb}
use Rattle.bench_writer.specs.Writer.{Written}
use Rattle.bench_writer.specs.Buffer.{writing, Fills}
use Rattle.bench_writer.specs.Writer.{Writing, fitted}

pub fitted_whole : (room : ℕ) (bytes : List ℕ) → length bytes ≤ room → fitted room bytes ≡ writing bytes
fitted_whole room bytes h = rw (le-leb (length bytes) room h)

-- what is not refused is written whole
pub fitted_came : (room : ℕ) (bytes : List ℕ) → (fitted room bytes).refusal ≡ 0 → fitted room bytes ≡ writing bytes
fitted_came room bytes e =
    elim (dec_le (length bytes) room) [
      | yes h ↦ fitted_whole room bytes h
      | no h ↦ let z : ◌≡◌ {A = ℕ} 13 0 = rw (lt-leb (length bytes) room (omega arith)) at e in absurd (omega arith)
    ]

-- an answer and a buffer, from what is to be written otherwise said
pub fills : {w v : Writing} {answer : Written} {before after : List ℕ} → w ≡ v → answer.refusal ≡ v.refusal → answer.length ≡ length v.bytes
    → after ≡ v.bytes ++ drop (length v.bytes) before → Fills w answer before after
fills e refusal count buffer = rw e (record { refusal = refusal; count = count; buffer = buffer })

-- what is written stands from the buffer's first byte on
pub filled : {w : Writing} {answer : Written} {before after : List ℕ} → Fills w answer before after → take answer.length after ≡ w.bytes
filled {w} {before = before} f = rw (f.count, f.buffer) (take_at w.bytes (drop (length w.bytes) before) (length w.bytes) refl)

-- an answer and a buffer, for what is written otherwise said
pub filled_as : {w v : Writing} {answer : Written} {before after : List ℕ} → Fills w answer before after → w ≡ v → Fills v answer before after
filled_as f e = rw e at f
