-- Laws of bytes laid into a buffer, `pasted`: nothing laid, two runs laid one behind the other, and a run laid by way of the buffer's part.
-- Assumes nothing.
use Prim.Native.Nat.{ℕ, ◌+◌, ◌-◌, ◌≤◌}
use native.Mathlib.Nat.{add-zero, add_assoc}
use native.Mathlib.Omega.{arith}
use mathlib.Core.Path.{◌≡◌, ◌∙◌}
use mathlib.Core.List.{List, [], ◌++◌, append-nil, append_assoc}
use lib.ListN.{length, take, drop, length-append, length-drop, take-append-drop, drop_of_length-le}
use lib.Seq.{length-take-le, take_at, drop_at, drop-drop, take_all, take-length}
use Rattle.bench_writer.specs.Writer.{pasted}

module _ (buffer : List ℕ) (at : ℕ) where
  pub pasted_nothing : pasted buffer at [] ≡ buffer
  pasted_nothing = rw (append-nil, add-zero) (take-append-drop at buffer)

  pub head_length_lem : (bytes : List ℕ) → at ≤ length buffer → length (take at buffer ++ bytes) ≡ at + length bytes
  head_length_lem bytes h = rw (length-append, length-take-le at buffer h)

  pub length_pasted : (bytes : List ℕ) → at + length bytes ≤ length buffer → length (pasted buffer at bytes) ≡ length buffer
  length_pasted bytes h = rw (length-append, head_length_lem bytes (omega arith), length-drop) (omega arith)

  pub pasted_twice : (a b : List ℕ) → at ≤ length buffer → pasted (pasted buffer at a) (at + length a) b ≡ pasted buffer at (a ++ b)
  pasted_twice a b h =
      let p = take at buffer ++ a in
      let q = drop (at + length a) buffer in
      let n : length p ≡ at + length a = head_length_lem a h in
      rw (take_at p q (at + length a) n, ← drop-drop (length b) (at + length a) (p ++ q), drop_at p q (at + length a) n, drop-drop, length-append, ← append_assoc, add_assoc)

  -- the buffer's part from `at` on was filled from its start, and put back
  pub pasted_part : (src part : List ℕ) → at ≤ length buffer → part ≡ take (length src) src ++ drop (length src) (take (length buffer - at) (drop at buffer))
      → take at buffer ++ (part ++ drop (length buffer - at) (drop at buffer)) ≡ pasted buffer at src
  pasted_part src part h e =
      let n : length (drop at buffer) ≤ length buffer - at = rw length-drop (omega arith) in
      rw (e, take-length, take_all (length buffer - at) (drop at buffer) n, drop_of_length-le (drop at buffer) n, append-nil, drop-drop, ← append_assoc)

-- a run laid behind what was laid from the buffer's first byte on
pub pasted_behind : (buffer x y : List ℕ) (at : ℕ) {once twice : List ℕ} → once ≡ pasted buffer 0 x → at ≡ length x → twice ≡ pasted once at y → twice ≡ pasted buffer 0 (x ++ y)
pasted_behind buffer x y at p e q =
    let z : at ≡ 0 + length x = omega arith in
    q ∙ rw (p, z) (pasted_twice buffer 0 x y (omega arith))
