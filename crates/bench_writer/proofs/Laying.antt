-- A loop that lays the rows into a buffer keeps what is left to lay: laws for a pass and its end; how long a file is, and its head. Assumes nothing.
use Prim.Native.Nat.{ℕ, ◌+◌, ◌*◌, ◌≤◌, ◌<◌}
use native.Mathlib.Omega.{arith}
use mathlib.Core.Path.{◌≡◌, refl, sym, ap, ◌∙◌}
use mathlib.Core.List.{List, [], ◌∷◌, ◌++◌}
use lib.ListN.{length, get_or, take, drop, length-append, length-drop, drop_of_length-le}
use lib.Seq.{length-take-le}
use Rattle.object.proofs.Inverse.{kind_of_number}
use Rattle.bench_writer.specs.Writer.{pasted, Given, head_given, total, interleaved, raw_bytes}
use Rattle.object.specs.Each.{sum_of}
use Rattle.bench_file.specs.Layout.{head_length}
use Rattle.bench_file.specs.Bytes.{head_from, head_bytes}
use Rattle.bench_file.proofs.Methods.{method_of_number}
use Rattle.bench_file.proofs.Each.{low_length}
use Rattle.bench_file.proofs.Size.{head_length_lem}
use Rattle.bench_file.proofs.Reading.{cons_at}
use Rattle.bench_writer.proofs.Rows.{total_more}
use Rattle.bench_writer.proofs.Pasted.{pasted_nothing, pasted_twice, length_pasted}

-- the rows take a byte a thread and five a request
pub interleaved_length : (counts requests : List ℕ) → 5 * total counts ≤ length requests → length (interleaved counts requests) ≡ length counts + 5 * total counts
unfolding interleaved sum_of
interleaved_length [] requests h = refl
interleaved_length (count ∷ counts) requests h =
    let e = interleaved_length counts (drop (5 * count) requests) (rw length-drop (omega arith)) in
    rw (length-append, length-take-le (5 * count) requests (omega arith)) (omega arith)

module _ (counts : List ℕ) where
  -- what is left to lay, from thread i on, with the requests that are left
  abbrev pub rest_part : ℕ → List ℕ → List ℕ
  rest_part i left = interleaved (drop i counts) left

  -- a thread's row, whose requests are the first of those that are left
  abbrev pub row_part : ℕ → List ℕ → List ℕ
  row_part i left = get_or counts i 0 ∷ take (5 * get_or counts i 0) left

  rest_row : (i : ℕ) (left : List ℕ) → i < length counts → rest_part i left ≡ row_part i left ++ rest_part (i + 1) (drop (5 * get_or counts i 0) left)
  unfolding interleaved
  rest_row i left h = ap (λ (l : List ℕ). interleaved l left) (cons_at counts i h)

  module _ (requests buffer₀ : List ℕ) (at : ℕ) where
    pub record Laying (buffer : List ℕ) (next : ℕ) (left : List ℕ) (i : ℕ) : Type 0 where
      pub asked : 5 * total (drop i counts) ≤ length left
      pub size : length buffer ≡ length buffer₀
      pub ahead : next + length (rest_part i left) ≡ at + length (interleaved counts requests)
      pub laid : pasted buffer next (rest_part i left) ≡ pasted buffer₀ at (interleaved counts requests)

    module _ {buffer left : List ℕ} {next i : ℕ} (l : Laying buffer next left i) (fits : at + length (interleaved counts requests) ≤ length buffer₀) (below : i < length counts) where
      abbrev asks : ℕ
      asks = 5 * get_or counts i 0

      pub inside : asks ≤ length left
      inside = omega (arith, l.asked, total_more counts i below)

      row_length : length (row_part i left) ≡ 1 + asks
      row_length = rw (length-take-le asks left inside) (omega arith)

      pub room : next + (1 + asks) + length (rest_part (i + 1) (drop asks left)) ≡ at + length (interleaved counts requests)
      room = omega (arith, l.ahead, ap length (rest_row i left below) ∙ length-append (row_part i left) (rest_part (i + 1) (drop asks left)), row_length)

      pub passes : {after : List ℕ} → after ≡ pasted buffer next (row_part i left) → Laying after (next + (1 + asks)) (drop asks left) (i + 1)
      passes {after} e = record {
        asked = rw length-drop (omega (arith, l.asked, total_more counts i below));
        size = ap length e ∙ length_pasted buffer next (row_part i left) (omega (arith, room, row_length, l.size)) ∙ l.size;
        ahead = room;
        laid =
            rw (e, ← row_length) (pasted_twice buffer next (row_part i left) (rest_part (i + 1) (drop asks left)) (omega (arith, room, l.size))
            ∙ ap (λ (rows : List ℕ). pasted buffer next rows) (sym (rest_row i left below))
            ∙ l.laid);
      }

    pub ends : {buffer left : List ℕ} {next i : ℕ} → Laying buffer next left i → length counts ≤ i
        → (next ≡ at + length (interleaved counts requests)) × (buffer ≡ pasted buffer₀ at (interleaved counts requests))
    unfolding interleaved
    ends {buffer} {left} {next} {i} l h =
        let e : rest_part i left ≡ [] = rw drop_of_length-le in
        (omega (arith, l.ahead, ap length e), sym (pasted_nothing buffer next) ∙ rw e at l.laid)

-- the head that the numbers stand for has their bytes
pub head_from_given : (g : Given) → g.object ≤ 2 → g.method ≤ 1 → head_bytes (head_given g) ≡ head_from g.version g.object g.n g.h g.capacity g.method
head_from_given g object method = rw (kind_of_number g.object object, method_of_number g.method method)

pub raw_length : (g : Given) → length (raw_bytes g) ≡ head_length g.version + 2 + length (interleaved g.counts g.requests) + length g.schedule
unfolding raw_bytes
raw_length g = rw (length-append, length-append, length-append, head_length_lem) (omega (arith, low_length 2 (length g.schedule)))
