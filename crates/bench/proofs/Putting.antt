-- A loop that lays the records into a buffer, one a pass: the buffer after i of them. Assumes nothing.
use Prim.Native.Nat.{ℕ, ◌+◌, ◌*◌, ◌≤◌, ◌<◌}
use native.Mathlib.Nat.{zero-add}
use native.Mathlib.Numerals.{add-one}
use native.Mathlib.Omega.{arith}
use mathlib.Core.Path.{◌≡◌, refl, ap, ◌∙◌}
use mathlib.Core.List.{List, [], ◌∷◌, ◌++◌, map, append-nil}
use lib.ListN.{length, get_or, take}
use lib.Seq.{length-take-le, take-suc}
use Rattle.bench_file.specs.Bytes.{low_first, each_bytes}
use Rattle.bench_file.proofs.Each.{each_bytes_append, each_bytes_length}
use Rattle.bench_writer.specs.Writer.{pasted}
use Rattle.bench_writer.proofs.Pasted.{length_pasted, pasted_behind}
use Rattle.history.specs.Terms.{Call, record_length}
use Rattle.kept.specs.declared.Kept.{Kept}
use Rattle.kept.specs.Kept.{call_at, unkept}
use Rattle.bench.specs.Records.{kept_record, record_at, records_in}
use Rattle.bench.specs.Run.{written}

record_length_lem : (c : Call) (k : Kept) → length (kept_record c k) ≡ record_length
unfolding low_first
record_length_lem c k = refl

each_mapped : {A : Type 0} (bytes : A → List ℕ) (l : List A) → each_bytes (λ (b : List ℕ). b) (map bytes l) ≡ each_bytes bytes l
unfolding each_bytes
each_mapped bytes [] = refl
each_mapped bytes (a ∷ l) = ap (λ (rest : List ℕ). bytes a ++ rest) (each_mapped bytes l)

module _ (kept : List Kept) where
  pub record_long : (place : ℕ) → length (record_at kept place) ≡ record_length
  record_long place = record_length_lem (call_at place) (get_or kept place unkept)

  one_record : (place : ℕ) → each_bytes (record_at kept) (place ∷ []) ≡ record_at kept place
  unfolding each_bytes
  one_record place = append-nil (record_at kept place)

  module _ (order old : List ℕ) (count : ℕ) where
    -- the first i records
    abbrev records : ℕ → List ℕ
    records i = each_bytes (record_at kept) (take i order)

    -- a loop that has laid i of so many
    pub record RecordsLaid (out : List ℕ) (i : ℕ) : Type 0 where
      pub below : i ≤ count
      pub size : length out ≡ length old
      pub is : out ≡ pasted old 0 (records i)

    pub lays_none : RecordsLaid old 0
    unfolding each_bytes
    lays_none = record { below = omega arith; size = refl; is = refl }

    module _ (there : count ≤ length order) (room : record_length * count ≤ length old) where
      long : (i : ℕ) → i ≤ count → length (records i) ≡ record_length * i
      long i b = each_bytes_length (record_at kept) record_length record_long (take i order) ∙ ap (λ (k : ℕ). record_length * k) (length-take-le i order (omega arith))

      one_more : (i : ℕ) → i < count → records i ++ record_at kept (get_or order i 0) ≡ records (i + 1)
      one_more i b =
          let known : i < length order = omega arith in
          rw (add-one, take-suc order i 0 known, each_bytes_append, one_record)

      -- one record more, copied into the buffer behind those laid
      pub lays : (out bytes : List ℕ) {after : List ℕ} (i : ℕ) → RecordsLaid out i → i < count → bytes ≡ record_at kept (get_or order i 0)
          → after ≡ pasted out (record_length * i) bytes → RecordsLaid after (i + 1)
      lays out bytes i before b here laid =
          let more : records i ++ bytes ≡ records (i + 1) = rw here (one_more i b) in
          let is = pasted_behind old (records i) bytes (record_length * i) before.is (omega (arith, long i (omega arith))) laid ∙ ap (pasted old 0) more in
          record { below = omega arith; size = ap length is ∙ length_pasted old 0 (records (i + 1)) (omega (arith, long (i + 1) (omega arith))); is = is }

      -- after all of them the buffer has the records
      pub lays_all : (out : List ℕ) (i : ℕ) → RecordsLaid out i → count ≤ i → out ≡ written old (records_in count kept order)
      lays_all out i l b =
          let all : i ≡ count = omega (arith, l.below) in
          rw (l.is, all, each_mapped (record_at kept) (take count order), zero-add)
