-- Records that follow each other in a buffer are read back from it, each from its place. Assumes that each has a record's length.
use Prim.Native.Nat.{ℕ, zero, suc, ◌+◌, ◌-◌, ◌*◌, ◌<◌}
use native.Mathlib.Omega.{arith}
use mathlib.Core.Path.{◌≡◌, refl, sym, ap, ◌∙◌}
use mathlib.Core.List.{List, [], ◌∷◌, ◌++◌, append_assoc}
use lib.ListN.{length, get_or, take, drop}
use lib.Seq.{take_at, drop_at, drop-drop}
use Rattle.object.specs.Each.{Each}
use Rattle.bench_file.specs.Bytes.{each_bytes}
use Rattle.history.specs.Terms.{record_length}
use Rattle.bench.specs.Run.{records_laid}

pub laid_back : (records : List (List ℕ)) (rest : List ℕ) → Each (λ bytes. length bytes ≡ record_length) records
    → records_laid (length records) (each_bytes (λ bytes. bytes) records ++ rest) ≡ records
unfolding records_laid each_bytes
laid_back [] rest p = refl
laid_back (bytes ∷ records) rest p =
    rw (
      append_assoc bytes (each_bytes (λ bytes. bytes) records) rest,
      take_at bytes (each_bytes (λ bytes. bytes) records ++ rest) record_length p.0,
      drop_at bytes (each_bytes (λ bytes. bytes) records ++ rest) record_length p.0,
      laid_back records rest p.1,
    )

pub laid_count : (count : ℕ) (bytes : List ℕ) → length (records_laid count bytes) ≡ count
unfolding records_laid
laid_count zero bytes = refl
laid_count (suc count) bytes = ap suc (laid_count count (drop record_length bytes))

-- record i stands behind the i before it
pub laid_at : (count i : ℕ) (bytes : List ℕ) → i < count → get_or (records_laid count bytes) i [] ≡ take record_length (drop (record_length * i) bytes)
unfolding records_laid
laid_at zero i bytes b = absurd (omega arith)
laid_at (suc count) zero bytes b = refl
laid_at (suc count) (suc i) bytes b =
    let e : record_length + record_length * i ≡ record_length * suc i = omega arith in
    laid_at count i (drop record_length bytes) (omega arith) ∙ ap (take record_length) (drop-drop (record_length * i) record_length bytes ∙ ap (λ (k : ℕ). drop k bytes) e)

-- and is the slice between its own place and the next one's
pub laid_slice : (count i : ℕ) (bytes : List ℕ) → i < count → take (record_length * i + record_length - record_length * i) (drop (record_length * i) bytes) ≡ get_or (records_laid count bytes) i []
laid_slice count i bytes b =
    let e : record_length * i + record_length - record_length * i ≡ record_length = omega arith in
    ap (λ (size : ℕ). take size (drop (record_length * i) bytes)) e ∙ sym (laid_at count i bytes b)

pub in_place : (records : List (List ℕ)) (rest : List ℕ) → Each (λ bytes. length bytes ≡ record_length) records → (i : ℕ) → i < length records
    → take record_length (drop (record_length * i) (each_bytes (λ bytes. bytes) records ++ rest)) ≡ get_or records i []
in_place records rest sizes i b =
    sym (laid_at (length records) i (each_bytes (λ bytes. bytes) records ++ rest) b) ∙ ap (λ (l : List (List ℕ)). get_or l i []) (laid_back records rest sizes)
