-- How long a file is: its head, two bytes for the schedule's length, one for each thread, five for each request and one for each entry. Assumes nothing.
use Prim.Native.Nat.{ℕ, suc, ◌+◌, ◌*◌, ◌≤◌}
use native.Mathlib.Omega.{arith}
use mathlib.Core.Path.{◌≡◌, refl, ap}
use mathlib.Core.Bool.{Bool, true, false, cond}
use mathlib.Core.List.{List, [], ◌∷◌}
use lib.ListN.{length, length-append}
use lib.Dec.{eqb}
use Rattle.object.specs.declared.Request.{Request}
use Rattle.object.specs.Paper.{request_value}
use Rattle.object.specs.Each.{sum_of}
use Rattle.object.proofs.Choice.{either}
use Rattle.bench_file.specs.Layout.{Fields, head_length}
use Rattle.bench_file.specs.Bytes.{request_bytes, each_bytes, row_bytes, head_from, bytes_of}
use Rattle.bench_file.proofs.Each.{each_bytes_length, low_length}

pub request_length : (r : Request) → length (request_bytes r) ≡ 5
request_length r = ap suc (low_length 4 (request_value r))

rows_length : (rows : List (List Request)) → length (each_bytes row_bytes rows) ≡ length rows + 5 * sum_of length rows
unfolding each_bytes sum_of
rows_length [] = refl
rows_length (row ∷ rows) = rw length-append (omega (arith, each_bytes_length request_bytes 5 request_length row, rows_length rows))

-- the head's last byte, where it has one
method_length : (first : Bool) (number : ℕ) → 9 + length (cond first [] (number ∷ [])) ≡ cond first 9 10
method_length true number = refl
method_length false number = refl

pub head_length_lem : (version object n h capacity method : ℕ) → length (head_from version object n h capacity method) ≡ head_length version
head_length_lem version object n h capacity method =
    simp length-append (omega (arith, low_length 2 version, method_length (eqb version 1) method))

-- it has 9 bytes or 10
pub head_range : (version : ℕ) → (9 ≤ head_length version) × (head_length version ≤ 10)
head_range version = either (λ long. (9 ≤ long) × (long ≤ 10)) (eqb version 1) (λ e. omega arith) (λ e. omega arith)

pub length_bytes : (f : Fields) → length (bytes_of f) ≡ head_length f.head.version + 2 + length f.rows + 5 * sum_of length f.rows + length f.schedule
unfolding bytes_of
length_bytes f = rw (length-append, length-append, length-append, head_length_lem) (omega (arith, rows_length f.rows, low_length 2 (length f.schedule)))
