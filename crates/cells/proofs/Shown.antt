-- A number stands in the value's place where the mark says so, and the row of a record shows its call. Assumes the claim, for the row.
use Prim.Native.Nat.{ℕ, zero, suc}
use native.Mathlib.Omega.{arith}
use mathlib.Core.Path.{◌≡◌, refl}
use mathlib.Core.Bool.{Bool, true, false, cond}
use mathlib.Core.List.{List}
use lib.Dec.{leb, eqb}
use lib.ListN.{get_or}
use borrow.Author.Tests.{lt-leb}
use Rattle.std.specs.Prelude.{Option, Some, None}
use Rattle.object.specs.declared.Answer.{Answer}
use Rattle.bench_file.specs.Layout.{Fields}
use Rattle.bench_file.specs.Bytes.{low_first}
use Rattle.step.specs.Entry.{one_if}
use Rattle.history.specs.Entries.{Entry}
use Rattle.history.specs.Terms.{Call, ret_mark, ret_value, record_of, number_at}
use Rattle.claims.specs.Claims.{Claimed}
use Rattle.claims.proofs.Bytes.{value_bytes, cost_bytes, turn_bytes}
use Rattle.cells.specs.declared.Word.TheVariants.{Hyphen}
use Rattle.cells.specs.declared.Cell.TheVariants.{Number, Says}
use Rattle.cells.specs.Cells.{ret_of, value_cell, byte_at, row_in, record_cells}
use Rattle.cells.specs.Shown.{shown_row}

-- mark and value stand for the response that they were written for
ret_back : (ret : Option Answer) → ret_of (ret_mark ret) (ret_value ret) ≡ ret
ret_back None = refl
ret_back (Some (Answer.Done count)) = refl
ret_back (Some (Answer.Value v)) = refl
ret_back (Some Answer.Empty) = refl
ret_back (Some Answer.Full) = refl

-- a number stands in the value's place exactly where the mark is that of done or of a value
value_by_mark : (mark value : ℕ) → value_cell (ret_of mark value) ≡ cond (leb mark 1) (Number value) (Says Hyphen)
value_by_mark zero value = refl
value_by_mark (suc zero) value = refl
value_by_mark (suc (suc zero)) value = refl
value_by_mark (suc (suc (suc zero))) value = refl
value_by_mark (suc (suc (suc (suc mark)))) value = rw (lt-leb (suc (suc (suc (suc mark)))) 1 (omega arith))

-- and it is the number of bytes 4 to 7
pub value_by_bytes : (order : ℕ) (bytes : List ℕ)
    → get_or (record_cells order bytes) 4 (Says Hyphen) ≡ cond (leb (byte_at bytes 2) 1) (Number (number_at bytes 4 4)) (Says Hyphen)
unfolding record_cells
value_by_bytes order bytes = value_by_mark (byte_at bytes 2) (number_at bytes 4 4)

state_back : (over : Bool) → eqb (one_if over) 1 ≡ over
state_back true = refl
state_back false = refl

-- a record's row shows its call, where the claim says that each number fits its bytes
pub row_shown : (order : ℕ) (history : List Entry) (c : Call) {f : Fields} → Claimed f history → row_in order (record_of history c) ≡ shown_row order history c
unfolding low_first
row_shown order history c claim =
    rw (value_bytes history c (claim.value_fits c), turn_bytes history c (claim.turn_fits c), cost_bytes history c (claim.cost_fits c), ret_back, state_back)
