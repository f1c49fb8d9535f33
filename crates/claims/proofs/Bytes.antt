-- The bytes of a record: how many, and the numbers in them. Assumes what each law says of the call's own numbers.
use Prim.Native.Nat.{ℕ, ◌^◌, ◌≤◌, ◌<◌}
use native.Mathlib.Omega.{arith}
use mathlib.Core.Path.{◌≡◌}
use mathlib.Core.Bool.{Bool, true, false}
use mathlib.Core.List.{List}
use Rattle.std.specs.Prelude.{Option, Some, None}
use Rattle.object.specs.declared.Answer.{Answer}
use Rattle.object.specs.declared.Answer.TheVariants.{Done, Value, Empty, Full}
use Rattle.object.specs.Paper.{answer_mark}
use Rattle.bench_file.specs.Reading.{little_endian}
use Rattle.bench_file.specs.Bytes.{low_first, Byte}
use Rattle.bench_file.proofs.Each.{low_value}
use Rattle.step.specs.Entry.{one_if}
use Rattle.history.specs.Entries.{Entry}
use Rattle.claims.specs.Claims.{RecordSized}
use Rattle.history.specs.Terms.{Call, no_turn, servings, cost_of, returned, no_entry, began_at, returned_at, Shown, shown_of, ret_mark, ret_value, record_of, number_at}

-- an answer's mark is not that of none
pub mark_below : (a : Answer) → answer_mark a < 255
mark_below (Done count) = omega arith
mark_below (Value v) = omega arith
mark_below Empty = omega arith
mark_below Full = omega arith

ret_byte : (r : Option Answer) → Byte (ret_mark r)
ret_byte None = omega arith
ret_byte (Some a) = omega (arith, mark_below a)

test_byte : (b : Bool) → Byte (one_if b)
test_byte true = omega arith
test_byte false = omega arith

pub record_sized : (history : List Entry) (c : Call) → Byte c.thread.0 → Byte c.request → Byte (shown_of c (servings history)).server.0
    → RecordSized (record_of history c)
unfolding low_first
record_sized history c thread request server = omega (arith, ret_byte (shown_of c (servings history)).ret, test_byte (returned c history))

-- the numbers of a call's record are the call's, where they fit their bytes
module _ (history : List Entry) (c : Call) where
  abbrev w : Shown
  w = shown_of c (servings history)

  abbrev number : ℕ → ℕ → ℕ
  number from width = number_at (record_of history c) from width

  pub mark_byte : number 2 1 ≡ ret_mark w.ret
  unfolding low_first little_endian
  mark_byte = omega arith

  pub server_byte : number 3 1 ≡ w.server.0
  unfolding low_first little_endian
  server_byte = omega arith

  pub state_byte : number 12 1 ≡ one_if (returned c history)
  unfolding low_first little_endian
  state_byte = omega arith

  pub value_bytes : ret_value w.ret < 2 ^ 32 → number 4 4 ≡ ret_value w.ret
  unfolding low_first
  value_bytes fits = low_value 4 (ret_value w.ret) fits

  pub cost_bytes : cost_of c history < 2 ^ 32 → number 8 4 ≡ cost_of c history
  unfolding low_first
  cost_bytes fits = low_value 4 (cost_of c history) fits

  pub turn_bytes : w.turn ≤ no_turn → number 13 2 ≡ w.turn
  unfolding low_first
  turn_bytes fits = low_value 2 w.turn (omega arith)

  pub began_bytes : began_at c history ≤ no_entry → number 16 4 ≡ began_at c history
  unfolding low_first
  began_bytes fits = low_value 4 (began_at c history) (omega arith)

  pub returned_bytes : returned_at c history ≤ no_entry → number 20 4 ≡ returned_at c history
  unfolding low_first
  returned_bytes fits = low_value 4 (returned_at c history) (omega arith)
