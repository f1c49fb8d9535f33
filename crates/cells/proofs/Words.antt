-- How long words, cells and the line of a refusal are at most. Assumes nothing.
use Prim.Native.Nat.{ℕ, ◌≤◌}
use native.Mathlib.Omega.{arith}
use lib.ListN.{length, length-append}
use Rattle.std.specs.Prelude.{Option, Some, None}
use Rattle.object.specs.declared.Answer.{Answer}
use Rattle.cells.specs.declared.Word.{Word}
use Rattle.cells.specs.declared.Word.TheVariants.{Queue, Stack, Counter, Done, Value, Empty, Full, NoAnswer, Hyphen, Returned, Open, Cc, Dsm}
use Rattle.cells.specs.declared.Cell.{Cell}
use Rattle.cells.specs.declared.Cell.TheVariants.{Number, Says}
use Rattle.cells.specs.Text.{text, decimal}
use Rattle.cells.specs.Cells.{word_text, cell_text, mark_word}
use Rattle.cells.specs.Promise.{refusal_line}
use Rattle.cells.proofs.Decimal.{at_most}

-- a word has at most eight bytes
pub word_length : (word : Word) → length (word_text word) ≤ 8
word_length Queue = omega arith
word_length Stack = omega arith
word_length Counter = omega arith
word_length Done = omega arith
word_length Value = omega arith
word_length Empty = omega arith
word_length Full = omega arith
word_length NoAnswer = omega arith
word_length Hyphen = omega arith
word_length Returned = omega arith
word_length Open = omega arith
word_length Cc = omega arith
word_length Dsm = omega arith

-- a mark word has at most five bytes
pub mark_length : (ret : Option Answer) → length (word_text (mark_word ret)) ≤ 5
mark_length None = omega arith
mark_length (Some (Answer.Done count)) = omega arith
mark_length (Some (Answer.Value v)) = omega arith
mark_length (Some Answer.Empty) = omega arith
mark_length (Some Answer.Full) = omega arith

-- a cell has at most ten bytes
pub cell_length : (cell : Cell) → length (cell_text cell) ≤ 10
cell_length (Number n) = at_most 9 n
cell_length (Says word) = omega (arith, word_length word)

-- the line of a refusal has at most 19 bytes
pub refusal_length : (number : ℕ) → length (refusal_line number) ≤ 19
unfolding refusal_line
refusal_length number = omega (arith, length-append (decimal number) (text "\n"), at_most 9 number)
