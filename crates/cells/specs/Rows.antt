-- Cells set in columns. A line is a row whose columns have no width of their own.
use Rattle.std.specs.Prelude.{ℕ, zero, suc}
use mathlib.Core.List.{List, [], zip_with}
use Rattle.cells.specs.declared.Cell.{Cell}
use Rattle.cells.specs.declared.Cell.TheVariants.{Number, Says}
use Rattle.cells.specs.Text.{text, decimal, left, right, text_line}
use Rattle.cells.specs.Cells.{word_text}

-- numbers go right, words and hyphens left
abbrev pub in_column : ℕ → Cell → List ℕ
in_column width (Number n) = right width (decimal n)
in_column width (Says word) = left width (word_text word)

-- cells in columns of such widths; those behind the last width are left out
abbrev pub columns : List ℕ → List Cell → List (List ℕ)
columns widths cells = zip_with in_column widths cells

-- a row: its columns with one space between, and a newline
unfoldable pub row_text : List ℕ → List Cell → List ℕ
row_text widths cells = text_line (columns widths cells)

-- what stands in front of the i-th: one space, but for the first
abbrev pub gap : ℕ → List ℕ
gap zero = []
gap (suc i) = text " "
