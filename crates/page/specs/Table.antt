-- What makes a printed table trustworthy: how pages are filled, how wide a row is, and that a row tells its fields.
use Rattle.std.specs.Prelude.{ℕ, suc, ◌+◌, ◌*◌, ◌/◌, ◌%◌, ◌^◌, ◌≤◌, ◌<◌, ◌≡◌, length, get_or, take, drop}
use mathlib.Core.List.{List, [], ◌∷◌, flatten}
use Rattle.object.specs.Each.{Each}
use Rattle.cells.specs.declared.Cell.{Cell}
use Rattle.cells.specs.declared.Cell.TheVariants.{Number, Says}
use Rattle.cells.specs.Text.{text}
use Rattle.cells.specs.Cells.{cell_text, Row, row_cells}
use Rattle.page.specs.Pages.{widths, row_length, page_row, head_row, pages_of, pages_text}

-- how pages are filled
pub record Paged {A : Type 0} (rows : List A) (pages : List (List A)) : Type 0 where
  -- every row stands on a page, once and in order
  pub all : flatten pages ≡ rows
  -- a page has at most 58
  pub most : Each (λ (page : List A). length page ≤ 58) pages
  -- only the last may have fewer
  pub full : (k : ℕ) → suc k < length pages → length (get_or pages k []) ≡ 58
  -- a page has none exactly where there are none, and then it is the only one
  pub alone : rows ≡ [] → pages ≡ [] ∷ []
  pub never_else : (k : ℕ) → k < length pages → get_or pages k [] ≡ [] → rows ≡ []

-- a number of the bench has 32 bits
abbrev pub In32Bits : Cell → Type 0
In32Bits (Number n) = n < 2 ^ 32
In32Bits (Says word) = Unit

-- each cell fits its column
abbrev pub CellsFit : List ℕ → List Cell → Type 0
CellsFit [] cells = Unit
CellsFit (width ∷ widths) [] = ⊥
CellsFit (width ∷ widths) (cell ∷ cells) = (length (cell_text cell) ≤ width) × In32Bits cell × CellsFit widths cells

abbrev pub Fits : Row → Type 0
Fits row = CellsFit widths (row_cells row)

-- no two different rows of fields print alike
abbrev pub Apart : Type 0
Apart = (a b : Row) → Fits a → Fits b → page_row a ≡ page_row b → a ≡ b

-- a row in a fixed pitch, 55 columns and a newline: each byte is one column, a space or a visible character
pub record FixedPitch (bytes : List ℕ) : Type 0 where
  pub wide : length bytes ≡ row_length
  pub visible : Each (λ (c : ℕ). (32 ≤ c) × (c < 127)) (take 55 bytes)
  pub ends : drop 55 bytes ≡ text "\n"

-- the table of a result's rows
pub record Table (rows : List Row) : Type 0 where
  -- each row fits and is set in the pitch, and so is the head row
  pub fits : Each Fits rows
  pub in_pitch : Each (λ (row : Row). FixedPitch (page_row row)) rows
  pub head_in_pitch : FixedPitch head_row
  -- a row tells its fields, and is no head row
  pub apart : Apart
  pub head_apart : (row : Row) → Fits row → page_row row ≡ head_row → ⊥
  -- the pages, and no others are filled so
  pub paged : Paged rows (pages_of rows)
  pub only : (pages : List (List Row)) → Paged rows pages → pages ≡ pages_of rows
  -- how long they are; where row i stands, and the head row in front of each 58
  pub long : length (pages_text rows) ≡ row_length * (length rows + length (pages_of rows))
  pub in_place : (i : ℕ) (d : Row) → i < length rows → take row_length (drop (row_length * (i + i / 58 + 1)) (pages_text rows)) ≡ page_row (get_or rows i d)
  pub head_in_place : (i : ℕ) → i < length rows → i % 58 ≡ 0 → take row_length (drop (row_length * (i + i / 58)) (pages_text rows)) ≡ head_row
