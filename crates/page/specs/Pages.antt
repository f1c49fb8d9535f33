-- The pages of a result: document 02, No. 2.
use Rattle.std.specs.Prelude.{ℕ, zero, suc}
use mathlib.Core.List.{List, [], ◌∷◌, ◌++◌, zip_with}
use Rattle.bench_file.specs.Bytes.{each_bytes}
use Rattle.cells.specs.Text.{text, left, text_line}
use Rattle.cells.specs.Cells.{Row, row_cells, row_in}
use Rattle.cells.specs.Rows.{row_text}

-- the widths of the columns: order, thread, request, mark word, value, server, turn, remote references, state
abbrev pub widths : List ℕ
widths = 3 ∷ 2 ∷ 2 ∷ 5 ∷ 10 ∷ 2 ∷ 5 ∷ 10 ∷ 8 ∷ []

-- a row is 55 columns and a newline
abbrev pub row_length : ℕ
row_length = 56

-- the row of a call's fields: numbers right, words and hyphens left
unfoldable pub page_row : Row → List ℕ
page_row row = row_text widths (row_cells row)

-- the head row: each word left in its column
unfoldable pub head_row : List ℕ
head_row =
    text_line
    (zip_with left widths
    (text "no"
    ∷ text "th"
    ∷ text "rq"
    ∷ text "ans"
    ∷ text "value"
    ∷ text "by"
    ∷ text "turn"
    ∷ text "remote"
    ∷ text "state"
    ∷ []))

-- so many records a page has at most
abbrev pub most_records : ℕ
most_records = 58

-- one more in front of the first page's
abbrev pub on_first : {A : Type 0} → A → List (List A) → List (List A)
on_first a [] = (a ∷ []) ∷ []
on_first a (page ∷ pages) = (a ∷ page) ∷ pages

-- records go onto a page that has room for so many more; where it has none, the next begins a new page, with room for 57 behind it
unfoldable pub pages_from : {A : Type 0} → ℕ → List A → List (List A)
pages_from room [] = [] ∷ []
pages_from zero (a ∷ l) = [] ∷ on_first a (pages_from 57 l)
pages_from (suc room) (a ∷ l) = on_first a (pages_from room l)

abbrev pub pages_of : {A : Type 0} → List A → List (List A)
pages_of = pages_from most_records

-- a page: the head row, and its records' rows
unfoldable pub page_text : List Row → List ℕ
page_text rows = head_row ++ each_bytes page_row rows

-- the pages of rows, one behind the other
unfoldable pub pages_text : List Row → List ℕ
pages_text rows = each_bytes page_text (pages_of rows)

-- a list's elements with their numbers, from an order on: it runs on over the pages
unfoldable pub indexed : {A B : Type 0} → (ℕ → A → B) → ℕ → List A → List B
indexed f order [] = []
indexed f order (a ∷ l) = f order a ∷ indexed f (suc order) l

-- the rows of records
abbrev pub rows_in : List (List ℕ) → List Row
rows_in = indexed row_in 0
