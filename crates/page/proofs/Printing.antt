-- The text of pages as the code lays it: each row behind its heading. Assumes nothing.
use Prim.Native.Nat.{ℕ, zero, suc, ◌-◌, ◌%◌, ◌≤◌}
use native.Mathlib.Omega.{arith}
use mathlib.Core.Path.{◌≡◌, refl, sym, ap, ◌∙◌}
use mathlib.Core.Bool.{cond}
use mathlib.Core.List.{List, [], ◌∷◌, ◌++◌, zip_with, append-nil, append_assoc}
use lib.ListN.{length}
use lib.Dec.{eqb}
use borrow.Author.Tests.{eq-eqb, ne_eqb}
use Rattle.bench_file.specs.Bytes.{each_bytes}
use Rattle.cells.specs.Text.{numbered}
use Rattle.cells.specs.Cells.{Row, row_in, record_cells}
use Rattle.cells.specs.Rows.{row_text}
use Rattle.page.specs.Pages.{widths, most_records, page_row, head_row, on_first, pages_from, page_text, pages_text, indexed, rows_in}

-- the head row in front of the first record of each page, and alone where there are no records
abbrev pub heading : ℕ → List ℕ
heading order = cond (eqb (order % most_records) 0) head_row []

abbrev pub alone : ℕ → List ℕ
alone count = cond (eqb count 0) head_row []

-- a row and its heading
abbrev pub headed : ℕ → Row → List ℕ
headed order row = heading order ++ page_row row

-- the text of pages but for the first head row
unfoldable behind_head : List (List Row) → List ℕ
behind_head [] = []
behind_head (page ∷ pages) = each_bytes page_row page ++ each_bytes page_text pages

behind_first : (row : Row) (pages : List (List Row)) → behind_head (on_first row pages) ≡ page_row row ++ behind_head pages
unfolding behind_head each_bytes
behind_first row [] = append-nil (page_row row ++ [])
behind_first row (page ∷ pages) = append_assoc (page_row row) (each_bytes page_row page) (each_bytes page_text pages)

with_head : (page : List Row) (pages : List (List Row)) → each_bytes page_text (page ∷ pages) ≡ head_row ++ behind_head (page ∷ pages)
unfolding behind_head each_bytes page_text
with_head page pages = append_assoc head_row (each_bytes page_row page) (each_bytes page_text pages)

head_first : (row : Row) (pages : List (List Row)) → each_bytes page_text (on_first row pages) ≡ head_row ++ (page_row row ++ behind_head pages)
head_first row [] = with_head (row ∷ []) [] ∙ ap (λ (l : List ℕ). head_row ++ l) (behind_first row [])
head_first row (page ∷ pages) = with_head (row ∷ page) pages ∙ ap (λ (l : List ℕ). head_row ++ l) (behind_first row (page ∷ pages))

-- a heading stands where a page begins
heading_is : (order : ℕ) → order % 58 ≡ 0 → head_row ≡ heading order
heading_is order e = rw (eq-eqb (order % 58) 0 e)

heading_none : (order : ℕ) → (order % 58 ≡ 0 → ⊥) → [] ≡ heading order
heading_none order e = rw (ne_eqb (order % 58) 0 e)

-- the rows behind a page's head, with room for so many more on it
from_room : (room order : ℕ) (rows : List Row) → room ≤ 57 → order % 58 ≡ (58 - room) % 58 → behind_head (pages_from room rows) ≡ numbered headed order rows
unfolding pages_from behind_head each_bytes numbered
from_room room order [] b e = refl
from_room zero order (row ∷ rows) b e =
    head_first row (pages_from 57 rows)
    ∙ ap (λ (l : List ℕ). head_row ++ (page_row row ++ l)) (from_room 57 (suc order) rows (omega arith) (omega arith))
    ∙ ap (λ (head : List ℕ). head ++ (page_row row ++ numbered headed (suc order) rows)) (heading_is order (omega arith))
    ∙ sym (append_assoc (heading order) (page_row row) _)
from_room (suc room) order (row ∷ rows) b e =
    behind_first row (pages_from room rows)
    ∙ ap (λ (l : List ℕ). page_row row ++ l) (from_room room (suc order) rows (omega arith) (omega arith))
    ∙ ap (λ (head : List ℕ). head ++ (page_row row ++ numbered headed (suc order) rows)) (heading_none order (λ z. omega arith))
    ∙ sym (append_assoc (heading order) (page_row row) _)

-- no rows have the head row alone
pages_none : pages_text [] ≡ head_row
unfolding pages_text pages_from page_text each_bytes
pages_none = append-nil (head_row ++ []) ∙ append-nil head_row

pub pages_some : (row : Row) (rows : List Row) → pages_text (row ∷ rows) ≡ numbered headed 0 (row ∷ rows)
unfolding pages_text pages_from numbered
pages_some row rows =
    head_first row (pages_from 57 rows)
    ∙ ap (λ (l : List ℕ). head_row ++ (page_row row ++ l)) (from_room 57 1 rows (omega arith) (omega arith))
    ∙ sym (append_assoc (heading 0) (page_row row) _)

-- the same from the records
abbrev pub record_headed : ℕ → List ℕ → List ℕ
record_headed order bytes = heading order ++ page_row (row_in order bytes)

rows_headed : (order : ℕ) (records : List (List ℕ)) → numbered headed order (indexed row_in order records) ≡ numbered record_headed order records
unfolding numbered indexed
rows_headed order [] = refl
rows_headed order (bytes ∷ records) = ap (λ (l : List ℕ). record_headed order bytes ++ l) (rows_headed (suc order) records)

none_alone : (count : ℕ) → (count ≡ 0 → ⊥) → alone count ≡ []
none_alone count e = rw (ne_eqb count 0 e)

pub records_headed : (records : List (List ℕ)) → numbered record_headed 0 records ++ alone (length records) ≡ pages_text (rows_in records)
unfolding indexed numbered
records_headed [] = sym pages_none
records_headed (bytes ∷ records) =
    ap (λ (l : List ℕ). numbered record_headed 0 (bytes ∷ records) ++ l) (none_alone (length (bytes ∷ records)) (λ e. omega (arith, e)))
    ∙ append-nil (numbered record_headed 0 (bytes ∷ records))
    ∙ sym (rows_headed 0 (bytes ∷ records))
    ∙ sym (pages_some (row_in 0 bytes) (indexed row_in 1 records))

-- a record's row has the first nine of its cells
pub row_set : (order : ℕ) (bytes : List ℕ) → row_text widths (record_cells order bytes) ≡ page_row (row_in order bytes)
unfolding row_text record_cells page_row zip_with
row_set order bytes = refl
