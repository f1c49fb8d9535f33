-- How long rows and pages are, and that each byte of a row is one column. Assumes that each cell fits its column.
use Prim.Native.Nat.{ℕ, zero, suc, ◌+◌, ◌-◌, ◌*◌, ◌≤◌, ◌<◌}
use native.Mathlib.Omega.{arith}
use mathlib.Core.Path.{◌≡◌, refl, ap, ◌∙◌}
use mathlib.Core.Bool.{true, and-eq-true_iff}
use mathlib.Core.List.{List, [], ◌∷◌, zip_with, flatten}
use lib.ListN.{length, take, length-append}
use lib.Seq.{take_at, drop_at}
use lib.Dec.{leb, ltb}
use borrow.Author.Tests.{leb-true, ltb-true}
use Rattle.object.specs.Each.{Each, every, sum_of}
use Rattle.object.proofs.Each.{each_append, each_left, each_right, each_map, every_each}
use Rattle.bench_file.specs.Bytes.{each_bytes}
use Rattle.cells.specs.declared.Cell.{Cell}
use Rattle.cells.specs.declared.Cell.TheVariants.{Number, Says}
use Rattle.cells.specs.Text.{text, spaces, decimal, text_line, numbered}
use Rattle.cells.specs.Cells.{word_text, Row, row_cells}
use Rattle.cells.specs.Rows.{in_column, columns, row_text, gap}
use Rattle.cells.proofs.Decimal.{decimal_digits}
use Rattle.cells.proofs.Rows.{spaced, line_spaced, taken, line_length}
use Rattle.page.specs.Pages.{widths, row_length, page_row, head_row, page_text, pages_of, pages_text}
use Rattle.page.specs.Table.{In32Bits, CellsFit, Fits, FixedPitch}
use Rattle.page.proofs.Paging.{paged}
use Rattle.page.proofs.Telling.{is_visible, word_told, column_wide}

columns_taken : (widths : List ℕ) (cells : List Cell) → CellsFit widths cells → taken (columns widths cells) ≡ sum_of (λ (width : ℕ). width + 1) widths
unfolding zip_with taken sum_of
columns_taken [] cells f = refl
columns_taken (width ∷ widths) [] f = absurd f
columns_taken (width ∷ widths) (cell ∷ cells) f = omega (arith, column_wide width cell f.0, columns_taken widths cells f.2)

row_taken : (widths : List ℕ) (cells : List Cell) → 0 < length widths → CellsFit widths cells → length (row_text widths cells) ≡ sum_of (λ (width : ℕ). width + 1) widths
unfolding row_text zip_with
row_taken [] cells some f = absurd (omega arith)
row_taken (width ∷ widths) [] some f = absurd f
row_taken (width ∷ widths) (cell ∷ cells) some f = line_length (in_column width cell) (columns widths cells) ∙ columns_taken (width ∷ widths) (cell ∷ cells) f

row_wide : (row : Row) → Fits row → length (page_row row) ≡ row_length
unfolding page_row sum_of
row_wide row f = row_taken widths (row_cells row) (omega arith) f

pub head_wide : length head_row ≡ row_length
unfolding head_row zip_with
head_wide = refl

-- each byte is a column that can be seen
abbrev Visible : ℕ → Type 0
Visible c = (32 ≤ c) × (c < 127)

visible : (l : List ℕ) → every is_visible l ≡ true → Each Visible l
visible l e =
    each_map (λ c t. let p = (and-eq-true_iff (leb 32 c) (ltb c 127)).0 t in (leb-true 32 c p.0, ltb-true c 127 p.1)) l (every_each is_visible l e)

spaces_visible : (count : ℕ) → Each Visible (spaces count)
spaces_visible zero = tt
spaces_visible (suc count) = (omega arith, spaces_visible count)

column_visible : (width : ℕ) (cell : Cell) → In32Bits cell → Each Visible (in_column width cell)
column_visible width (Number n) b =
    each_append Visible (spaces (width - length (decimal n))) (decimal n) (spaces_visible (width - length (decimal n))) (each_map (λ c h. omega (arith, h)) (decimal n) (decimal_digits n (omega arith)))
column_visible width (Says word) b =
    each_append Visible (word_text word) (spaces (width - length (word_text word))) (visible (word_text word) (word_told word).visible) (spaces_visible (width - length (word_text word)))

columns_visible : (widths : List ℕ) (cells : List Cell) → CellsFit widths cells → Each (Each Visible) (columns widths cells)
unfolding zip_with
columns_visible [] cells f = tt
columns_visible (width ∷ widths) [] f = absurd f
columns_visible (width ∷ widths) (cell ∷ cells) f = (column_visible width cell f.1, columns_visible widths cells f.2)

gap_visible : (i : ℕ) → Each Visible (gap i)
gap_visible zero = tt
gap_visible (suc i) = (omega arith, tt)

spaced_visible : (i : ℕ) (words : List (List ℕ)) → Each (Each Visible) words → Each Visible (numbered spaced i words)
unfolding numbered
spaced_visible i [] e = tt
spaced_visible i (word ∷ words) e =
    each_append Visible (spaced i word) (numbered spaced (suc i) words) (each_append Visible (gap i) word (gap_visible i) e.0) (spaced_visible (suc i) words e.1)

-- a row is 55 columns and a newline
in_pitch : (words : List (List ℕ)) → Each (Each Visible) words → length (text_line words) ≡ row_length → FixedPitch (text_line words)
in_pitch words e wide =
    let is = line_spaced words in
    let long : length (numbered spaced 0 words) ≡ 55 = omega (arith, wide, ap length is, length-append (numbered spaced 0 words) (text "\n")) in
    record {
      wide = wide;
      visible = rw (← is, take_at (numbered spaced 0 words) (text "\n") 55 long) (spaced_visible 0 words e);
      ends = rw (← is, drop_at (numbered spaced 0 words) (text "\n") 55 long);
    }

pub row_in_pitch : (row : Row) → Fits row → FixedPitch (page_row row)
unfolding page_row row_text
row_in_pitch row f = in_pitch (columns widths (row_cells row)) (columns_visible widths (row_cells row) f) (row_wide row f)

pub head_in_pitch : FixedPitch head_row
unfolding head_row zip_with
head_in_pitch = record { wide = refl; visible = visible (take 55 head_row) refl; ends = refl }

-- so many rows as there are records and pages
abbrev pub Wide : Row → Type 0
Wide row = length (page_row row) ≡ row_length

rows_long : (rows : List Row) → Each Wide rows → length (each_bytes page_row rows) ≡ row_length * length rows
unfolding each_bytes
rows_long [] e = refl
rows_long (row ∷ rows) e = rw length-append (omega (arith, e.0, rows_long rows e.1))

page_long : (rows : List Row) → Each Wide rows → length (page_text rows) ≡ row_length * (1 + length rows)
unfolding page_text
page_long rows e = rw length-append (omega (arith, head_wide, rows_long rows e))

joined_long : (pages : List (List Row)) → Each Wide (flatten pages) → length (each_bytes page_text pages) ≡ row_length * (length (flatten pages) + length pages)
unfolding each_bytes flatten
joined_long [] e = refl
joined_long (page ∷ pages) e =
    omega (
      arith,
      length-append (page_text page) (each_bytes page_text pages),
      length-append page (flatten pages),
      page_long page (each_left Wide page (flatten pages) e),
      joined_long pages (each_right Wide page (flatten pages) e),
    )

pub pages_long : (rows : List Row) → Each Wide rows → length (pages_text rows) ≡ row_length * (length rows + length (pages_of rows))
unfolding pages_text
pages_long rows e = joined_long (pages_of rows) (rw (paged rows).all e) ∙ ap (λ (l : List Row). row_length * (length l + length (pages_of rows))) (paged rows).all
