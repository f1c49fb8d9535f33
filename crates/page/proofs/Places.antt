-- Where the rows of pages stand: behind those before them and their headings. Assumes that each row is 56 bytes.
use Prim.Native.Nat.{ℕ, suc, ◌+◌, ◌*◌, ◌/◌, ◌%◌, ◌<◌}
use native.Mathlib.Nat.{zero-add}
use native.Mathlib.Omega.{arith}
use mathlib.Core.Path.{◌≡◌, ap, ◌∙◌}
use mathlib.Core.List.{List, [], ◌∷◌, ◌++◌, append_assoc}
use lib.ListN.{length, get_or, take, drop, length-append}
use lib.Seq.{length-take-le, split_at, take_at, drop_at}
use borrow.Author.Tests.{eq-eqb, ne_eqb}
use Rattle.object.specs.Each.{Each}
use Rattle.object.proofs.Each.{each_get_or, each_take}
use Rattle.object.proofs.Choice.{by_equal}
use Rattle.cells.specs.Text.{numbered}
use Rattle.cells.specs.Cells.{Row}
use Rattle.cells.proofs.Numbered.{numbered_append}
use Rattle.page.specs.Pages.{row_length, most_records, page_row, head_row, pages_text}
use Rattle.page.proofs.Printing.{heading, headed, pages_some}
use Rattle.page.proofs.Width.{Wide, head_wide}

-- a heading stands in front of each 58
heading_long : (order : ℕ) → length (heading order) + row_length * ((order + 57) / 58) ≡ row_length * (order / 58 + 1)
heading_long order =
    by_equal (order % 58) 0
    (λ e. rw (eq-eqb (order % 58) 0 e) (omega (arith, head_wide)))
    (λ e. rw (ne_eqb (order % 58) 0 e) (omega arith))

headed_long : (order : ℕ) (rows : List Row) → Each Wide rows
    → length (numbered headed order rows) + row_length * ((order + 57) / 58) ≡ row_length * (length rows + (order + length rows + 57) / 58)
unfolding numbered
headed_long order [] e = omega arith
headed_long order (row ∷ rows) e =
    omega (
      arith,
      e.0,
      heading_long order,
      length-append (headed order row) (numbered headed (suc order) rows),
      length-append (heading order) (page_row row),
      headed_long (suc order) rows e.1,
    )

module _ (rows : List Row) (wide : Each Wide rows) (i : ℕ) (d : Row) (b : i < length rows) where
  abbrev before : List ℕ
  before = numbered headed 0 (take i rows)

  abbrev behind : List ℕ
  behind = numbered headed (suc i) (drop (suc i) rows)

  before_long : length before ≡ row_length * (i + (i + 57) / 58)
  before_long = omega (arith, headed_long 0 (take i rows) (each_take Wide i rows wide), length-take-le i rows (omega arith))

  some_rows : (rows : List Row) → i < length rows → pages_text rows ≡ numbered headed 0 rows
  some_rows [] b = absurd (omega arith)
  some_rows (row ∷ rows) b = pages_some row rows

  split : pages_text rows ≡ before ++ (heading i ++ (page_row (get_or rows i d) ++ behind))
  unfolding numbered
  split =
      some_rows rows b
      ∙ ap (numbered headed 0) (split_at rows i d b)
      ∙ numbered_append headed 0 (take i rows) (get_or rows i d ∷ drop (suc i) rows)
      ∙ rw (length-take-le i rows (omega arith), zero-add, append_assoc)

  -- row i
  this_wide : Wide (get_or rows i d)
  this_wide = each_get_or Wide rows i d wide b

  pub row_in_place : take row_length (drop (row_length * (i + i / most_records + 1)) (pages_text rows)) ≡ page_row (get_or rows i d)
  row_in_place =
      let long : length (before ++ heading i) ≡ row_length * (i + i / 58 + 1) = omega (arith, length-append before (heading i), before_long, heading_long i) in
      let row = page_row (get_or rows i d) in
      rw (split, ← append_assoc before (heading i) (row ++ behind), drop_at (before ++ heading i) (row ++ behind) (row_length * (i + i / 58 + 1)) long)
      (take_at row behind row_length this_wide)

  -- the head row in front of it
  pub head_in_place : i % most_records ≡ 0 → take row_length (drop (row_length * (i + i / most_records)) (pages_text rows)) ≡ head_row
  head_in_place e =
      let there : heading i ≡ head_row = rw (eq-eqb (i % 58) 0 e) in
      let rest = page_row (get_or rows i d) ++ behind in
      rw (split, drop_at before (heading i ++ rest) (row_length * (i + i / 58)) (omega (arith, before_long)), there)
      (take_at head_row rest row_length head_wide)
