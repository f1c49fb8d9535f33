-- A row tells its fields: a column gives its cell back, a cell its number or word, a row of cells the fields. Assumes that each cell fits its column.
use Prim.Native.Nat.{ℕ, zero, suc, ◌-◌, ◌^◌, ◌≤◌, ◌<◌}
use native.Mathlib.Omega.{arith}
use mathlib.Core.Path.{◌≡◌, refl, sym, ap, ap₂, ◌∙◌}
use mathlib.Core.Bool.{Bool, true, false, cond, ◌&&◌}
use mathlib.Core.List.{List, [], ◌∷◌, ◌++◌, zip_with, append-nil}
use lib.ListN.{length, get_or, take, drop, length-append, length-replicate}
use lib.Seq.{take_at, drop_at}
use lib.Dec.{eqb, leb, ltb}
use borrow.Author.Tests.{eq-eqb, ne_eqb, le-leb}
use Rattle.std.specs.Prelude.{Option, Some, None}
use Rattle.object.specs.declared.Answer.{Answer}
use Rattle.object.specs.Each.{Each, every}
use Rattle.object.proofs.Each.{each_get_or}
use Rattle.object.proofs.Choice.{by_equal}
use Rattle.history.specs.Terms.{no_thread, no_turn}
use Rattle.cells.specs.declared.Word.{Word}
use Rattle.cells.specs.declared.Word.TheVariants.{Queue, Stack, Counter, Done, Value, Empty, Full, NoAnswer, Hyphen, Returned, Open, Cc, Dsm}
use Rattle.cells.specs.declared.Cell.{Cell}
use Rattle.cells.specs.declared.Cell.TheVariants.{Number, Says}
use Rattle.cells.specs.Text.{text, spaces, decimal, line_end}
use Rattle.cells.specs.Cells.{word_text, cell_text, ret_of, mark_word, value_cell, or_hyphen, state_word, Row, row_cells}
use Rattle.cells.specs.Rows.{in_column, columns, row_text}
use Rattle.cells.proofs.Decimal.{IsDigit, decimal_digits, decimal_length, read_back, said}
use Rattle.page.specs.Pages.{widths, page_row, head_row}
use Rattle.page.specs.Table.{In32Bits, CellsFit, Fits, Apart}

-- a text without its spaces
abbrev pub unspaced : List ℕ → List ℕ
unspaced [] = []
unspaced (c ∷ l) = cond (eqb c 32) (unspaced l) (c ∷ unspaced l)

unspaced_append : (a b : List ℕ) → unspaced (a ++ b) ≡ unspaced a ++ unspaced b
unspaced_append [] b = refl
unspaced_append (c ∷ a) b = by_equal c 32 (λ e. rw (eq-eqb c 32 e, unspaced_append a b)) (λ e. rw (ne_eqb c 32 e, unspaced_append a b))

unspaced_spaces : (count : ℕ) → unspaced (spaces count) ≡ []
unspaced_spaces zero = refl
unspaced_spaces (suc count) = unspaced_spaces count

digits_unspaced : (l : List ℕ) → Each IsDigit l → unspaced l ≡ l
digits_unspaced [] p = refl
digits_unspaced (c ∷ l) p = rw (ne_eqb c 32 (λ e. omega (arith, p.0)), digits_unspaced l p.1)

-- a byte that is one column
abbrev pub is_visible : ℕ → Bool
is_visible c = leb 32 c && ltb c 127

-- what a text tells: a digit in front that it is a number, else its first byte and its length which word it is
abbrev pub is_digit : ℕ → Bool
is_digit c = leb 48 c && leb c 57

abbrev pub word_of : List ℕ → List Word → Word
word_of l [] = Hyphen
word_of l (word ∷ words) = cond (eqb (get_or l 0 0) (get_or (word_text word) 0 0) && eqb (length l) (length (word_text word))) word (word_of l words)

abbrev pub words : List Word
words = Queue ∷ Stack ∷ Counter ∷ Done ∷ Value ∷ Empty ∷ Full ∷ NoAnswer ∷ Hyphen ∷ Returned ∷ Open ∷ Cc ∷ Dsm ∷ []

abbrev pub cell_of : List ℕ → Cell
cell_of l = cond (is_digit (get_or l 0 0)) (Number (said 0 l)) (Says (word_of l words))

-- a word has no spaces, can be seen, and is told
pub record WordTold (word : Word) : Type 0 where
  pub visible : every is_visible (word_text word) ≡ true
  pub no_spaces : unspaced (word_text word) ≡ word_text word
  pub back : cell_of (word_text word) ≡ Says word

pub word_told : (word : Word) → WordTold word
word_told Queue = record { visible = refl; no_spaces = refl; back = refl }
word_told Stack = record { visible = refl; no_spaces = refl; back = refl }
word_told Counter = record { visible = refl; no_spaces = refl; back = refl }
word_told Done = record { visible = refl; no_spaces = refl; back = refl }
word_told Value = record { visible = refl; no_spaces = refl; back = refl }
word_told Empty = record { visible = refl; no_spaces = refl; back = refl }
word_told Full = record { visible = refl; no_spaces = refl; back = refl }
word_told NoAnswer = record { visible = refl; no_spaces = refl; back = refl }
word_told Hyphen = record { visible = refl; no_spaces = refl; back = refl }
word_told Returned = record { visible = refl; no_spaces = refl; back = refl }
word_told Open = record { visible = refl; no_spaces = refl; back = refl }
word_told Cc = record { visible = refl; no_spaces = refl; back = refl }
word_told Dsm = record { visible = refl; no_spaces = refl; back = refl }

-- a cell is read back from its text
small : (n : ℕ) → n < 2 ^ 32 → n < 10 ^ 10
small n b = omega arith

cell_back : (cell : Cell) → In32Bits cell → cell_of (cell_text cell) ≡ cell
cell_back (Number n) b =
    let h = small n b in
    let first = each_get_or IsDigit (decimal n) 0 0 (decimal_digits n h) (decimal_length n h).0 in
    rw (le-leb 48 (get_or (decimal n) 0 0) first.0, le-leb (get_or (decimal n) 0 0) 57 first.1) (ap Number (read_back n h))
cell_back (Says word) b = (word_told word).back

-- and its text from its column, which is as wide as it should be
column_back : (width : ℕ) (cell : Cell) → In32Bits cell → cell_of (unspaced (in_column width cell)) ≡ cell
column_back width (Number n) b =
    ap cell_of (unspaced_append (spaces (width - length (decimal n))) (decimal n) ∙ ap₂ ◌++◌ (unspaced_spaces (width - length (decimal n))) (digits_unspaced (decimal n) (decimal_digits n (small n b))))
    ∙ cell_back (Number n) b
column_back width (Says word) b =
    ap cell_of (unspaced_append (word_text word) (spaces (width - length (word_text word))) ∙ ap₂ ◌++◌ (word_told word).no_spaces (unspaced_spaces (width - length (word_text word))) ∙ append-nil (word_text word))
    ∙ cell_back (Says word) b

pub column_wide : (width : ℕ) (cell : Cell) → length (cell_text cell) ≤ width → length (in_column width cell) ≡ width
column_wide width (Number n) b = rw (length-append, length-replicate) (omega arith)
column_wide width (Says word) b = rw (length-append, length-replicate) (omega arith)

-- the cells of a line of columns, the first and those behind it
abbrev line : ℕ → List ℕ → Cell → List Cell → List ℕ
line width widths cell cells = in_column width cell ++ line_end (columns widths cells)

-- lines that are alike have the same first cell and go on alike
module _ (width : ℕ) (widths : List ℕ) (a b : Cell) (rest rest' : List Cell) (f : CellsFit (width ∷ widths) (a ∷ rest)) (g : CellsFit (width ∷ widths) (b ∷ rest')) (alike : line width widths a rest ≡ line width widths b rest') where
  columns_same : in_column width a ≡ in_column width b
  columns_same = sym (take_at (in_column width a) _ width (column_wide width a f.0)) ∙ ap (take width) alike ∙ take_at (in_column width b) _ width (column_wide width b g.0)

  rest_same : line_end (columns widths rest) ≡ line_end (columns widths rest')
  rest_same = sym (drop_at (in_column width a) _ width (column_wide width a f.0)) ∙ ap (drop width) alike ∙ drop_at (in_column width b) _ width (column_wide width b g.0)

  first_same : a ≡ b
  first_same = sym (column_back width a f.1) ∙ ap (λ (l : List ℕ). cell_of (unspaced l)) columns_same ∙ column_back width b g.1

cells_apart : (width : ℕ) (widths : List ℕ) (a b : Cell) (rest rest' : List Cell) → CellsFit (width ∷ widths) (a ∷ rest) → CellsFit (width ∷ widths) (b ∷ rest')
    → line width widths a rest ≡ line width widths b rest' → a ∷ take (length widths) rest ≡ b ∷ take (length widths) rest'
unfolding zip_with
cells_apart width [] a b rest rest' f g e = ap (λ (c : Cell). c ∷ []) (first_same width [] a b rest rest' f g e)
cells_apart width (next ∷ widths) a b [] rest' f g e = absurd f.2
cells_apart width (next ∷ widths) a b (a' ∷ rest) [] f g e = absurd g.2
cells_apart width (next ∷ widths) a b (a' ∷ rest) (b' ∷ rest') f g e =
    ap₂ ◌∷◌ (first_same width (next ∷ widths) a b (a' ∷ rest) (b' ∷ rest') f g e)
    (cells_apart next widths a' b' rest rest' f.2 g.2 (ap (drop 1) (rest_same width (next ∷ widths) a b (a' ∷ rest) (b' ∷ rest') f g e)))

row_apart : (widths : List ℕ) (cells cells' : List Cell) → CellsFit widths cells → CellsFit widths cells' → row_text widths cells ≡ row_text widths cells'
    → take (length widths) cells ≡ take (length widths) cells'
unfolding row_text zip_with
row_apart [] cells cells' f g e = refl
row_apart (width ∷ widths) [] cells' f g e = absurd f
row_apart (width ∷ widths) (a ∷ cells) [] f g e = absurd g
row_apart (width ∷ widths) (a ∷ cells) (b ∷ cells') f g e = cells_apart width widths a b cells cells' f g e

-- the fields that cells tell
abbrev number_in : ℕ → Cell → ℕ
number_in none (Number n) = n
number_in none (Says word) = none

abbrev word_in : Cell → Word
word_in (Number n) = Hyphen
word_in (Says word) = word

-- a number for each word, by which it is told
abbrev pub word_number : Word → ℕ
word_number Queue = 0
word_number Stack = 1
word_number Counter = 2
word_number Done = 3
word_number Value = 4
word_number Empty = 5
word_number Full = 6
word_number NoAnswer = 7
word_number Hyphen = 8
word_number Returned = 9
word_number Open = 10
word_number Cc = 11
word_number Dsm = 12

-- the words done, value, empty and full have the numbers 3 to 6, and marks 0 to 3
abbrev ret_in : Word → Cell → Option Answer
ret_in word cell = ret_of (word_number word - 3) (number_in 0 cell)

ret_told_lem : (ret : Option Answer) → ret_in (mark_word ret) (value_cell ret) ≡ ret
ret_told_lem None = refl
ret_told_lem (Some (Answer.Done count)) = refl
ret_told_lem (Some (Answer.Value v)) = refl
ret_told_lem (Some Answer.Empty) = refl
ret_told_lem (Some Answer.Full) = refl

number_told : (none n : ℕ) → number_in none (or_hyphen none n) ≡ n
number_told none n = by_equal n none (λ e. rw (eq-eqb n none e, e)) (λ e. rw (ne_eqb n none e))

state_told : (returned : Bool) → eqb (word_number (state_word returned)) (word_number Returned) ≡ returned
state_told true = refl
state_told false = refl

abbrev row_told : List Cell → Row
row_told cells =
    record {
      order = number_in 0 (get_or cells 0 (Number 0));
      thread = number_in 0 (get_or cells 1 (Number 0));
      request = number_in 0 (get_or cells 2 (Number 0));
      ret = ret_in (word_in (get_or cells 3 (Number 0))) (get_or cells 4 (Number 0));
      server = number_in no_thread.0 (get_or cells 5 (Number 0));
      turn = number_in no_turn (get_or cells 6 (Number 0));
      remote = number_in 0 (get_or cells 7 (Number 0));
      returned = eqb (word_number (word_in (get_or cells 8 (Number 0)))) (word_number Returned);
    }

row_told_lem : (row : Row) → row_told (row_cells row) ≡ row
row_told_lem row = rw (ret_told_lem row.ret, number_told no_thread.0 row.server, number_told no_turn row.turn, state_told row.returned)

-- no two different rows of fields print alike, and none as the head row
pub rows_apart : Apart
unfolding page_row
rows_apart a b f g e =
    sym (row_told_lem a)
    ∙ ap row_told (row_apart widths (row_cells a) (row_cells b) f g e)
    ∙ row_told_lem b

number_no_word : (n : ℕ) (word : Word) → Number n ≡ Says word → ⊥
number_no_word n word e = let z : ◌≡◌ {A = ℕ} 0 1 = cc in omega arith

pub head_apart : (row : Row) → Fits row → page_row row ≡ head_row → ⊥
unfolding page_row row_text head_row zip_with
head_apart row f e =
    let order = Number row.order in
    let column : in_column 3 order ≡ text "no " = sym (take_at (in_column 3 order) _ 3 (column_wide 3 order f.0)) ∙ ap (take 3) e in
    number_no_word row.order Hyphen (sym (column_back 3 order f.1) ∙ ap (λ (l : List ℕ). cell_of (unspaced l)) column)
