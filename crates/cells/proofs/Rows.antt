-- Laws of rows: the columns by their places, a row as its columns one behind the other, a row of width 0, and how long a line is. Assumes nothing.
use Prim.Native.Nat.{ℕ, zero, suc, ◌+◌, ◌-◌, ◌<◌}
use native.Mathlib.Nat.{zero-sub}
use native.Mathlib.Omega.{arith}
use mathlib.Core.Path.{◌≡◌, refl, ap, ap₂, ◌∙◌}
use mathlib.Core.List.{List, [], ◌∷◌, ◌++◌, map, zip_with, append-nil, append_assoc}
use lib.ListN.{length, get_or, replicate, length-append}
use Rattle.std.specs.List.{enumerate_from, zip}
use Rattle.std.specs.Slice.Iter.{iter_rest}
use Rattle.std.specs.Iterator.Adapters.{zip_first, zip_second, enumerate_source, enumerate_count, enumerate_steps}
use Rattle.std.specs.declared.iter.Enumerate.{Enumerate}
use Rattle.std.specs.declared.iter.Zip.{Zip}
use Rattle.std.proofs.Common.{Iter}
use Rattle.std.proofs.iter.Yields.{fronts}
use Rattle.std.proofs.lemmas.Iterator.{YieldsList, zips, YieldsList-from_slice, YieldsList-from_zip}
use Rattle.std.proofs.lemmas.Iterator.Consumers.{YieldsList-from_enumerate}
use Rattle.cells.specs.declared.Word.{Word}
use Rattle.cells.specs.declared.Cell.{Cell}
use Rattle.cells.specs.declared.Cell.TheVariants.{Number, Says}
use Rattle.cells.specs.Text.{text, decimal, spaces, line_end, text_line, numbered}
use Rattle.cells.specs.Cells.{word_text, cell_text}
use Rattle.cells.specs.Rows.{in_column, columns, row_text, gap}

-- a cell between the spaces that it lacks: in front of a number, behind a word
module _ (width : ℕ) (cell : Cell) where
  abbrev pub between : ℕ × ℕ → List ℕ
  between sides = spaces sides.0 ++ (cell_text cell ++ spaces sides.1)

  abbrev lack : ℕ
  lack = width - length (cell_text cell)

  pub number_right : {n : ℕ} → cell ≡ Number n → between (lack, 0) ≡ in_column width cell
  number_right e = rw (e, append-nil)

  pub word_left : {word : Word} → cell ≡ Says word → between (0, lack) ≡ in_column width cell
  word_left e = rw e

-- the loop over widths and cells takes them in pairs, with their numbers
pub pairs : (widths : List ℕ) (cells : List Cell) (s : Enumerate (Zip (Iter ℕ) (Iter Cell))) → iter_rest (zip_first (enumerate_source s)) ≡ widths → iter_rest (zip_second (enumerate_source s)) ≡ cells → enumerate_count s ≡ 0
    → YieldsList (enumerate_steps (zips fronts fronts)) (λ x. (x.0, (x.1.0.now, x.1.1.now))) s (enumerate_from 0 (zip widths cells))
pairs widths cells s first second none = YieldsList-from_enumerate (YieldsList-from_zip (YieldsList-from_slice widths first) (YieldsList-from_slice cells second)) none

-- what it takes at a turn is the column of its place
pub record Turn (widths : List ℕ) (cells : List Cell) (first k : ℕ) (x : ℕ × (ℕ × Cell)) : Type 0 where
  pub there : k < length (columns widths cells)
  pub place : x.0 ≡ first + k
  pub column : in_column x.1.0 x.1.1 ≡ get_or (columns widths cells) k []

pub turn : (widths : List ℕ) (cells : List Cell) (first k : ℕ) (x : ℕ × (ℕ × Cell))
    → (k < length (enumerate_from first (zip widths cells))) × (x ≡ get_or (enumerate_from first (zip widths cells)) k x) → Turn widths cells first k x
unfolding zip_with
turn [] cells first k x h = absurd (omega (arith, h.0))
turn (width ∷ widths) [] first k x h = absurd (omega (arith, h.0))
turn (width ∷ widths) (cell ∷ cells) first zero x h =
    record { there = omega arith; place = omega (arith, ap (λ (p : ℕ × (ℕ × Cell)). p.0) h.1); column = ap (λ (p : ℕ × (ℕ × Cell)). in_column p.1.0 p.1.1) h.1 }
turn (width ∷ widths) (cell ∷ cells) first (suc k) x h =
    let t = turn widths cells (first + 1) k x (omega (arith, h.0), h.1) in
    record { there = omega (arith, t.there); place = omega (arith, t.place); column = t.column }

pub turns : (widths : List ℕ) (cells : List Cell) (first : ℕ) → length (enumerate_from first (zip widths cells)) ≡ length (columns widths cells)
unfolding zip_with
turns [] cells first = refl
turns (width ∷ widths) [] first = refl
turns (width ∷ widths) (cell ∷ cells) first = ap suc (turns widths cells (first + 1))

-- a word behind its gap
abbrev pub spaced : ℕ → List ℕ → List ℕ
spaced i word = gap i ++ word

behind_word : (i : ℕ) (word rest : List ℕ) (words : List (List ℕ)) → numbered spaced i words ++ text "\n" ≡ rest → (word ++ numbered spaced i words) ++ text "\n" ≡ word ++ rest
behind_word i word rest words e = append_assoc word (numbered spaced i words) (text "\n") ∙ ap (λ (l : List ℕ). word ++ l) e

line_end_lem : (i : ℕ) (words : List (List ℕ)) → numbered spaced (suc i) words ++ text "\n" ≡ line_end words
unfolding numbered
line_end_lem i [] = refl
line_end_lem i (word ∷ words) = behind_word (suc (suc i)) (text " " ++ word) (line_end words) words (line_end_lem (suc i) words)

pub line_spaced : (words : List (List ℕ)) → numbered spaced 0 words ++ text "\n" ≡ text_line words
unfolding numbered
line_spaced [] = refl
line_spaced (word ∷ words) = behind_word 1 word (line_end words) words (line_end_lem 0 words)

-- a row whose columns have no width of their own is the line of its cells
bare : (cell : Cell) → in_column 0 cell ≡ cell_text cell
bare (Number n) = ap (λ (count : ℕ). spaces count ++ decimal n) (zero-sub (length (decimal n)))
bare (Says word) = ap (λ (count : ℕ). word_text word ++ spaces count) (zero-sub (length (word_text word))) ∙ append-nil (word_text word)

columns_bare : (cells : List Cell) → columns (replicate (length cells) 0) cells ≡ map cell_text cells
unfolding zip_with
columns_bare [] = refl
columns_bare (cell ∷ cells) = ap₂ ◌∷◌ (bare cell) (columns_bare cells)

pub row_bare : (cells : List Cell) → row_text (replicate (length cells) 0) cells ≡ text_line (map cell_text cells)
unfolding row_text
row_bare cells = ap text_line (columns_bare cells)

-- how much a line takes: each word with what stands behind it
unfoldable pub taken : List (List ℕ) → ℕ
taken [] = 0
taken (word ∷ words) = length word + 1 + taken words

line_end_length : (words : List (List ℕ)) → length (line_end words) ≡ taken words + 1
unfolding taken
line_end_length [] = refl
line_end_length (word ∷ words) = omega (arith, length-append word (line_end words), line_end_length words)

pub line_length : (word : List ℕ) (words : List (List ℕ)) → length (text_line (word ∷ words)) ≡ taken (word ∷ words)
unfolding taken
line_length word words = omega (arith, length-append word (line_end words), line_end_length words)
