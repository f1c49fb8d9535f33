-- The table of a file's run: each row shows a call whose fields fit their columns. Assumes fields in range, and a run that meets no null.
use Prim.Native.Nat.{ℕ, zero, suc, ◌+◌, ◌^◌, ◌≤◌, ◌<◌}
use native.Mathlib.Nat.{zero-add, add-zero}
use native.Mathlib.Omega.{arith}
use mathlib.Core.Path.{◌≡◌, refl, ap, ap₂, ◌∙◌}
use mathlib.Core.Bool.{true}
use mathlib.Core.List.{List, [], ◌∷◌, map}
use lib.ListN.{length, get_or}
use borrow.Author.Tests.{eq-eqb, ne_eqb}
use Rattle.std.specs.Prelude.{Option, Some, None}
use Rattle.object.specs.declared.Answer.{Answer}
use Rattle.object.specs.Each.{Each}
use Rattle.object.proofs.Each.{each_get_or, each_map}
use Rattle.object.proofs.Choice.{by_equal, by_order}
use Rattle.bench_file.specs.Layout.{Fields}
use Rattle.bench_file.specs.Bytes.{InRange}
use Rattle.machine.specs.declared.Event.TheVariants.{Swaps, Applies}
use Rattle.history.specs.Entries.{Entry, how_many}
use Rattle.history.specs.Terms.{Call, no_call, call_of, swap_order, swap_at, servings, shown_of, no_thread, no_turn, cost_of, returned, ret_value, record_of}
use Rattle.history.proofs.Sums.{one_each}
use Rattle.claims.specs.Entries.{history_of, clear_of}
use Rattle.claims.specs.Claims.{Claimed}
use Rattle.dsm_claims.proofs.Either.{claim_whole, all_swaps_few}
use Rattle.bench.proofs.Service.{Placed, placed}
use Rattle.cells.specs.declared.Cell.{Cell}
use Rattle.cells.specs.declared.Cell.TheVariants.{Number}
use Rattle.cells.specs.Cells.{cell_text, value_cell, or_hyphen, state_word, Row, row_in}
use Rattle.cells.specs.Shown.{shown_row}
use Rattle.cells.proofs.Decimal.{at_most, no_longer}
use Rattle.cells.proofs.Shown.{row_shown}
use Rattle.cells.proofs.Words.{word_length, mark_length}
use Rattle.page.specs.Pages.{pages_text, indexed}
use Rattle.page.specs.Table.{In32Bits, Fits, Table}
use Rattle.page.specs.Promise.{page_rows, enough_for_pages}
use Rattle.page.proofs.Paging.{paged, paged_only, five_pages}
use Rattle.page.proofs.Places.{row_in_place, head_in_place}
use Rattle.page.proofs.Telling.{rows_apart, head_apart}
use Rattle.page.proofs.Width.{row_in_pitch, head_in_pitch, pages_long}

-- a cell that fits a column
abbrev FitsIn : ℕ → Cell → Type 0
FitsIn width cell = (length (cell_text cell) ≤ width) × In32Bits cell

number_fits : (width n : ℕ) → n < 10 ^ suc width → n < 2 ^ 32 → FitsIn (suc width) (Number n)
number_fits width n small b = (no_longer 9 width n small, b)

-- a number or none
or_hyphen_fits : (width none n : ℕ) → ((n ≡ none → ⊥) → (n < 10 ^ suc width) × (n < 2 ^ 32)) → FitsIn (suc width) (or_hyphen none n)
or_hyphen_fits width none n b =
    by_equal n none
    (λ e. rw (eq-eqb n none e) (omega arith, tt))
    (λ e. let small = b e in rw (ne_eqb n none e) (number_fits width n small.0 small.1))

value_fits : (ret : Option Answer) → ret_value ret < 2 ^ 32 → FitsIn 10 (value_cell ret)
value_fits None b = (omega arith, tt)
value_fits (Some (Answer.Done count)) b = (at_most 9 count, b)
value_fits (Some (Answer.Value v)) b = (at_most 9 v, b)
value_fits (Some Answer.Empty) b = (omega arith, tt)
value_fits (Some Answer.Full) b = (omega arith, tt)

infixr 20 ◌and◌
◌and◌ : {A B C : Type 0} → A × B → C → A × B × C
p and q = (p.0, p.1, q)

-- what holds of each with its number
each_indexed : {A B : Type 0} (P : B → Type 0) (g : ℕ → A → B) (order : ℕ) (l : List A) (d : A) → ((i : ℕ) → i < length l → P (g (order + i) (get_or l i d))) → Each P (indexed g order l)
unfolding indexed
each_indexed P g order [] d p = tt
each_indexed P g order (a ∷ l) d p =
    (rw add-zero at (p 0 (omega arith)), each_indexed P g (suc order) l d (λ i b. let e : suc order + i ≡ order + suc i = omega arith in rw e (p (suc i) (omega arith))))

indexed_mapped : {A B C : Type 0} (g : ℕ → B → C) (h : ℕ → A → C) (of : A → B) (order : ℕ) (l : List A) → ((order : ℕ) (a : A) → g order (of a) ≡ h order a) → indexed g order (map of l) ≡ indexed h order l
unfolding indexed
indexed_mapped g h of order [] e = refl
indexed_mapped g h of order (a ∷ l) e = ap₂ ◌∷◌ (e order a) (indexed_mapped g h of (suc order) l e)

indexed_at : {A B : Type 0} (g : ℕ → A → B) (order : ℕ) (l : List A) (i : ℕ) (d : B) (a : A) → i < length l → get_or (indexed g order l) i d ≡ g (order + i) (get_or l i a)
unfolding indexed
indexed_at g order [] i d a b = absurd (omega arith)
indexed_at g order (x ∷ l) zero d a b = rw add-zero
indexed_at g order (x ∷ l) (suc i) d a b = let e : suc order + i ≡ order + suc i = omega arith in rw (← e) (indexed_at g (suc order) l i d a (omega arith))

indexed_length : {A B : Type 0} (g : ℕ → A → B) (order : ℕ) (l : List A) → length (indexed g order l) ≡ length l
unfolding indexed
indexed_length g order [] = refl
indexed_length g order (a ∷ l) = ap suc (indexed_length g (suc order) l)

module _ (f : Fields) (fits : InRange f) (clear : clear_of f ≡ true) where
  abbrev history : List Entry
  history = history_of f

  claim : Claimed f history
  claim = claim_whole f.head.method f fits clear

  few_swaps : how_many Swaps history ≤ 256
  few_swaps = all_swaps_few f.head.method f fits clear

  -- the rows show the calls
  rows_show : page_rows f ≡ indexed (λ (order : ℕ) (c : Call). shown_row order history c) 0 (swap_order history)
  rows_show = indexed_mapped row_in (λ (order : ℕ) (c : Call). shown_row order history c) (record_of history) 0 (swap_order history) (λ order c. row_shown order history c claim)

  swapped : length (swap_order history) ≡ how_many Swaps history
  swapped = one_each Swaps call_of history

  -- each fits its columns
  server_fits : (i : ℕ) → i < how_many Swaps history → FitsIn 2 (or_hyphen no_thread.0 (shown_of (swap_at history i) (servings history)).server.0)
  server_fits i b =
      by_order i (how_many Applies history)
      (λ served. or_hyphen_fits 1 no_thread.0 (shown_of (swap_at history i) (servings history)).server.0 (λ none. omega (arith, claim.served_by i served, fits.head.n)))
      (λ unserved. rw (claim.unserved i unserved b) (omega arith, tt))

  row_fits : (i : ℕ) → i < length (swap_order history) → Fits (shown_row i history (swap_at history i))
  row_fits i b =
      let c = swap_at history i in
      let w = shown_of c (servings history) in
      let there = each_get_or (Placed f fits clear) (swap_order history) i no_call (placed f fits clear) b in
      let few : i < 256 = omega (arith, swapped, few_swaps) in
      number_fits 2 i (omega arith) (omega arith)
      and number_fits 1 c.thread.0 (omega (arith, there.0)) (omega (arith, there.0))
      and number_fits 1 c.request (omega (arith, there.1)) (omega (arith, there.1))
      and (mark_length w.ret, tt)
      and value_fits w.ret (claim.value_fits c)
      and server_fits i (omega (arith, swapped))
      and or_hyphen_fits 4 no_turn w.turn (λ none. omega (arith, claim.turn_fits c))
      and (at_most 9 (cost_of c history), claim.cost_fits c)
      and (word_length (state_word (returned c history)), tt)
      and tt

  all_fit : Each Fits (page_rows f)
  all_fit = rw rows_show (each_indexed Fits (λ (order : ℕ) (c : Call). shown_row order history c) 0 (swap_order history) no_call (λ i b. rw zero-add (row_fits i b)))

  pub many_rows : length (page_rows f) ≡ how_many Swaps history
  many_rows = ap length rows_show ∙ indexed_length _ 0 (swap_order history) ∙ swapped

  pub row_shows : (i : ℕ) (d : Row) → i < how_many Swaps history → get_or (page_rows f) i d ≡ shown_row i history (swap_at history i)
  row_shows i d b =
      ap (λ (l : List Row). get_or l i d) rows_show ∙ indexed_at (λ (order : ℕ) (c : Call). shown_row order history c) 0 (swap_order history) i d no_call (omega (arith, swapped)) ∙ rw zero-add

  pub table : Table (page_rows f)
  table =
      let wide = each_map (λ row fits. (row_in_pitch row fits).wide) (page_rows f) all_fit in
      record {
        fits = all_fit;
        in_pitch = each_map row_in_pitch (page_rows f) all_fit;
        head_in_pitch = head_in_pitch;
        apart = rows_apart;
        head_apart = head_apart;
        paged = paged (page_rows f);
        only = paged_only (page_rows f);
        long = pages_long (page_rows f) wide;
        in_place = row_in_place (page_rows f) wide;
        head_in_place = λ i. head_in_place (page_rows f) wide i (row_in 0 []);
      }

  -- so many bytes are enough
  pub room : length (pages_text (page_rows f)) ≤ enough_for_pages
  room =
      let few : length (page_rows f) ≤ 256 = omega (arith, many_rows, few_swaps) in
      omega (arith, table.long, five_pages (page_rows f) few)
