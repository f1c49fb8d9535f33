-- What the page service promises: its answer and every byte of the lent buffer, and that the table tells its fields.
use Rattle.std.specs.Prelude.{ℕ, ◌+◌, ◌*◌, ◌≤◌, ◌<◌, ◌≡◌, true, cond, List, length, get_or, drop}
use Rattle.bench_file.specs.Layout.{Fields, Judgement, accepted, refused_by, judge_of}
use Rattle.machine.specs.Sizes.{most_calls}
use Rattle.machine.specs.declared.Event.TheVariants.{Swaps}
use Rattle.history.specs.Entries.{how_many}
use Rattle.history.specs.Terms.{swap_at, records_of}
use Rattle.claims.specs.Entries.{history_of, clear_of}
use Rattle.cells.specs.Cells.{Row}
use Rattle.cells.specs.Shown.{shown_row}
use Rattle.cells.specs.Promise.{Printed, refused_as, printed_as, buffer_after}
use Rattle.page.specs.Pages.{row_length, pages_text, rows_in}
use Rattle.page.specs.Table.{Table}

-- the rows of a file's run: one for each record
abbrev pub page_rows : Fields → List Row
page_rows f = rows_in (records_of (history_of f))

-- the answer with so many bytes lent: the file's own refusal; else 14 if an entry of its run meets null; else 13, or the length of its pages
abbrev pub page_answer : ℕ → Judgement → Printed
page_answer size (accepted f) = cond (clear_of f) (printed_as size (pages_text (page_rows f))) (refused_as 14)
page_answer size (refused_by number) = refused_as number

-- the buffer after it: a refusal leaves it as it was
abbrev pub page_buffer : List ℕ → Judgement → List ℕ
page_buffer old (accepted f) = cond (clear_of f) (buffer_after (pages_text (page_rows f)) old) old
page_buffer old (refused_by number) = old

-- so many bytes hold every file's pages: a row for each of 256 records, and five head rows
abbrev pub enough_for_pages : ℕ
enough_for_pages = row_length * (most_calls + 5)

-- the pages of a file
pub record Prints (bytes old new : List ℕ) (r : Printed) : Type 0 where
  pub answer : r ≡ page_answer (length old) (judge_of bytes)
  pub buffer : new ≡ page_buffer old (judge_of bytes)
  -- 0 says that the file is accepted, and that its run meets no null
  pub zero : r.refusal ≡ 0 → (f : Fields) × (judge_of bytes ≡ accepted f) × (clear_of f ≡ true)
  -- then there is a row for each Swap, and row i shows the call of Swap i, from the entries of its run alone
  pub many : (f : Fields) → judge_of bytes ≡ accepted f → clear_of f ≡ true → length (page_rows f) ≡ how_many Swaps (history_of f)
  pub shows : (f : Fields) → judge_of bytes ≡ accepted f → clear_of f ≡ true → (i : ℕ) (d : Row) → i < how_many Swaps (history_of f)
      → get_or (page_rows f) i d ≡ shown_row i (history_of f) (swap_at (history_of f) i)
  -- and the table is one that can be relied on
  pub table : (f : Fields) → judge_of bytes ≡ accepted f → clear_of f ≡ true → Table (page_rows f)
  -- so many bytes are never too few for it
  pub enough : (f : Fields) → judge_of bytes ≡ accepted f → clear_of f ≡ true → enough_for_pages ≤ length old → r.refusal ≡ 0
  -- the length is within the buffer, and every byte behind it is as it was; a refusal has length 0
  pub inside : r.length ≤ length old
  pub untouched : drop r.length new ≡ drop r.length old
