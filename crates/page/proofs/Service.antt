-- What `run` leaves gives what the page service promises. Assumes its promise, and what judging the file's bytes promises.
use Prim.Native.Nat.{ℕ, ◌≤◌}
use native.Mathlib.Omega.{arith}
use mathlib.Core.Path.{◌≡◌, refl, sym, ap, ◌∙◌}
use mathlib.Core.Bool.{Bool, true, false, cond}
use mathlib.Core.List.{List}
use lib.ListN.{length, drop}
use borrow.Author.Tests.{le-leb}
use Rattle.bench_file.specs.Layout.{Fields, Judgement, accepted, refused_by, judge_of}
use Rattle.bench_file.specs.Promise.{Judges}
use Rattle.bench_file.specs.Bytes.{InRange}
use Rattle.state.specs.declared.Counts.{Counts}
use Rattle.claims.specs.Entries.{clear_of}
use Rattle.claims.specs.Result.{result_as}
use Rattle.bench.specs.Run.{records_laid}
use Rattle.bench.proofs.Enough.{Ran, by_refusal}
use Rattle.cells.specs.Promise.{Printed, refused_as, printed_as, buffer_after, Gives}
use Rattle.cells.proofs.Giving.{inside, untouched}
use Rattle.page.specs.Pages.{pages_text, rows_in}
use Rattle.page.specs.Promise.{page_rows, page_answer, page_buffer, enough_for_pages, Prints}
use Rattle.page.proofs.Run.{many_rows, row_shows, table, room}

-- the pages of a run that is not refused fit the code's own buffer
pub run_room : {bytes records : List ℕ} {counts : Counts} → Ran bytes records counts
    → length (pages_text (rows_in (records_laid counts.records records))) ≤ enough_for_pages
run_room ran = rw ran.in_buffer (room ran.fields ran.in_range ran.clear)

-- a file is not both
not_both : {f : Fields} {number : ℕ} → accepted f ≡ refused_by number → ⊥
not_both e = let z : ◌≡◌ {A = ℕ} 0 1 = cc in omega arith

-- 0 says that a run meets no null
clear_answer : (clear : Bool) (a : Printed) → (cond clear a (refused_as 14)).refusal ≡ 0 → clear ≡ true
clear_answer true a e = refl
clear_answer false a e = absurd (omega (arith, e))

module _ (bytes old : List ℕ) {judged : _} (judges : Judges bytes judged) where
  in_range : (f : Fields) → judge_of bytes ≡ accepted f → InRange f
  in_range f e = ((judges.exactly f).0 e).0

  accepts : (j : Judgement) → judge_of bytes ≡ j → (page_answer (length old) j).refusal ≡ 0 → (f : Fields) × (judge_of bytes ≡ accepted f) × (clear_of f ≡ true)
  accepts (accepted f) e zero = (f, e, clear_answer (clear_of f) _ zero)
  accepts (refused_by number) e zero = let (f, judged) = judges.zero ((judges.refused number e).0 ∙ zero) in absurd (not_both (sym judged ∙ e))

  -- the length lies within the buffer, and what is behind it is as it was
  abbrev Kept : Printed → List ℕ → Type 0
  Kept a new = (a.length ≤ length old) × (drop a.length new ≡ drop a.length old)

  gives : (f : Fields) → Gives (pages_text (page_rows f)) old (buffer_after (pages_text (page_rows f)) old) (printed_as (length old) (pages_text (page_rows f)))
  gives f = record { answer = refl; buffer = refl }

  kept_if : (f : Fields) (clear : Bool)
      → Kept (cond clear (printed_as (length old) (pages_text (page_rows f))) (refused_as 14)) (cond clear (buffer_after (pages_text (page_rows f)) old) old)
  kept_if f true = (inside (gives f), untouched (gives f))
  kept_if f false = (omega arith, refl)

  keeps : (j : Judgement) → Kept (page_answer (length old) j) (page_buffer old j)
  keeps (accepted f) = kept_if f (clear_of f)
  keeps (refused_by number) = (omega arith, refl)

  enough : (f : Fields) → InRange f → clear_of f ≡ true → enough_for_pages ≤ length old → (page_answer (length old) (accepted f)).refusal ≡ 0
  enough f fits clear lent = rw (clear, le-leb (length (pages_text (page_rows f))) (length old) (omega (arith, room f fits clear)))

  prints : {new : List ℕ} {r : Printed} → r ≡ page_answer (length old) (judge_of bytes) → new ≡ page_buffer old (judge_of bytes) → Prints bytes old new r
  prints {r = r} answer buffer = record {
    answer = answer;
    buffer = buffer;
    zero = λ zero. accepts (judge_of bytes) refl (sym (ap (λ (a : Printed). a.refusal) answer) ∙ zero);
    many = λ f e. many_rows f (in_range f e);
    shows = λ f e. row_shows f (in_range f e);
    table = λ f e. table f (in_range f e);
    enough = λ f e clear lent.
        ap (λ (a : Printed). a.refusal) answer ∙ ap (λ (j : Judgement). (page_answer (length old) j).refusal) e ∙ enough f (in_range f e) clear lent;
    inside = rw answer (keeps (judge_of bytes)).0;
    untouched = rw (answer, buffer) (keeps (judge_of bytes)).1;
  }

  pub prints_run : {new records : List ℕ} {counts : Counts} {r : Printed} → Ran bytes records counts
      → Gives (pages_text (rows_in (records_laid counts.records records))) old new r → Prints bytes old new r
  prints_run ran given =
      let g = rw ran.in_buffer at given in
      prints (g.answer ∙ rw (ran.judged, ran.clear)) (g.buffer ∙ rw (ran.judged, ran.clear))

  pub prints_refusal : {number : ℕ} → number ≡ (result_as (judge_of bytes)).refusal → (number ≡ 0 → ⊥) → Prints bytes old old (refused_as number)
  prints_refusal is some =
      let refused : (result_as (judge_of bytes)).refusal ≡ 0 → ⊥ = λ z. some (is ∙ z) in
      prints
      (ap refused_as is ∙ sym (by_refusal (page_answer (length old)) refused_as (λ number. refl) (λ f met. rw met) (judge_of bytes) refused))
      (sym (by_refusal (page_buffer old) (λ number. old) (λ number. refl) (λ f met. rw met) (judge_of bytes) refused))
