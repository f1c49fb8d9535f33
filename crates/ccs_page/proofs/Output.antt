-- What the page service and the line of a refusal leave is what the program prints. Assumes a buffer that is long enough for every file's pages.
use Prim.Native.Nat.{ℕ, ◌≤◌}
use native.Mathlib.Omega.{arith}
use mathlib.Core.Path.{◌≡◌, refl, ap, ◌∙◌}
use mathlib.Core.List.{List}
use lib.ListN.{length, take}
use Rattle.object.proofs.Choice.{by_test}
use Rattle.bench_file.specs.Layout.{Judgement, accepted, refused_by, judge_of}
use Rattle.claims.specs.Entries.{clear_of}
use Rattle.cells.specs.Promise.{Printed, refused_as, Gives, refusal_line}
use Rattle.cells.proofs.Giving.{not_refused, stands}
use Rattle.cells.proofs.Words.{refusal_length}
use Rattle.page.specs.Pages.{pages_text}
use Rattle.page.specs.Promise.{page_rows, page_answer, enough_for_pages, Prints}
use Rattle.ccs_page.specs.Output.{output_of}

module _ {bytes old new : List ℕ} {r : Printed} (prints : Prints bytes old new r) where
  -- the pages, where nothing is refused
  pub pages_output : r.refusal ≡ 0 → take r.length new ≡ output_of (judge_of bytes)
  pages_output zero =
      let (f, judged, clear) = prints.zero zero in
      let gives : Gives (pages_text (page_rows f)) old new r = record { answer = prints.answer ∙ rw (judged, clear); buffer = prints.buffer ∙ rw (judged, clear) } in
      stands gives zero ∙ rw (judged, clear)

  -- else the file's own number, or 14
  module _ (room : enough_for_pages ≤ length old) (refused : r.refusal ≡ 0 → ⊥) where
    own_number : (j : Judgement) → judge_of bytes ≡ j → refusal_line r.refusal ≡ output_of j
    own_number (accepted f) judged =
        by_test (clear_of f)
        (λ clear. absurd (refused (prints.enough f judged clear room)))
        (λ met. let is : r ≡ refused_as 14 = prints.answer ∙ rw (judged, met) in rw (is, met))
    own_number (refused_by number) judged = ap refusal_line (ap (λ (a : Printed). a.refusal) (prints.answer ∙ ap (page_answer (length old)) judged))

    pub refusal_output : {number : ℕ} {mid last : List ℕ} {q : Printed} → number ≡ r.refusal → enough_for_pages ≤ length mid → Gives (refusal_line number) mid last q
        → take q.length last ≡ output_of (judge_of bytes)
    refusal_output {number} is room gives =
        stands gives (ap (λ (a : Printed). a.refusal) (not_refused gives (omega (arith, refusal_length number))))
        ∙ ap refusal_line is
        ∙ own_number (judge_of bytes) refl
