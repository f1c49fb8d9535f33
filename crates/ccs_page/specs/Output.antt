-- What the program prints for a file that is judged: its pages, or the line of its refusal; 14 if an entry of its run meets null.
use Rattle.std.specs.Prelude.{ℕ, cond, List}
use Rattle.bench_file.specs.Layout.{Judgement, accepted, refused_by}
use Rattle.claims.specs.Entries.{clear_of}
use Rattle.cells.specs.Promise.{refusal_line}
use Rattle.page.specs.Pages.{pages_text}
use Rattle.page.specs.Promise.{page_rows}

abbrev pub output_of : Judgement → List ℕ
output_of (accepted f) = cond (clear_of f) (pages_text (page_rows f)) (refusal_line 14)
output_of (refused_by number) = refusal_line number
