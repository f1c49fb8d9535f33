-- The example pages, the widest row, 13 by the rows of the run and 14 before it, and how so many records are laid out on pages, by computation. Assumes nothing.
use mathlib.Core.Path.{◌≡◌, refl}
use mathlib.Core.List.{[], ◌∷◌, map, zip_with}
use Prim.Native.Nat.{ℕ}
use lib.ListN.{length, replicate}
use Rattle.object.specs.declared.Kind.TheVariants.{Stack}
use Rattle.bench_file.specs.Reading.{field, little_endian, byte, ruled_byte, several, end}
use Rattle.bench_file.specs.Layout.{start_reader, limits_reader, head_reader, request_reader, row_reader, schedule_reader, file_reader, judge_of}
use Rattle.bench_file.specs.Bytes.{low_first, each_bytes, bytes_of}
use Rattle.bench_file.specs.Examples.{sixty_four}
use Rattle.claims.specs.Entries.{entries_from, meets_no_null, cut}
use Rattle.claims.specs.Marked.{two_adds, every_answer, fills_two, put_and_take}
use Rattle.dsm_claims.specs.Marked.{three_threads, late_line27}
use Rattle.cells.specs.Text.{digits}
use Rattle.cells.specs.Promise.{refused_as}
use Rattle.cells.specs.Rows.{row_text}
use Rattle.page.specs.Examples.{example_pages, widest, widest_row}
use Rattle.page.specs.Pages.{page_row, head_row, pages_from, pages_of, page_text, pages_text, indexed}
use Rattle.page.specs.Promise.{page_answer, page_buffer}

-- printed into a buffer that has just as many bytes
pub example_pages_lem
    : page_buffer (replicate 168 0) (judge_of sixty_four)
    ∷ page_buffer (replicate 112 0) (judge_of (two_adds 20))
    ∷ page_buffer (replicate 112 0) (judge_of (two_adds 5))
    ∷ page_buffer (replicate 56 0) (judge_of (two_adds 4))
    ∷ page_buffer (replicate 280 0) (judge_of every_answer)
    ∷ page_buffer (replicate 504 0) (judge_of (fills_two Stack))
    ∷ page_buffer (replicate 168 0) (judge_of (put_and_take 8 20 3))
    ∷ page_buffer (replicate 168 0) (judge_of (put_and_take 1 13 13))
    ∷ page_buffer (replicate 224 0) (judge_of (bytes_of three_threads))
    ∷ []
    ≡ example_pages
unfolding judge_of file_reader head_reader start_reader limits_reader row_reader request_reader schedule_reader ruled_byte byte several field little_endian end low_first each_bytes bytes_of sixty_four entries_from meets_no_null digits zip_with row_text page_row head_row pages_from page_text pages_text indexed example_pages
example_pages_lem = refl

-- two requests stand in the file, but none was performed: the head row alone is 56 bytes, and one byte less is 13; a refused file has its own number
pub example_answers
    : page_answer 56 (judge_of (two_adds 4)) ∷ page_answer 55 (judge_of (two_adds 4)) ∷ page_answer 111 (judge_of (two_adds 5)) ∷ page_answer 0 (judge_of []) ∷ []
    ≡ record { refusal = 0; length = 56 } ∷ refused_as 13 ∷ refused_as 13 ∷ refused_as 1 ∷ []
unfolding judge_of file_reader head_reader start_reader limits_reader row_reader request_reader schedule_reader ruled_byte byte several field little_endian end low_first each_bytes bytes_of entries_from meets_no_null digits zip_with row_text page_row head_row pages_from page_text pages_text indexed
example_answers = refl

-- a run whose last entry meets null is 14 with no byte lent and with enough; without that entry no byte lent is 13
pub example_null
    : page_answer 0 (judge_of (bytes_of late_line27)) ∷ page_answer 14616 (judge_of (bytes_of late_line27)) ∷ page_answer 0 (judge_of (bytes_of (cut 105 late_line27))) ∷ []
    ≡ refused_as 14 ∷ refused_as 14 ∷ refused_as 13 ∷ []
unfolding judge_of file_reader head_reader start_reader limits_reader row_reader request_reader schedule_reader ruled_byte byte several field little_endian end low_first each_bytes bytes_of entries_from meets_no_null digits zip_with row_text page_row head_row pages_from page_text pages_text indexed
example_null = refl

pub widest_row_lem : page_row widest ≡ widest_row
unfolding digits zip_with row_text page_row widest_row
widest_row_lem = refl

-- 0, 1, 57, 58, 59, 116, 117 and 256 records
pub example_sizes
    : map (λ (count : ℕ). map (length {A = ℕ}) (pages_of (replicate count 0))) (0 ∷ 1 ∷ 57 ∷ 58 ∷ 59 ∷ 116 ∷ 117 ∷ 256 ∷ [])
    ≡ (0 ∷ []) ∷ (1 ∷ []) ∷ (57 ∷ []) ∷ (58 ∷ []) ∷ (58 ∷ 1 ∷ []) ∷ (58 ∷ 58 ∷ []) ∷ (58 ∷ 58 ∷ 1 ∷ []) ∷ (58 ∷ 58 ∷ 58 ∷ 58 ∷ 24 ∷ []) ∷ []
unfolding pages_from
example_sizes = refl
