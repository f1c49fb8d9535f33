-- The example files give exactly their listings, by computation: document 01's 64-byte file its three lines. Assumes nothing.
use Prim.Native.Nat.{ℕ}
use mathlib.Core.Path.{◌≡◌, refl}
use mathlib.Core.List.{List, [], ◌∷◌, map}
use Rattle.object.specs.declared.Kind.TheVariants.{Stack}
use Rattle.bench_file.specs.Reading.{field, little_endian, byte, ruled_byte, several, end}
use Rattle.bench_file.specs.Layout.{start_reader, limits_reader, head_reader, request_reader, row_reader, schedule_reader, file_reader, judge_of}
use Rattle.bench_file.specs.Bytes.{low_first, each_bytes, bytes_of}
use Rattle.bench_file.specs.Examples.{sixty_four, sixty_five}
use Rattle.machine.specs.declared.Method.TheVariants.{CcSynch, DsmSynch}
use Rattle.claims.specs.Entries.{entries_from, meets_no_null}
use Rattle.claims.specs.Marked.{two_adds, every_answer, fills_two, put_and_take}
use Rattle.dsm_claims.specs.Marked.{three_threads, late_line27}
use Rattle.cells.specs.Text.{digits, numbered}
use Rattle.cells.specs.Cells.{record_cells}
use Rattle.cells.specs.Promise.{refusal_line}
use Rattle.listing.specs.Examples.{example_listings}
use Rattle.listing.specs.Listing.{head_line, record_line, listing_of}

pub examples_listed
    : map (λ (file : List ℕ). listing_of (judge_of file))
    (sixty_four
    ∷ two_adds 20
    ∷ two_adds 5
    ∷ every_answer
    ∷ fills_two Stack
    ∷ put_and_take 1 13 13
    ∷ sixty_five CcSynch
    ∷ sixty_five DsmSynch
    ∷ bytes_of three_threads
    ∷ bytes_of late_line27
    ∷ []
    ∷ [])
    ≡ example_listings
unfolding judge_of file_reader head_reader start_reader limits_reader row_reader request_reader schedule_reader ruled_byte byte several field little_endian end low_first each_bytes bytes_of sixty_four sixty_five entries_from meets_no_null digits numbered record_cells refusal_line head_line record_line listing_of example_listings
examples_listed = refl
