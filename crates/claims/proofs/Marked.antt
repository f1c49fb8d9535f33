-- The marked runs: each file is judged from its bytes and run, by computation. Assumes nothing.
use mathlib.Core.Path.{◌≡◌, refl}
use mathlib.Core.List.{[], ◌∷◌, map}
use Rattle.bench_file.specs.Reading.{field, little_endian, byte, ruled_byte, several, end}
use Rattle.bench_file.specs.Layout.{start_reader, limits_reader, head_reader, request_reader, row_reader, schedule_reader, file_reader, judge_of}
use Rattle.bench_file.specs.Bytes.{low_first, each_bytes, bytes_of}
use Rattle.bench_file.specs.Examples.{sixty_four}
use Rattle.claims.specs.Entries.{entries_from, meets_no_null}
use Rattle.claims.specs.Marked.{Marked, served, waiting, own_bytes, spelled, marked_runs}
use Rattle.claims.specs.Result.{result_of}

pub marked_runs_lem : map (λ (m : Marked). result_of m.file) marked_runs ≡ map (λ (m : Marked). m.result) marked_runs
unfolding judge_of file_reader head_reader start_reader limits_reader row_reader request_reader schedule_reader ruled_byte byte several field little_endian end low_first each_bytes bytes_of sixty_four entries_from meets_no_null marked_runs
marked_runs_lem = refl

pub spelled_out : served ∷ waiting ∷ own_bytes ∷ [] ≡ spelled
unfolding low_first spelled
spelled_out = refl
