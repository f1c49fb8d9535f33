-- The marked runs of both methods, the papers' examples of 13 and 14 and the limits beside them, by the definition that the service promises, by computation. Assumes
-- nothing.
use Prim.Native.Nat.{ℕ}
use mathlib.Core.Path.{◌≡◌, refl}
use mathlib.Core.List.{List, [], ◌∷◌, map}
use lib.ListN.{length, replicate}
use Rattle.object.specs.Each.{sum_of}
use Rattle.bench_file.specs.Reading.{field, little_endian, byte, ruled_byte, several, end}
use Rattle.bench_file.specs.Layout.{Fields, start_reader, limits_reader, head_reader, request_reader, row_reader, schedule_reader, file_reader, judge_of}
use Rattle.bench_file.specs.Bytes.{low_first, each_bytes, bytes_of}
use Rattle.bench_file.specs.Examples.{sixty_four, sixty_five}
use Rattle.machine.specs.declared.Method.TheVariants.{CcSynch, DsmSynch}
use Rattle.claims.specs.Entries.{entries_from, meets_no_null, cut}
use Rattle.claims.specs.Marked.{Marked, value, has_returned, listed, served, two_adds, marked_runs}
use Rattle.claims.specs.Result.{Result, counted, refused_result}
use Rattle.dsm_claims.specs.Marked as dsm
use Rattle.bench.specs.Run.{result_in, enough_for_records}

-- with bytes enough for any file lent
abbrev ran : List ℕ → Result
ran file = result_in enough_for_records (judge_of file)

pub marked_runs_lem : map (λ (m : Marked). ran m.file) marked_runs ≡ map (λ (m : Marked). m.result) marked_runs
unfolding judge_of file_reader head_reader start_reader limits_reader row_reader request_reader schedule_reader ruled_byte byte several field little_endian end low_first each_bytes bytes_of sum_of sixty_four entries_from meets_no_null marked_runs
marked_runs_lem = refl

pub dsm_marked_runs
    : map (λ (m : dsm.Marked). ran (bytes_of m.fields)) dsm.marked_runs
    ≡ map (λ (m : dsm.Marked). record { refusal = 0; counts = m.counts; records = m.records }) dsm.marked_runs
unfolding judge_of file_reader head_reader start_reader limits_reader row_reader request_reader schedule_reader ruled_byte byte several field little_endian end low_first each_bytes bytes_of sum_of entries_from meets_no_null dsm.marked_runs
dsm_marked_runs = refl

-- the 64-byte file in version 2: by CC-Synch as in version 1, and by DSM-Synch
pub second_version
    : map ran (sixty_five CcSynch ∷ sixty_five DsmSynch ∷ [])
    ≡ record { refusal = 0; counts = counted 2 2 0 0 3; records = served ∷ listed 0 1 value 5 0 1 0 has_returned 21 41 ∷ [] }
    ∷ record {
      refusal = 0;
      counts = counted 2 2 4 0 4;
      records = listed 0 0 value 0 0 0 2 has_returned 0 18 ∷ listed 0 1 value 5 0 1 2 has_returned 19 37 ∷ [];
    }
    ∷ []
unfolding judge_of file_reader head_reader start_reader limits_reader row_reader request_reader schedule_reader ruled_byte byte several field little_endian end low_first sum_of sixty_five entries_from meets_no_null
second_version = refl

-- the 64-byte file with 31 bytes lent; with 47 whether it performs its two requests or none
pub thirteen : result_in 31 (judge_of sixty_four) ∷ result_in 47 (judge_of sixty_four) ∷ result_in 47 (judge_of (two_adds 4)) ∷ [] ≡ replicate 3 (refused_result 13)
unfolding judge_of file_reader head_reader start_reader limits_reader row_reader request_reader schedule_reader ruled_byte byte several field little_endian end low_first each_bytes bytes_of sum_of sixty_four
thirteen = refl

-- and with 48, which are enough for its two requests
pub enough : (result_in 48 (judge_of sixty_four)).refusal ≡ 0
unfolding judge_of file_reader head_reader start_reader limits_reader row_reader request_reader schedule_reader ruled_byte byte several field little_endian end sum_of sixty_four meets_no_null
enough = refl

-- two files whose last entry meets null, of 151 and 164 bytes: 13 with one byte less than their six and seven requests take, else 14; with that entry cut off they
-- are not refused
abbrev with_lent : ℕ → Fields → Result
with_lent lent f = result_in lent (judge_of (bytes_of f))

pub fourteen_bytes : length (bytes_of dsm.late_line27) ∷ length (bytes_of dsm.null_for_tmp_node) ∷ [] ≡ 151 ∷ 164 ∷ []
unfolding low_first each_bytes bytes_of
fourteen_bytes = refl

pub fourteen
    : with_lent 143 dsm.late_line27 ∷ with_lent 144 dsm.late_line27 ∷ with_lent 167 dsm.null_for_tmp_node ∷ with_lent 168 dsm.null_for_tmp_node ∷ []
    ≡ refused_result 13 ∷ refused_result 14 ∷ refused_result 13 ∷ refused_result 14 ∷ []
unfolding judge_of file_reader head_reader start_reader limits_reader row_reader request_reader schedule_reader ruled_byte byte several field little_endian end low_first each_bytes bytes_of sum_of meets_no_null
fourteen = refl

pub before_null : (with_lent 144 (cut 105 dsm.late_line27)).refusal ∷ (with_lent 168 (cut 112 dsm.null_for_tmp_node)).refusal ∷ [] ≡ 0 ∷ 0 ∷ []
unfolding judge_of file_reader head_reader start_reader limits_reader row_reader request_reader schedule_reader ruled_byte byte several field little_endian end low_first each_bytes bytes_of sum_of meets_no_null
before_null = refl
