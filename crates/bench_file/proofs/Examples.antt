-- The papers' refusal table and the 64-byte file in both versions, judged by computation. Assumes nothing.
use Prim.Native.Nat.{ℕ}
use mathlib.Core.Path.{◌≡◌, refl}
use mathlib.Core.List.{[], ◌∷◌, ◌++◌, map}
use lib.ListN.{length, replicate}
use Rattle.object.specs.declared.Kind.TheVariants.{Counter}
use Rattle.object.specs.declared.Request.TheVariants.{Add}
use Rattle.bench_file.specs.Reading.{field, little_endian, byte, ruled_byte, several, end}
use Rattle.machine.specs.declared.Method.{Method}
use Rattle.machine.specs.declared.Method.TheVariants.{CcSynch, DsmSynch}
use Rattle.bench_file.specs.Layout.{Fields, start_reader, limits_reader, head_reader, request_reader, row_reader, schedule_reader, file_reader, accepted, judge_of}
use Rattle.bench_file.specs.Examples.{table, decided, sixty_four, sixty_five, judged_row, tabled_row}

-- each example is given its number
pub judged_as_tabled : map judged_row (table ++ decided) ≡ map tabled_row (table ++ decided)
unfolding judge_of file_reader head_reader start_reader limits_reader row_reader request_reader schedule_reader ruled_byte byte several field little_endian end table decided
judged_as_tabled = refl

-- the fields of the 64-byte file, by version and method: its two adds
abbrev two_adds_of : ℕ → Method → Fields
two_adds_of version method = record {
  head = record { version = version; object = Counter; n = 1; h = 1; capacity = 0; method = method };
  rows = (Add 5 ∷ Add 7 ∷ []) ∷ [];
  schedule = replicate 42 0;
}

pub sixty_four_accepted : judge_of sixty_four ≡ accepted (two_adds_of 1 CcSynch)
unfolding judge_of file_reader head_reader start_reader limits_reader row_reader request_reader schedule_reader ruled_byte byte several field little_endian end sixty_four
sixty_four_accepted = refl

pub sixty_five_accepted : (method : Method) → judge_of (sixty_five method) ≡ accepted (two_adds_of 2 method)
unfolding judge_of file_reader head_reader start_reader limits_reader row_reader request_reader schedule_reader ruled_byte byte several field little_endian end sixty_five
sixty_five_accepted CcSynch = refl
sixty_five_accepted DsmSynch = refl

pub sixty_four_bytes : length sixty_four ≡ 64
unfolding sixty_four
sixty_four_bytes = refl
