-- The examples of request No. 7, converted by computation. Assumes nothing.
use mathlib.Core.Path.{◌≡◌, refl}
use mathlib.Core.List.{map}
use Rattle.bench_file.specs.Reading.{field, little_endian, byte, ruled_byte, several, end}
use Rattle.bench_file.specs.Layout.{start_reader, limits_reader, head_reader, request_reader, row_reader, schedule_reader, file_reader, judge_of}
use Rattle.bench_file.specs.Bytes.{low_first, each_bytes, bytes_of}
use Rattle.bench_file.specs.Examples.{sixty_four, sixty_five}
use Rattle.bench_writer.specs.Convert.{convert_of}
use Rattle.bench_writer.specs.Examples.{converted, expected, examples}

pub converted_as_expected : map converted examples ≡ map expected examples
unfolding convert_of judge_of file_reader head_reader start_reader limits_reader row_reader request_reader schedule_reader ruled_byte byte several field little_endian end bytes_of low_first each_bytes sixty_four sixty_five examples
converted_as_expected = refl
