-- A file between versions, request No. 7 of document 02: any bytes, judged as a bench file and written in the version that is wanted.
use Rattle.std.specs.Prelude.{ℕ, ◌+◌, ◌≤◌, ◌≡◌, Bool, cond, List, [], ◌∷◌, ◌++◌, length, take, drop, leb}
use Rattle.machine.specs.declared.Method.{Method}
use Rattle.machine.specs.declared.Method.TheVariants.{CcSynch}
use Rattle.machine.specs.Methods.{method_number}
use Rattle.bench_file.specs.declared.Head.{Head}
use Rattle.bench_file.specs.Layout.{Fields, version_known, Judgement, accepted, refused_by, judge_of}
use Rattle.bench_file.specs.Bytes.{head_bytes, bytes_of, head_in, in_version}
use Rattle.bench_writer.specs.Writer.{Written}
use Rattle.bench_writer.specs.Buffer.{writing, refused_writing, Fills}
use Rattle.bench_writer.specs.Writer.{Writing, fitted, most_method}

-- whether a file of a version can be of a method: one of version 1 of CC-Synch only
abbrev pub allows_method : ℕ → Method → Bool
allows_method version method = leb (method_number method) (most_method version)

-- a file that is judged: its own refusal; 16, a DSM-Synch file where version 1 is wanted; else its fields in the wanted version, or 13 by their length there
abbrev pub converted_as : ℕ → ℕ → Judgement → Writing
converted_as wanted room (accepted f) = cond (allows_method wanted f.head.method) (fitted room (bytes_of (in_version wanted f))) (refused_writing 16)
converted_as wanted room (refused_by refusal) = refused_writing refusal

-- what is written for a file's bytes and a wanted version into a buffer of so many bytes; a wanted version other than 1 and 2 is 3, whatever the bytes are
unfoldable pub convert_of : List ℕ → ℕ → ℕ → Writing
convert_of bytes wanted room = cond (version_known wanted) (converted_as wanted room (judge_of bytes)) (refused_writing 3)

-- a change of version in bytes: bytes 3 and 4 are the version, and version 2 has one byte more, the method, behind the capacity in byte 8
abbrev pub as_second : List ℕ → List ℕ
as_second bytes = take 3 bytes ++ (2 ∷ 0 ∷ []) ++ take 4 (drop 5 bytes) ++ (0 ∷ []) ++ drop 9 bytes

abbrev pub as_first : List ℕ → List ℕ
as_first bytes = take 3 bytes ++ (1 ∷ 0 ∷ []) ++ take 4 (drop 5 bytes) ++ drop 10 bytes

-- what the service answers to a file's bytes and a wanted version, and the lent buffer before and after it
pub record Converts (bytes : List ℕ) (wanted : ℕ) (answer : Written) (before after : List ℕ) : Type 0 where
  pub fills : Fills (convert_of bytes wanted (length before)) answer before after
  -- what is written is judged accepted, with the fields of the file but for the version, which is the wanted one
  pub same_fields : answer.refusal ≡ 0
      → (f : Fields) × (judge_of bytes ≡ accepted f) × (judge_of (take answer.length after) ≡ accepted (in_version wanted f))
  -- and converted to the file's own version, into any buffer that has room for the file, it is the file again, every byte
  pub back : answer.refusal ≡ 0 → (f : Fields) → judge_of bytes ≡ accepted f → (room : ℕ) → length bytes ≤ room
      → convert_of (take answer.length after) f.head.version room ≡ writing bytes
  -- where the buffer has room: a file already in the wanted version is copied
  pub copied : (f : Fields) → judge_of bytes ≡ accepted f → f.head.version ≡ wanted → length bytes ≤ length before
      → Fills (writing bytes) answer before after
  -- version 1 becomes version 2 with method 0
  pub raised : (f : Fields) → judge_of bytes ≡ accepted f → f.head.version ≡ 1 → wanted ≡ 2 → length bytes + 1 ≤ length before
      → Fills (writing (as_second bytes)) answer before after
  -- version 2 becomes version 1 where its method is 0
  pub lowered : (f : Fields) → judge_of bytes ≡ accepted f → f.head.version ≡ 2 → f.head.method ≡ CcSynch → wanted ≡ 1 → length bytes ≤ length before + 1
      → Fills (writing (as_first bytes)) answer before after

-- `converted_as` of an accepted file, from its head and what stands behind it, for the code to lay out
abbrev pub head_converted : ℕ → ℕ → Head → List ℕ → Writing
head_converted wanted room head behind =
    cond (allows_method wanted head.method) (fitted room (head_bytes (head_in wanted head) ++ behind)) (refused_writing 16)
