-- The writer takes all fields in range: given them, it writes their bytes, and nothing else where it has room; given those of an accepted file, that file.
-- Assumes nothing.
use Prim.Native.Nat.{ℕ, ◌+◌, ◌*◌, ◌≤◌}
use native.Mathlib.Omega.{arith}
use mathlib.Core.Path.{◌≡◌, refl, sym, ap, ◌∙◌}
use mathlib.Core.Bool.{true}
use mathlib.Core.List.{List, [], ◌∷◌, ◌++◌, map, append-nil}
use lib.ListN.{length, length-append, length-map}
use lib.Seq.{take-append_seam, drop-append_seam}
use lib.Dec.{leb, ltb}
use borrow.Author.Tests.{le-leb, lt-ltb}
use Rattle.object.specs.declared.Kind.{Kind}
use Rattle.object.specs.declared.Request.{Request}
use Rattle.object.specs.Paper.{kind_number}
use Rattle.object.proofs.Inverse.{number_of_kind, kind_range}
use Rattle.machine.specs.Methods.{method_number}
use Rattle.bench_file.specs.Reading.{read, several}
use Rattle.bench_file.specs.Layout.{Fields, accepted, judge_of, request_reader}
use Rattle.object.specs.Each.{Each, every, sum_of}
use Rattle.bench_file.specs.Bytes.{request_bytes, each_bytes, bytes_of, Byte, RequestInRange, RowInRange, InRange}
use Rattle.object.proofs.Each.{each_append, each_map, each_every}
use Rattle.object.proofs.Within.{within_range}
use Rattle.bench_file.proofs.Each.{each_bytes_append, each_bytes_length}
use Rattle.bench_file.proofs.Methods.{number_of_method}
use Rattle.bench_file.proofs.Size.{request_length}
use Rattle.bench_file.proofs.Codec.{several_codec}
use Rattle.bench_file.proofs.RoundTrip.{capacity_range, request_codec, accepted_in_range, writes_back}
use Rattle.bench_writer.specs.Writer.{fitted, given_from, total, dealt, number_rules, count_rules, size_rules, entry_rules, requests_reader, given_reader, given_of, write_of}
use Rattle.bench_writer.proofs.Filling.{fitted_whole}
use Rattle.bench_writer.proofs.Methods.{method_most}
use Rattle.bench_writer.proofs.Rules.{rules_pass}

-- the requests of all threads, one row after the other
flat : List (List Request) → List Request
flat [] = []
flat (row ∷ rows) = row ++ flat rows

flat_bytes : (rows : List (List Request)) → each_bytes request_bytes (flat rows) ≡ each_bytes (each_bytes request_bytes) rows
unfolding flat each_bytes
flat_bytes [] = refl
flat_bytes (row ∷ rows) = each_bytes_append request_bytes row (flat rows) ∙ ap (λ (l : List ℕ). each_bytes request_bytes row ++ l) (flat_bytes rows)

flat_length : (rows : List (List Request)) → length (flat rows) ≡ total (map length rows)
unfolding flat sum_of
flat_length [] = refl
flat_length (row ∷ rows) = length-append row (flat rows) ∙ ap (λ (n : ℕ). length row + n) (flat_length rows)

flat_range : (object : Kind) (rows : List (List Request)) → Each (RowInRange object) rows → Each (RequestInRange object) (flat rows)
unfolding flat
flat_range object [] p = tt
flat_range object (row ∷ rows) p = each_append (RequestInRange object) row (flat rows) p.0.requests (flat_range object rows p.1)

flat_dealt : (rows : List (List Request)) → dealt (map length rows) (flat rows) ≡ rows
unfolding flat dealt
flat_dealt [] = refl
flat_dealt (row ∷ rows) = rw (take-append_seam, drop-append_seam, flat_dealt rows)

counts_pass : (object : Kind) (rows : List (List Request)) → Each (RowInRange object) rows → every (λ count. leb count 16) (map length rows) ≡ true
counts_pass object [] p = refl
counts_pass object (row ∷ rows) p = rw (le-leb (length row) 16 p.0.count) (counts_pass object rows p.1)

module _ (f : Fields) (g : InRange f) where
  row_length : length (given_from f).requests ≡ 5 * total (map length f.rows)
  row_length = ap length (sym (flat_bytes f.rows)) ∙ each_bytes_length request_bytes 5 request_length (flat f.rows) ∙ ap (λ (n : ℕ). 5 * n) (flat_length f.rows)

  requests_read : several (total (map length f.rows)) (request_reader f.head.object) (given_from f).requests ≡ read (flat f.rows) []
  requests_read =
      let e = (several_codec (request_codec f.head.object) (total (map length f.rows))).forth (flat f.rows) [] (flat_length f.rows, flat_range f.head.object f.rows g.rows) in
      rw (append-nil, flat_bytes) at e

  numbers : Each (λ r. r.1 ≡ true) (number_rules f.head.version (kind_number f.head.object) f.head.n f.head.h f.head.capacity (method_number f.head.method))
  numbers =
      let object = f.head.object in
      let (least, most) = (capacity_range object f.head.capacity).1 g.head.capacity in (
        (within_range 1 f.head.version 2).1 g.head.version,
        (
          (within_range 0 (kind_number object) 2).1 (omega (arith, kind_range object)),
          (
            (within_range 1 _ 16).1 g.head.n,
            (
              (within_range 1 _ 255).1 g.head.h,
              (rw number_of_kind ((within_range _ _ _).1 (least, most)), (le-leb _ _ (method_most f.head.version f.head.method g.head.method), tt)),
            ),
          ),
        ),
      )

  counts : Each (λ r. r.1 ≡ true) (count_rules f.head.n (map length f.rows))
  counts =
      let e : length (map length f.rows) ≡ f.head.n = length-map f.rows length ∙ g.threads in
      (le-leb f.head.n (length (map length f.rows)) (omega arith), (le-leb (length (map length f.rows)) f.head.n (omega arith), (counts_pass f.head.object f.rows g.rows, tt)))

  sizes : Each (λ r. r.1 ≡ true) (size_rules (total (map length f.rows)) (length (given_from f).requests))
  sizes =
      let size = length (given_from f).requests in
      let asked = 5 * total (map length f.rows) in
      (le-leb asked size (omega (arith, row_length)), (le-leb size asked (omega (arith, row_length)), tt))

  entries : Each (λ r. r.1 ≡ true) (entry_rules f.head.n f.schedule)
  entries = (le-leb _ _ g.entries, (each_every (λ thread. ltb thread f.head.n) f.schedule (each_map (λ thread h. lt-ltb _ _ h) f.schedule g.schedule), tt))

  -- fields in range are taken as they were given
  pub given_whole : given_of (given_from f) ≡ accepted f
  unfolding given_of given_reader requests_reader
  given_whole =
      let bs = (given_from f).requests in
      let g = given_from f in
      rw (rules_pass (number_rules g.version g.object g.n g.h g.capacity g.method) bs numbers, rules_pass (count_rules g.n g.counts) bs counts, rules_pass (size_rules (total g.counts) (length bs)) bs sizes, number_of_kind, number_of_method, requests_read, rules_pass (entry_rules g.n g.schedule) [] entries, flat_dealt)

  -- and their bytes are what is written, where there is room
  pub written_whole : (room : ℕ) → write_of (given_from f) room ≡ fitted room (bytes_of f)
  unfolding write_of
  written_whole room = rw given_whole

-- the fields of an accepted file are written as that file
pub written_back : (bytes : List ℕ) (f : Fields) (room : ℕ) → Each Byte bytes → judge_of bytes ≡ accepted f → length bytes ≤ room
    → write_of (given_from f) room ≡ record { refusal = 0; bytes = bytes }
written_back bytes f room p e h =
    written_whole f (accepted_in_range bytes f p e) room ∙ rw (writes_back bytes f p e) (fitted_whole room bytes h)
