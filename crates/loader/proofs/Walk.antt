-- The walk through the rows of an accepted file: what is left of the bytes, and the counts and requests so far. Assumes that the bytes are bytes.
use Prim.Native.Nat.{ℕ, ◌+◌, ◌*◌, ◌-◌, ◌≤◌, ◌<◌}
use native.Mathlib.Nat.{add-zero}
use native.Mathlib.Numerals.{add-one}
use native.Mathlib.Omega.{arith}
use mathlib.Core.Path.{◌≡◌, refl, sym, ap, ◌∙◌}
use mathlib.Core.List.{List, [], ◌∷◌, ◌++◌, append_assoc, append-nil, map, map-append}
use lib.ListN.{length, get_or, take, drop, set, replicate, length-append, length-drop, length-map}
use lib.Seq.{sets, length-take-le, take-suc, take_all, drop-cons, drop-drop, drop_at, get_or-drop}
use Rattle.object.specs.declared.Request.{Request}
use Rattle.object.specs.Paper.{kind_number}
use Rattle.object.specs.Each.{Each}
use Rattle.object.proofs.Each.{each_get_or, each_take}
use Rattle.bench_file.specs.declared.Head.{Head}
use Rattle.bench_file.specs.Layout.{Fields, head_length, accepted, judge_of}
use Rattle.bench_file.specs.Bytes.{low_first, each_bytes, request_bytes, row_bytes, head_bytes, bytes_of, Byte, RowInRange, InRange}
use Rattle.bench_file.proofs.Each.{each_bytes_length}
use Rattle.bench_file.proofs.Size.{request_length, head_length_lem}
use Rattle.bench_file.proofs.RoundTrip.{accepted_exactly}
use Rattle.machine.specs.Methods.{method_number}
use Rattle.machine.specs.Sizes.{most_calls}
use Rattle.state.specs.Fresh.{fresh_state_by}
use Rattle.step.specs.Entry.{zero_request}
use Rattle.claims.specs.Entries.{filled, row_filled, rows_of, start_by}
use Rattle.claims.proofs.Filled.{sets_filled, set_filled}
use Rattle.claims.proofs.Start.{length_rows}
use Rattle.loader.specs.Load.{requests_in}
use Rattle.loader.proofs.Decoded.{requests_decoded}

-- from the schedule's length on
abbrev schedule_bytes : Fields → List ℕ
schedule_bytes f = low_first 2 (length f.schedule) ++ f.schedule

behind_first : (a b c d : List ℕ) (k : ℕ) → length a ≡ k → drop k (a ++ b ++ c ++ d) ≡ b ++ (c ++ d)
behind_first a b c d k e = ap (drop k) (append_assoc (a ++ b) c d ∙ append_assoc a b (c ++ d)) ∙ drop_at a (b ++ (c ++ d)) k e

behind_head_lem : (f : Fields) → drop (head_length f.head.version) (bytes_of f) ≡ each_bytes row_bytes f.rows ++ schedule_bytes f
unfolding bytes_of
behind_head_lem f =
    let head = f.head in
    behind_first (head_bytes head) (each_bytes row_bytes f.rows) (low_first 2 (length f.schedule)) f.schedule (head_length head.version)
    (head_length_lem head.version (kind_number head.object) head.n head.h head.capacity (method_number head.method))

rows_snoc : (rows : List (List Request)) (row : List Request) → rows_of (rows ++ row ∷ []) ≡ rows_of rows ++ row_filled row
rows_snoc [] row = append-nil (row_filled row)
rows_snoc (r ∷ rows) row = ap (λ (l : List Request). row_filled r ++ l) (rows_snoc rows row) ∙ sym (append_assoc (row_filled r) (rows_of rows) (row_filled row))

-- a row that begins at byte `at` lies within the bytes, and its requests within the places of thread i
abbrev pub RowInside : List ℕ → ℕ → ℕ → Type 0
RowInside bytes i at = (i < 16) × (at + (1 + 5 * get_or bytes at 0) ≤ length bytes) × (16 * i + get_or bytes at 0 ≤ most_calls)

-- row i of an accepted file, where it begins at byte `at`
abbrev row_at : Fields → ℕ → List Request
row_at f i = get_or f.rows i []

abbrev behind_row : Fields → ℕ → List ℕ
behind_row f i = each_bytes row_bytes (drop (i + 1) f.rows) ++ schedule_bytes f

module _ (f : Fields) (fits : InRange f) (bytes : List ℕ) (i at : ℕ) (left : drop at bytes ≡ each_bytes row_bytes (drop i f.rows) ++ schedule_bytes f) (h : i < f.head.n) where
  there : i < length f.rows
  there = rw fits.threads h

  in_range : RowInRange f.head.object (row_at f i)
  in_range = each_get_or (RowInRange f.head.object) f.rows i [] fits.rows there

  here : drop at bytes ≡ length (row_at f i) ∷ (each_bytes request_bytes (row_at f i) ++ behind_row f i)
  unfolding each_bytes
  here = left ∙ rw (drop-cons f.rows i [] there, add-one) (simp append_assoc)

  count_here : get_or bytes at 0 ≡ length (row_at f i)
  count_here = sym (ap (λ (k : ℕ). get_or bytes k 0) (add-zero at)) ∙ sym (get_or-drop at bytes 0 0) ∙ ap (λ (l : List ℕ). get_or l 0 0) here

  requests_here : drop (at + 1) bytes ≡ each_bytes request_bytes (row_at f i) ++ behind_row f i
  requests_here = sym (drop-drop 1 at bytes) ∙ ap (λ (l : List ℕ). drop 1 l) here

  row_length : length (each_bytes request_bytes (row_at f i)) ≡ 5 * length (row_at f i)
  row_length = each_bytes_length request_bytes 5 request_length (row_at f i)

  room : RowInside bytes i at
  room = rw count_here (omega (arith, rw length-drop at (simp length-append at (ap length here)), row_length, in_range.count, fits.head.n))

  left_next : drop (at + (1 + 5 * get_or bytes at 0)) bytes ≡ behind_row f i
  left_next =
      let next : at + (1 + 5 * get_or bytes at 0) ≡ at + 1 + 5 * length (row_at f i) = omega (arith, count_here) in
      rw (next, ← drop-drop (5 * length (row_at f i)) (at + 1) bytes, requests_here)
      (drop_at (each_bytes request_bytes (row_at f i)) (behind_row f i) (5 * length (row_at f i)) row_length)

  so_far : length (take i f.rows) ≡ i
  so_far = length-take-le i f.rows (omega (arith, there))

  counts_next : set (filled 16 0 (map length (take i f.rows))) i (get_or bytes at 0) ≡ filled 16 0 (map length (take (i + 1) f.rows))
  counts_next =
      rw (count_here, add-one, take-suc f.rows i [] there, map-append)
      (set_filled 0 16 i (map length (take i f.rows)) (length (row_at f i)) (rw length-map so_far) (omega (arith, fits.head.n)))

  requests_next : sets (filled most_calls zero_request (rows_of (take i f.rows))) (16 * i) (requests_in (get_or bytes at 0) (drop (at + 1) bytes)) ≡ filled most_calls zero_request (rows_of (take (i + 1) f.rows))
  requests_next =
      rw (requests_here, count_here, requests_decoded f.head.object (row_at f i) (behind_row f i) in_range.requests, add-one, take-suc f.rows i [] there, rows_snoc)
      (sets_filled zero_request most_calls (16 * i) (rows_of (take i f.rows)) (row_at f i) (16 - length (row_at f i))
      (length_rows f.head.object (take i f.rows) (each_take (RowInRange f.head.object) i f.rows fits.rows) ∙ rw so_far)
      (omega (arith, in_range.count, fits.head.n)))

-- the walk: at byte `at` row i begins, and the rows before it are laid
pub record Walk (bytes : List ℕ) (head : Head) (i at : ℕ) (counts : List ℕ) (requests : List Request) : Type 0 where
  pub f : Fields
  pub judged : judge_of bytes ≡ accepted f
  pub its_head : f.head ≡ head
  pub fits : InRange f
  pub left : drop at bytes ≡ each_bytes row_bytes (drop i f.rows) ++ schedule_bytes f
  pub counted : counts ≡ filled 16 0 (map length (take i f.rows))
  pub laid : requests ≡ filled most_calls zero_request (rows_of (take i f.rows))

pub walk_starts : (bytes : List ℕ) (head : Head) → Each Byte bytes → ((f : Fields) × (judge_of bytes ≡ accepted f) × (f.head ≡ head))
    → Walk bytes head 0 (head_length head.version) (replicate 16 0) (replicate most_calls zero_request)
walk_starts bytes head p (f, e, z) =
    let (fits, b) = (accepted_exactly bytes f p).0 e in
    record { f = f; judged = e; its_head = z; fits = fits; left = rw (← b, ← z) (behind_head_lem f); counted = refl; laid = refl }

module _ {bytes : List ℕ} {head : Head} {i at : ℕ} {counts : List ℕ} {requests : List Request} (w : Walk bytes head i at counts requests) (h : i < head.n) where
  below : i < w.f.head.n
  below = rw w.its_head h

  pub row_inside : RowInside bytes i at
  row_inside = room w.f w.fits bytes i at w.left below

  pub walk_goes_on : Walk bytes head (i + 1) (at + (1 + 5 * get_or bytes at 0)) (set counts i (get_or bytes at 0)) (sets requests (16 * i) (requests_in (get_or bytes at 0) (drop (at + 1) bytes)))
  walk_goes_on = record {
    f = w.f;
    judged = w.judged;
    its_head = w.its_head;
    fits = w.fits;
    left = left_next w.f w.fits bytes i at w.left below;
    counted = rw w.counted (counts_next w.f w.fits bytes i at w.left below);
    laid = rw w.laid (requests_next w.f w.fits bytes i at w.left below);
  }

pub walk_ends : {bytes : List ℕ} {head : Head} {i at : ℕ} {counts : List ℕ} {requests : List Request} → Walk bytes head i at counts requests → head.n ≤ i
    → (f : Fields) → judge_of bytes ≡ accepted f → fresh_state_by head.method head.object head.n head.h head.capacity counts requests ≡ start_by head.method f
walk_ends {i = i} w h f e =
    let same : f ≡ w.f = cc (sym e ∙ w.judged) in
    let all : take i w.f.rows ≡ w.f.rows = take_all i w.f.rows (rw (w.fits.threads, w.its_head) h) in
    rw (same, w.counted, w.laid, all, w.its_head)
