-- The fresh machine of a file: by either method its threads, nodes and requests, how long its arrays are and that it is sound; of CC-Synch that it is
-- fresh in the invariant's sense. Assumes fields in range.
use Prim.Native.Nat.{ℕ, zero, suc, ◌+◌, ◌*◌, ◌≤◌, ◌<◌}
use native.Mathlib.Omega.{arith}
use native.Mathlib.Nat.{zero-add}
use mathlib.Core.Path.{◌≡◌, refl, ap, ◌∙◌}
use mathlib.Core.Bool.{true, or-true}
use mathlib.Core.List.{List, [], ◌∷◌, map}
use lib.Dec.{leb, leb-zero}
use lib.ListN.{length, get_or, take, drop, length-append, get_or-replicate, length-map, get_or-append, get_or-map}
use lib.Seq.{get_or-drop, get_or-append-add}
use Rattle.object.specs.declared.Kind.{Kind}
use Rattle.object.specs.declared.Request.{Request}
use Rattle.object.specs.declared.Request.TheVariants.{Put}
use Rattle.object.specs.Paper.{capacity_allowed}
use Rattle.object.specs.Apply.{knows}
use Rattle.bench_file.specs.Layout.{Fields}
use Rattle.object.specs.Each.{Each, every}
use Rattle.bench_file.specs.Bytes.{RequestInRange, RowInRange, InRange}
use Rattle.object.proofs.Each.{each_get_or}
use Rattle.object.proofs.Within.{within_range}
use Rattle.bench_file.proofs.RoundTrip.{capacity_range, request_known}
use Rattle.machine.specs.declared.Method.{Method}
use Rattle.machine.specs.declared.Method.TheVariants.{CcSynch, DsmSynch}
use Rattle.machine.specs.Methods.{last_node, tail_nullable}
use Rattle.machine.specs.Sizes.{most_calls, most_nodes}
use Rattle.state.specs.Range.{pointer_in_range, rows_in_range, thread_in_range, node_in_range}
use Rattle.state.specs.Shape.{Shaped}
use Rattle.state.specs.Fresh.{fresh_thread, fresh_node, fresh_tail}
use Rattle.state.proofs.Kept.{every_first, rows_first}
use Rattle.state.proofs.Threads.{length_fresh, fresh_at}
use Rattle.state.proofs.RangeFacts.{nowhere, PointersFit, thread_iff, nodes_held}
use Rattle.step.specs.Entry.{zero_request, zero_thread, zero_node}
use Rattle.step.proofs.Soundness.{Sound}
use Rattle.invariant.specs.View.{view_of}
use Rattle.invariant.proofs.Start.{Fresh}
use Rattle.history.specs.Entries.{thread_id}
use Rattle.claims.specs.Entries.{filled, row_filled, rows_of, start_by}
use Rattle.claims.specs.Claims.{asked_by}
use Rattle.claims.proofs.Filled.{length_filled, filled_at}

-- the rows one after the other, 16 places each
length_row : (row : List Request) → length row ≤ 16 → length (row_filled row) ≡ 16
length_row row h = length_filled zero_request 16 row h

pub length_rows : (kind : Kind) (rows : List (List Request)) → Each (RowInRange kind) rows → length (rows_of rows) ≡ 16 * length rows
length_rows kind [] e = refl
length_rows kind (row ∷ rows) e = rw (length-append, length_row row e.0.count, length_rows kind rows e.1) (omega arith)

request_at : (kind : Kind) (rows : List (List Request)) (t q : ℕ) → Each (RowInRange kind) rows → q < 16
    → get_or (rows_of rows) (16 * t + q) zero_request ≡ get_or (get_or rows t []) q (Put 0)
request_at kind [] t q e h = refl
request_at kind (row ∷ rows) zero q e h =
    rw zero-add
    (get_or-append (row_filled row) (rows_of rows) zero_request q (rw (length_row row e.0.count) h)
    ∙ rw filled_at refl)
request_at kind (row ∷ rows) (suc t) q e h =
    let next : 16 * suc t + q ≡ length (row_filled row) + (16 * t + q) = omega (arith, length_row row e.0.count) in
    rw (next, get_or-append-add) (request_at kind rows t q e.1 h)

module _ (f : Fields) (fits : InRange f) where
  few : length (map length f.rows) ≤ 16
  few = rw length-map (omega (arith, fits.threads, fits.head.n))

  -- a row of the file, and none has more than 16 requests
  pub row_fits : (t : ℕ) → t < f.head.n → RowInRange f.head.object (get_or f.rows t [])
  row_fits t h = each_get_or (RowInRange f.head.object) f.rows t [] fits.rows (omega (arith, fits.threads))

  pub row_few : (t : ℕ) → t < f.head.n → length (get_or f.rows t []) ≤ 16
  row_few t h = (row_fits t h).count

  pub capacity_fits : capacity_allowed f.head.object f.head.capacity ≡ true
  capacity_fits = (within_range _ _ _).1 ((capacity_range f.head.object f.head.capacity).1 fits.head.capacity)

  -- the object knows what a row asks for
  pub row_known : (t q : ℕ) → t < f.head.n → q < length (get_or f.rows t []) → knows f.head.object (get_or (get_or f.rows t []) q (Put 0)) ≡ true
  row_known t q h k = request_known f.head.object _ (each_get_or (RequestInRange f.head.object) (get_or f.rows t []) q (Put 0) (row_fits t h).requests k)

module _ (m : Method) (f : Fields) (fits : InRange f) where
  -- the requests of thread t's row, and past its end the request of an empty place
  pub requests_start : (t q : ℕ) → q < 16 → get_or (start_by m f).requests (16 * t + q) zero_request ≡ asked_by f (record { thread = thread_id t; request = q })
  requests_start t q h = rw filled_at (request_at f.head.object f.rows t q fits.rows h)

  pub thread_start : (u : ℕ) → u < f.head.n → get_or (start_by m f).threads u zero_thread ≡ fresh_thread u (length (get_or f.rows u []))
  thread_start u h =
      fresh_at 0 (filled 16 0 (map length f.rows)) u zero_thread (rw (length_filled 0 16 (map length f.rows) (few f fits)) (omega (arith, fits.head.n)))
      ∙ rw (zero-add, filled_at) (ap (fresh_thread u) (get_or-map length f.rows u []))

  pub node_start : (i : ℕ) → i < most_nodes → get_or (start_by m f).nodes i zero_node ≡ fresh_node
  node_start i h = get_or-replicate most_nodes i fresh_node zero_node h

  pub shaped_start : Shaped (start_by m f)
  shaped_start = record {
    threads = length_fresh 0 (filled 16 0 (map length f.rows)) ∙ length_filled 0 16 (map length f.rows) (few f fits);
    nodes = refl;
    requests = length_filled zero_request most_calls (rows_of f.rows) (rw (length_rows f.head.object f.rows fits.rows) (omega (arith, fits.threads, fits.head.n)));
    copies = refl;
    items = refl;
  }

-- of CC-Synch, as its invariant has it
pub fresh_start : (f : Fields) (fits : InRange f) → Fresh f.head.n (view_of (start_by CcSynch f))
fresh_start f fits = record {
  line = λ u h. rw (thread_start CcSynch f fits u h);
  own = λ u h. rw (thread_start CcSynch f fits u h);
  tail = refl;
  node = refl;
}

-- every number is in range: a fresh thread's variables, and Tail
pointers_start : (m : Method) (n u count : ℕ) → u < n → PointersFit m (last_node m n) (fresh_thread u count) 0
pointers_start CcSynch n u count h = record { own = omega arith; cur = nowhere refl; tmp = nowhere refl; tmpnext = nowhere refl }
pointers_start DsmSynch n u count h = record { toggle = omega arith; my = nowhere refl; pred = nowhere refl; tmp = nowhere refl }

tail_start : (m : Method) (n : ℕ) → pointer_in_range (last_node m n) (tail_nullable m) (fresh_tail m) ≡ true
tail_start CcSynch n = rw (leb-zero n)
tail_start DsmSynch n = or-true (leb 255 (last_node DsmSynch n))

module _ (m : Method) (f : Fields) (fits : InRange f) where
  abbrev last : ℕ
  last = last_node m f.head.n

  threads_fit : every (thread_in_range m last f.head.h) (take f.head.n (start_by m f).threads) ≡ true
  threads_fit =
      every_first (thread_in_range m last f.head.h) zero_thread f.head.n (start_by m f).threads (λ u h.
      rw (thread_start m f fits u h)
      (let row = row_fits f fits u h in
      (thread_iff m last f.head.h (fresh_thread u (length (get_or f.rows u [])))).1
      (record { few = row.count; counted = omega arith; begun = tt; a_line = refl; pointers = pointers_start m f.head.n u (length (get_or f.rows u [])) h; served = omega arith })))

  nodes_fit : every (node_in_range f.head.object f.head.capacity last) (take (last + 1) (start_by m f).nodes) ≡ true
  nodes_fit =
      every_first (node_in_range f.head.object f.head.capacity last) zero_node (last + 1) (start_by m f).nodes (λ i h.
      rw (node_start m f fits i (omega (arith, nodes_held m f.head.n fits.head.n.0 fits.head.n.1))) (or-true (leb 255 last)))

  rows_fit : rows_in_range f.head.object (start_by m f).requests 0 (take f.head.n (start_by m f).threads) ≡ true
  rows_fit =
      rows_first f.head.object (start_by m f).requests zero_thread 0 f.head.n (start_by m f).threads (λ t h.
      rw (zero-add, thread_start m f fits t h)
      (every_first (knows f.head.object) zero_request (length (get_or f.rows t [])) (drop (16 * t) (start_by m f).requests) (λ q k.
      rw (get_or-drop, requests_start m f fits t q (omega (arith, row_few f fits t h)))
      (row_known f fits t q h k))))

  pub sound_start : Sound m (start_by m f)
  sound_start = record {
    shape = shaped_start m f fits;
    range =
        rw ((within_range 1 f.head.n 16).1 fits.head.n, (within_range 1 f.head.h 255).1 fits.head.h, capacity_fits f fits, leb-zero f.head.capacity, tail_start m f.head.n, threads_fit, nodes_fit, rows_fit);
  }
