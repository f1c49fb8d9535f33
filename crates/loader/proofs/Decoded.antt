-- The requests that bytes hold: what stands at a place, and that reading is inverse to the bytes of a row. Assumes nothing.
use Prim.Native.Nat.{ℕ, suc, ◌+◌, ◌*◌, ◌-◌, ◌<◌}
use native.Mathlib.Omega.{arith}
use mathlib.Core.Path.{◌≡◌, refl, sym}
use mathlib.Core.List.{List, [], ◌∷◌, ◌++◌}
use lib.ListN.{length, drop, set}
use lib.Seq.{sets, drop-drop}
use Rattle.object.specs.declared.Kind.{Kind}
use Rattle.object.specs.declared.Request.{Request}
use Rattle.object.specs.Each.{Each}
use Rattle.object.specs.Paper.{request_value}
use Rattle.object.proofs.Inverse.{request_told}
use Rattle.bench_file.specs.Bytes.{low_first, each_bytes, request_bytes, RequestInRange}
use Rattle.bench_file.proofs.Each.{low_value}
use Rattle.bench_file.proofs.RoundTrip.{request_range}
use Rattle.loader.specs.Load.{request_in, requests_in}

-- one request more is laid
pub laid_more : (rows : List Request) (first : ℕ) (bytes : List ℕ) (count k : ℕ) {request : Request} → k < count → request ≡ request_in (drop (5 * k) bytes)
    → sets (set rows (first + k) request) (first + (k + 1)) (requests_in (count - (k + 1)) (drop (5 * (k + 1)) bytes))
    ≡ sets rows (first + k) (requests_in (count - k) (drop (5 * k) bytes))
laid_more rows first bytes count k h e =
    let left : count - k ≡ suc (count - (k + 1)) = omega arith in
    let place : first + (k + 1) ≡ suc (first + k) = omega arith in
    let next : 5 * (k + 1) ≡ 5 * k + 5 = omega arith in
    rw (left, place, next, ← drop-drop 5 (5 * k) bytes, e)

-- a request in range is the one that its bytes hold
decoded : (kind : Kind) (r : Request) (rest : List ℕ) → RequestInRange kind r → request_in (request_bytes r ++ rest) ≡ r
unfolding low_first
decoded kind r rest h = rw (low_value 4 (request_value r) ((request_range kind r).1 h).1) (sym (request_told r).1)

pub requests_decoded : (kind : Kind) (row : List Request) (rest : List ℕ) → Each (RequestInRange kind) row
    → requests_in (length row) (each_bytes request_bytes row ++ rest) ≡ row
unfolding each_bytes low_first
requests_decoded kind [] rest e = refl
requests_decoded kind (r ∷ row) rest e = cc (decoded kind r (each_bytes request_bytes row ++ rest) e.0, requests_decoded kind row rest e.1)
