-- A run does no more Swaps than its file has requests, which are at most 256. Assumes fields in range, or the claim of the run.
use Prim.Native.Nat.{ℕ, zero, suc, ◌+◌, ◌-◌, ◌*◌, ◌≤◌, ◌<◌, min, max}
use native.Mathlib.Omega.{arith}
use mathlib.Core.Path.{◌≡◌, refl, ap₂}
use mathlib.Core.List.{List, [], ◌∷◌}
use lib.ListN.{length, get_or}
use Rattle.object.specs.declared.Kind.{Kind}
use Rattle.object.specs.declared.Request.{Request}
use Rattle.object.specs.Each.{Each, sum_of}
use Rattle.bench_file.specs.Layout.{Fields}
use Rattle.bench_file.specs.Bytes.{RowInRange, InRange}
use Rattle.history.specs.Entries.{Entry}
use Rattle.history.specs.Terms.{swap_at}
use Rattle.claims.specs.Claims.{Holds}
use Rattle.history.proofs.OfCall.{call}
use Rattle.machine.specs.declared.Method.{Method}
use Rattle.machine.specs.Sizes.{most_calls}

-- the place of p is closed: what is below it goes up by one
abbrev closed : ℕ → ℕ → ℕ
closed p x = max x (min p (suc x))

-- different numbers from a to below k are at most k - a, by closing the place of one after the other
different_few : (m a k : ℕ) (g : ℕ → ℕ) → ((i : ℕ) → i < m → (a ≤ g i) × (g i < k)) → ((i j : ℕ) → i < j → j < m → g i ≡ g j → ⊥) → m ≤ k - a
different_few zero a k g within apart = omega arith
different_few (suc m) a k g within apart =
    let other : (i : ℕ) → i < m → g i ≡ g m → ⊥ = λ i b. apart i m b (omega arith) in
    let last = within m (omega arith) in
    omega (
      arith,
      different_few m (suc a) k (λ i. closed (g m) (g i)) (λ i b. omega (arith, within i (omega arith), other i b))
          (λ i j b c e. apart i j b (omega arith) (omega (arith, other i (omega arith), other j c))),
    )

-- the requests of all threads numbered row by row: the number of request q of thread t
unfoldable call_number : List (List Request) → ℕ → ℕ → ℕ
call_number [] t q = q
call_number (row ∷ rows) zero q = q
call_number (row ∷ rows) (suc t) q = length row + call_number rows t q

number_below : (rows : List (List Request)) (t q : ℕ) → q < length (get_or rows t []) → call_number rows t q < sum_of length rows
unfolding call_number sum_of
number_below [] t q b = absurd (omega arith)
number_below (row ∷ rows) zero q b = omega arith
number_below (row ∷ rows) (suc t) q b = omega (arith, number_below rows t q b)

-- no two requests have one number
number_apart : (rows : List (List Request)) (t u q r : ℕ) → q < length (get_or rows t []) → r < length (get_or rows u [])
    → call_number rows t q ≡ call_number rows u r → (t ≡ u) × (q ≡ r)
unfolding call_number
number_apart [] t u q r b c e = absurd (omega arith)
number_apart (row ∷ rows) zero zero q r b c e = (refl, e)
number_apart (row ∷ rows) zero (suc u) q r b c e = absurd (omega arith)
number_apart (row ∷ rows) (suc t) zero q r b c e = absurd (omega arith)
number_apart (row ∷ rows) (suc t) (suc u) q r b c e = omega (arith, number_apart rows t u q r b c (omega arith))

-- each Swap is of a call of its own, and that is one of the file's
pub swaps_few : {m : Method} (f : Fields) {history : List Entry} {s a : ℕ} → Holds m f history s a → s ≤ sum_of length f.rows
swaps_few f {history} {s} claim =
    let there = claim.of_the_file in
    omega (
      arith,
      different_few s 0 (sum_of length f.rows) (λ i. call_number f.rows (swap_at history i).thread.0 (swap_at history i).request)
          (λ i b. (omega arith, number_below f.rows _ _ (there i b)))
          (λ i k b c e. claim.distinct i k b c (let same = number_apart f.rows _ _ _ _ (there i (omega arith)) (there k c) e in ap₂ call same.0 same.1)),
    )

rows_few : (object : Kind) (rows : List (List Request)) → Each (RowInRange object) rows → sum_of length rows ≤ 16 * length rows
unfolding sum_of
rows_few object [] each = omega arith
rows_few object (row ∷ rows) each = omega (arith, each.0.count, rows_few object rows each.1)

pub requests_few : (f : Fields) → InRange f → sum_of length f.rows ≤ most_calls
requests_few f fits = omega (arith, rows_few f.head.object f.rows fits.rows, fits.threads, fits.head.n)
