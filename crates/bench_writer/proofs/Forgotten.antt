-- Laws of an outcome of which only the refusal matters. Assumes nothing.
use Prim.Native.Nat.{ℕ}
use mathlib.Core.Path.{◌≡◌, refl}
use mathlib.Core.List.{List, []}
use native.Mathlib.Omega.{arith}
use Rattle.std.specs.Prelude.{Result, Ok, Err}
use Rattle.refusal.specs.declared.Refusal.{Refusal}
use Rattle.bench_file.specs.Reading.{Outcome, refused, read, after, done}
use Rattle.bench_file.specs.Cursor.{tallied, forgotten}
use Rattle.bench_writer.specs.Writer.{passed}

pub forgotten_tallied : {A : Type 0} (tally : A → ℕ) (o : Outcome A) → forgotten (tallied tally o) ≡ forgotten o
forgotten_tallied tally (refused refusal) = refl
forgotten_tallied tally (read a rest) = refl

pub forgotten_refused : {A : Type 0} (o : Outcome A) {refusal : ℕ} → refused refusal ≡ forgotten o → o ≡ refused refusal
forgotten_refused (refused other) e = cc
forgotten_refused (read a rest) e = let z : ◌≡◌ {A = ℕ} 0 1 = cc in absurd (omega arith)

pub forgotten_read : {A : Type 0} (o : Outcome A) → read tt [] ≡ forgotten o → (a : A) × (rest : List ℕ) × (o ≡ read a rest)
forgotten_read (refused other) e = let z : ◌≡◌ {A = ℕ} 0 1 = cc in absurd (omega arith)
forgotten_read (read a rest) e = (a, rest, refl)

-- rules that come last
pub passed_last : {A B : Type 0} (a : A) (bs : List ℕ) (r : Result B Refusal) {o : Outcome Unit} → passed bs r ≡ o → passed [] r ≡ forgotten (after o (λ _. done a))
passed_last a bs (Ok b) e = rw (← e) refl
passed_last a bs (Err refusal) e = rw (← e) refl
