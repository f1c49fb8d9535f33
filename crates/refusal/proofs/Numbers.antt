-- A refusal's number fixes the refusal, and an answer's number and values the answer. Assumes nothing.
use Prim.Native.Nat.{ℕ, ◌-◌}
use native.Mathlib.Omega.{arith}
use mathlib.Core.Path.{◌≡◌, refl, sym, ap, ◌∙◌}
use mathlib.Core.List.{[], ◌∷◌}
use lib.ListN.{get_or}
use Rattle.std.specs.Prelude.{Result, Ok, Err}
use Rattle.std.specs.Result.{IsErr, IsErrAnd}
use Rattle.std.proofs.lemmas.Result.{err_from_is_err_and}
use Rattle.refusal.specs.declared.Refusal.{Refusal}
use Rattle.refusal.specs.declared.Refusal.TheVariants.{CutOff, Mark, Version, Object, Threads, Bound, Capacity, Count, Request, ScheduleLength, Entry, Trailing, Buffer, OutOfRange, Method, Conversion}
use Rattle.refusal.specs.Numbers.{number, by_number}

-- the refusal of a number
abbrev told : ℕ → Refusal
told number =
    get_or
    (CutOff ∷ Mark ∷ Version ∷ Object ∷ Threads ∷ Bound ∷ Capacity ∷ Count ∷ Request ∷ ScheduleLength ∷ Entry ∷ Trailing ∷ Buffer ∷ OutOfRange ∷ Method ∷ Conversion ∷ [])
    (number - 1)
    CutOff

told_number : (r : Refusal) → told (number r) ≡ r
told_number CutOff = refl
told_number Mark = refl
told_number Version = refl
told_number Object = refl
told_number Threads = refl
told_number Bound = refl
told_number Capacity = refl
told_number Count = refl
told_number Request = refl
told_number ScheduleLength = refl
told_number Entry = refl
told_number Trailing = refl
told_number Buffer = refl
told_number OutOfRange = refl
told_number Method = refl
told_number Conversion = refl

pub same_refusal : (r s : Refusal) → number r ≡ number s → r ≡ s
same_refusal r s e = sym (told_number r) ∙ ap told e ∙ told_number s

pub same_answer : {A : Type 0} (r s : Result A Refusal) → by_number r ≡ by_number s → r ≡ s
same_answer (Ok a) (Ok b) e = cc
same_answer (Ok a) (Err s) e = let z : ◌≡◌ {A = ℕ} 0 1 = cc in absurd (omega arith)
same_answer (Err r) (Ok b) e = let z : ◌≡◌ {A = ℕ} 0 1 = cc in absurd (omega arith)
same_answer (Err r) (Err s) e = ap Err (same_refusal r s cc)

-- what the exit of a `?` returns: the refusal that it passes on
pub passed_on : {A : Type 0} (r : Result A Refusal) {refusal : Refusal} → IsErr r × IsErrAnd r (λ e. e ≡ refusal) → r ≡ Err refusal
passed_on r p = let (e, is, same) = err_from_is_err_and r p.1 in is ∙ ap Err same
