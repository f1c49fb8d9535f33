-- The numbers of document 01 and the cases of the enums are inverse to each other. Assumes nothing.
use Rattle.std.proofs.Common.{◌≡◌, ℕ, zero, suc, ◌≤◌, true, sym, refl, arith, lit≤, eqb-true}
use Rattle.object.specs.declared.Kind.{Kind}
use Rattle.object.specs.declared.Kind.TheVariants.{Queue, Stack, Counter}
use Rattle.object.specs.declared.Request.{Request}
use Rattle.object.specs.declared.Request.TheVariants.{Put, Take, Add}
use Rattle.object.specs.Paper.{kind_number, kind_of, request_code, request_value, request_of, most_code, value_allowed}

-- the object's number
pub number_of_kind : (k : Kind) → kind_of (kind_number k) ≡ k
number_of_kind Queue = refl
number_of_kind Stack = refl
number_of_kind Counter = refl

pub kind_of_number : (number : ℕ) → number ≤ 2 → kind_number (kind_of number) ≡ number
kind_of_number zero h = refl
kind_of_number (suc zero) h = refl
kind_of_number (suc (suc number)) h = omega arith

pub kind_range : (k : Kind) → kind_number k ≤ 2
kind_range Queue = lit≤ tt
kind_range Stack = lit≤ tt
kind_range Counter = lit≤ tt

pub most_code_lem : (object : Kind) → most_code object ≤ 2
most_code_lem Queue = lit≤ tt
most_code_lem Stack = lit≤ tt
most_code_lem Counter = lit≤ tt

pub code_told : (code value : ℕ) → code ≤ 2 → request_code (request_of code value) ≡ code
code_told zero value h = refl
code_told (suc zero) value h = refl
code_told (suc (suc code)) value h = omega arith

pub value_told : (code value : ℕ) → value_allowed code value ≡ true → request_value (request_of code value) ≡ value
value_told zero value e = refl
value_told (suc zero) value e = sym (eqb-true value 0 e)
value_told (suc (suc code)) value e = refl

pub request_told : (r : Request) → (value_allowed (request_code r) (request_value r) ≡ true) × (r ≡ request_of (request_code r) (request_value r))
request_told (Put v) = (refl, refl)
request_told Take = (refl, refl)
request_told (Add v) = (refl, refl)
