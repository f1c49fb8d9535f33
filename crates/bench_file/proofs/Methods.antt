-- The methods and their numbers are inverse to each other. Assumes nothing.
use Prim.Native.Nat.{ℕ, zero, suc, ◌≤◌}
use native.Mathlib.Omega.{arith}
use mathlib.Core.Path.{◌≡◌, refl}
use Rattle.machine.specs.declared.Method.{Method}
use Rattle.machine.specs.declared.Method.TheVariants.{CcSynch, DsmSynch}
use Rattle.machine.specs.Methods.{method_number, method_of}

pub number_of_method : (method : Method) → method_of (method_number method) ≡ method
number_of_method CcSynch = refl
number_of_method DsmSynch = refl

pub method_of_number : (number : ℕ) → number ≤ 1 → method_number (method_of number) ≡ number
method_of_number zero h = refl
method_of_number (suc zero) h = refl
method_of_number (suc (suc number)) h = absurd (omega arith)

pub method_range : (method : Method) → method_number method ≤ 1
method_range CcSynch = omega arith
method_range DsmSynch = omega arith
