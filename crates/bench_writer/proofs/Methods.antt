-- Which methods a version has: `most_method`, by number and by name. Assumes nothing.
use Prim.Native.Nat.{ℕ, ◌≤◌}
use native.Mathlib.Omega.{arith}
use mathlib.Core.Path.{◌≡◌}
use lib.Dec.{eqb}
use borrow.Author.Tests.{eqb-true}
use Rattle.machine.specs.declared.Method.{Method}
use Rattle.machine.specs.declared.Method.TheVariants.{CcSynch}
use Rattle.machine.specs.Methods.{method_number, method_of}
use Rattle.object.proofs.Choice.{either}
use Rattle.bench_file.proofs.Methods.{method_range}
use Rattle.bench_writer.specs.Writer.{most_method}

-- a version has its methods: version 1 CC-Synch only
pub method_most : (version : ℕ) (method : Method) → (version ≡ 1 → method ≡ CcSynch) → method_number method ≤ most_method version
method_most version method h =
    either (λ most. method_number method ≤ most) (eqb version 1) (λ e. rw (h (eqb-true version 1 e)) (omega arith)) (λ e. method_range method)

-- a method that its version has is one of the two, and in version 1 the first
pub method_known : (version method : ℕ) → method ≤ most_method version → method ≤ 1
method_known version method = either (λ most. method ≤ most → method ≤ 1) (eqb version 1) (λ e h. omega arith) (λ e h. h)

pub method_first : (version method : ℕ) → method ≤ most_method version → version ≡ 1 → method_of method ≡ CcSynch
method_first version method h e =
    let none : method ≤ 0 = rw e at h in
    let zero : method ≡ 0 = omega arith in
    rw zero
