-- What is said by a location's place among the copies is what is said of the location. Assumes nothing.
use Prim.Native.Nat.{ℕ, suc}
use native.Mathlib.Omega.{arith}
use mathlib.Core.Path.{◌≡◌, refl, ap}
use mathlib.Core.List.{List}
use Rattle.machine.specs.declared.Method.{Method}
use Rattle.machine.specs.declared.Method.TheVariants.{CcSynch, DsmSynch}
use Rattle.machine.specs.Accesses.{Location, tail, whole, Access, read, write, swap, cas, located}
use Rattle.copies.specs.Remote.{place, owns, ends, left_copies}
use Rattle.copies.specs.Places.{owns_at, left_at}

-- an owner is found by a location's place
pub owns_at_lem : (t : ℕ) (l : Location) → owns_at t (place l) ≡ owns t l
owns_at_lem t tail = refl
owns_at_lem t (whole m) =
    let next : place (whole m) ≡ suc m.0 = omega arith in
    ap (owns_at t) next

-- the copies after an access are as it leaves them
left_copy : (n t : ℕ) (copies : List ℕ) (a : Access) → left_at CcSynch n t (ends a) (place (located a)) copies ≡ left_copies CcSynch n t a copies
left_copy n t copies (read m field) = refl
left_copy n t copies (write m field) = refl
left_copy n t copies swap = refl
left_copy n t copies cas = refl

pub left_at_lem : (m : Method) (n t : ℕ) (copies : List ℕ) (a : Access) → left_at m n t (ends a) (place (located a)) copies ≡ left_copies m n t a copies
left_at_lem CcSynch n t copies a = left_copy n t copies a
left_at_lem DsmSynch n t copies a = refl
