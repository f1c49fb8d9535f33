-- The bounds of request No. 5 are the least: for a call that another thread served, and for k from 1 to 15 for one that combined and served k. Assumes nothing.
use Prim.Native.Nat.{ℕ, zero, suc, ◌≤◌, ◌<◌}
use native.Mathlib.Omega.{arith}
use mathlib.Core.Path.{◌≡◌, refl, ap}
use mathlib.Core.Bool.{Bool, true}
use mathlib.Core.List.{List, map}
use mathlib.Core.Logic.{◌↔◌}
use lib.Dec.{ltb}
use borrow.Author.Tests.{ltb-true, not-true}
use Rattle.object.specs.Each.{Each}
use Rattle.object.proofs.Choice.{by_equal}
use Rattle.object.proofs.Each.{each_map, each_same, every_each}
use Rattle.bench_file.specs.Reading.{field, little_endian, byte, ruled_byte, several, end}
use Rattle.bench_file.specs.Layout.{Fields, Judgement, accepted, refused_by, start_reader, limits_reader, head_reader, request_reader, row_reader, schedule_reader, file_reader, judge_of}
use Rattle.bench_file.specs.Bytes.{Byte, low_first, each_bytes, bytes_of}
use Rattle.bench_file.proofs.RoundTrip.{accepted_in_range}
use Rattle.machine.specs.declared.Method.{Method}
use Rattle.machine.specs.declared.Method.TheVariants.{CcSynch, DsmSynch}
use Rattle.machine.specs.Methods.{method_number}
use Rattle.history.specs.Terms.{Call, returned, servings, shown_of}
use Rattle.claims.specs.Entries.{entries_from, history_by, history_of}
use Rattle.claims.specs.Claims.{most_by_another, most_combining, ReturnedCall}
use Rattle.claims.specs.Sharp.{Became, became_by, ByAnother, Combining, Bounds, Sharp, by_another_sharp, combining_sharp, combining_up_to, sharp_runs, method_in, becomes, as_said}
use Rattle.claims.proofs.Theorem.{claim_whole}

-- each file is judged from its bytes and run
pub sharp_runs_lem : map becomes sharp_runs ≡ map as_said sharp_runs
unfolding judge_of file_reader head_reader start_reader limits_reader row_reader request_reader schedule_reader ruled_byte byte several field little_endian end low_first each_bytes bytes_of entries_from sharp_runs
sharp_runs_lem = refl

abbrev Reached : Sharp → Type 0
Reached r = becomes r ≡ as_said r

by_another_reached : Reached by_another_sharp
unfolding sharp_runs
by_another_reached = (each_same becomes as_said sharp_runs sharp_runs_lem).0

combining_reached : (others : ℕ) → others < 15 → Reached (combining_sharp others)
unfolding sharp_runs
combining_reached others few = among 15 (each_same becomes as_said sharp_runs sharp_runs_lem).1 few
  where
    among : (most : ℕ) → Each Reached (combining_up_to most) → others < most → Reached (combining_sharp others)
    among zero each h = absurd (omega arith)
    among (suc most) each h = by_equal others most (λ e. rw e each.0) (λ d. among most each.1 (omega arith))

-- the method of number 0
is_cc : (m : Method) → method_number m ≡ 0 → m ≡ CcSynch
is_cc CcSynch e = refl
is_cc DsmSynch e = absurd (omega (arith, e))

-- no bound is below what a call has cost
module _ (Premise : Became → Type 0) (r : Sharp) (reached : Reached r) (over : r.said.returned ≡ true) (so : Premise r.said) (b : ℕ) (bounds : Bounds Premise b) where
  each_byte : Each Byte r.file
  each_byte = each_map (λ x e. ltb-true x 256 e) r.file (every_each (λ x. ltb x 256) r.file (ap (λ (p : Bool × ℕ × Became). p.0) reached))

  by_judgement : (j : Judgement) → judge_of r.file ≡ j → method_in j ≡ 0 → became_by j r.call ≡ r.said → r.said.cost ≤ b
  by_judgement (accepted f) judged cc same = rw (← same) (bounds r.file f each_byte judged (is_cc f.head.method cc) r.call (rw same so))
  by_judgement (refused_by number) judged cc same = absurd (omega (arith, cc))

  needed : r.said.cost ≤ b
  needed = by_judgement (judge_of r.file) refl (ap (λ (p : Bool × ℕ × Became). p.1) reached) (ap (λ (p : Bool × ℕ × Became). p.2) reached)

-- a returned call of an accepted CC-Synch file's run, as the claim has it
settled : (bytes : List ℕ) (f : Fields) → Each Byte bytes → judge_of bytes ≡ accepted f → f.head.method ≡ CcSynch → (c : Call) → returned c (history_of f) ≡ true
    → ReturnedCall CcSynch (history_of f) c (shown_of c (servings (history_of f)))
settled bytes f each judged cc c over =
    let history : history_by CcSynch f ≡ history_of f = rw cc in
    rw (← history) ((claim_whole f (accepted_in_range bytes f each judged)).settled c (rw history over))

pub by_another_exactly : (b : ℕ) → Bounds ByAnother b ↔ (most_by_another ≤ b)
by_another_exactly b = (
  needed ByAnother by_another_sharp by_another_reached refl (record { returned = refl; by_another = refl }) b,
  λ more bytes f each judged cc c so. omega (arith, (settled bytes f each judged cc c so.returned).by_another (not-true _ so.by_another)),
)

-- a bound for every k
pub combining_bounded : (k b : ℕ) → most_combining k ≤ b → Bounds (Combining k) b
combining_bounded k b more bytes f each judged cc c so =
    omega (arith, (settled bytes f each judged cc c so.returned).combining so.combined, so.in_turn)

-- and for these the least
pub combining_exactly : (k b : ℕ) → 1 ≤ k → k ≤ 15 → Bounds (Combining k) b ↔ (most_combining k ≤ b)
combining_exactly zero b some few = absurd (omega arith)
combining_exactly (suc others) b some few = (
  needed (Combining (suc others)) (combining_sharp others) (combining_reached others (omega arith)) refl (record { returned = refl; combined = refl; in_turn = refl }) b,
  combining_bounded (suc others) b,
)
