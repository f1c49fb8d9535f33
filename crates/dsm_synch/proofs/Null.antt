-- A line meets null exactly if one of its accesses goes to null, or it is 21 and would put null into tmpNode. Assumes that what it points to, from line 3 on, is a
-- node, but for myPredNode at line 9.
use Prim.Native.Nat.{◌<◌}
use native.Mathlib.Omega.{arith}
use mathlib.Core.Path.{◌≡◌, refl, sym}
use mathlib.Core.Bool.{false, ◌&&◌, ◌||◌, or-false}
use lib.Dec.{eqb}
use Rattle.object.proofs.Choice.{by_test}
use Rattle.machine.specs.declared.Node.{Node}
use Rattle.machine.specs.declared.Thread.{Thread}
use Rattle.machine.specs.Accesses.{to_null}
use Rattle.machine.specs.Fields.{is_null}
use Rattle.dsm_lines.specs.Lines.{Line, number, accesses, pointed, L0, L1, L2, L3, L4, L5, L6, L7, L8, L9, L10, L11, L12, L13, L14, L15, L16, L17, L18, L19, L20, L21, L22, L23, L24, L25, L26, L27, L28}
use Rattle.dsm_synch.specs.Effect.{meets_null}

module _ (th : Thread) (x : Node) where
  -- from line 3 on, but at 9, the line points to a node
  abbrev pub PointsToNode : Line → Type 0
  PointsToNode l = 2 < number l → (number l ≡ 9 → ⊥) → is_null (pointed th l) ≡ false

  abbrev pub Meets : Line → Type 0
  Meets l = meets_null th x (number l) ≡ (to_null (accesses th x l) || eqb (number l) 21 && is_null x.next)

  -- line 19 looks behind tmpNode's next only where there is one
  no_further : is_null th.tmp ≡ false → Meets L19
  no_further tmp = by_test (is_null x.next) (λ none. rw (none, tmp)) (λ some. rw (some, tmp, some))

  pub meets_exactly : (l : Line) → PointsToNode l → Meets l
  meets_exactly L0 there = refl
  meets_exactly L1 there = refl
  meets_exactly L2 there = refl
  meets_exactly L3 there = rw (there (omega arith) (λ e. omega arith))
  meets_exactly L4 there = rw (there (omega arith) (λ e. omega arith))
  meets_exactly L5 there = rw (there (omega arith) (λ e. omega arith))
  meets_exactly L6 there = rw (there (omega arith) (λ e. omega arith))
  meets_exactly L7 there = refl
  meets_exactly L8 there = refl
  meets_exactly L9 there = sym (or-false (is_null th.pred || false))
  meets_exactly L10 there = rw (there (omega arith) (λ e. omega arith))
  meets_exactly L11 there = rw (there (omega arith) (λ e. omega arith))
  meets_exactly L12 there = rw (there (omega arith) (λ e. omega arith))
  meets_exactly L13 there = refl
  meets_exactly L14 there = refl
  meets_exactly L15 there = refl
  meets_exactly L16 there = rw (there (omega arith) (λ e. omega arith))
  meets_exactly L17 there = rw (there (omega arith) (λ e. omega arith))
  meets_exactly L18 there = rw (there (omega arith) (λ e. omega arith))
  meets_exactly L19 there = no_further (there (omega arith) (λ e. omega arith))
  meets_exactly L20 there = refl
  meets_exactly L21 there = rw (there (omega arith) (λ e. omega arith))
  meets_exactly L22 there = rw (there (omega arith) (λ e. omega arith))
  meets_exactly L23 there = refl
  meets_exactly L24 there = rw (there (omega arith) (λ e. omega arith))
  meets_exactly L25 there = rw (there (omega arith) (λ e. omega arith))
  meets_exactly L26 there = rw (there (omega arith) (λ e. omega arith), or-false (is_null x.next), or-false (is_null x.next))
  meets_exactly L27 there = rw (there (omega arith) (λ e. omega arith))
  meets_exactly L28 there = rw (there (omega arith) (λ e. omega arith))
