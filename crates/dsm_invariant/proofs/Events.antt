-- What the entry of a line is, by the line's number. Assumes nothing.
use Prim.Native.Nat.{ℕ}
use native.Mathlib.Omega.{arith}
use mathlib.Core.Path.{◌≡◌, refl}
use mathlib.Core.Bool.{Bool, true, false, cond, ◌||◌}
use lib.Dec.{eqb}
use borrow.Author.Tests.{ne_eqb}
use Rattle.object.proofs.Choice.{by_equal, by_test}
use Rattle.machine.specs.declared.Event.{Event}
use Rattle.machine.specs.declared.Event.TheVariants.{Blank, CallBegins, Swaps, TurnBegins, Applies, TurnEnds, Returns}
use Rattle.machine.specs.Events.{same_event}
use Rattle.dsm_lines.specs.Lines.{Line, number, event_in}
use Rattle.dsm_lines.proofs.Numbers.{by_line}
use Rattle.step.specs.Entry.{one_if}
use Rattle.invariant.specs.View.{View}
use Rattle.dsm_invariant.specs.View.{first, emptied, event_at}
use Rattle.dsm_invariant.proofs.Notes.{ending}
use Rattle.dsm_invariant.proofs.Follows.{Tested, Plain, each_way}
use Rattle.dsm_invariant.proofs.Threads.{last_line}

-- tests that count alike are one
one_if_same : (a b : Bool) → one_if a ≡ one_if b → a ≡ b
one_if_same true true e = refl
one_if_same true false e = absurd (omega arith)
one_if_same false true e = absurd (omega arith)
one_if_same false false e = refl

-- an event and the lines whose entries are it
pub record Told (v : View) (t k : ℕ) (event : Event) : Type 0 where
  pub blanks : same_event event Blank ≡ eqb k 0
  pub begins : same_event event CallBegins ≡ eqb k 1
  pub swaps : same_event event Swaps ≡ eqb k 7
  pub turns : same_event event TurnBegins ≡ eqb k 13
  pub applies : same_event event Applies ≡ eqb k 16
  pub ends : same_event event TurnEnds ≡ ending v t k
  pub returns : same_event event Returns ≡ last_line k

module _ (v : View) (t : ℕ) (l : Line) where
  -- what holds of each line and of what its entry may be
  module _ (P : ℕ → Event → Type 0) where
    abbrev At : ℕ → Event → ℕ → Type 0
    At k event on = P k event

    each_event : Plain (first v t l) (first v t l) v.tail (emptied v t) 0 0 At → Tested At → P (number l) (event_at v t l)
    each_event plain ways = each_way (first v t l) (first v t l) v.tail (emptied v t) 0 0 At plain ways l

  -- line 23 ends a turn by its CAS
  ends_at : same_event (event_at v t l) TurnEnds ≡ ending v t (number l)
  ends_at =
      let x = first v t l in
      by_equal (number l) 23
      (λ q. by_line (λ (m : Line). same_event (event_in x (emptied v t) m) TurnEnds ≡ ending v t (number m)) l q
      (by_test (emptied v t) (λ e. rw e) (λ e. rw e)))
      (λ q. rw (ne_eqb (number l) 23 q) (one_if_same _ _ (rw (ne_eqb (number l) 23 q) at
      (each_event (λ k event. cond (eqb k 23) 0 (one_if (same_event event TurnEnds)) ≡ cond (eqb k 23) 0 (one_if (eqb k 26 || false))) (omega arith) (omega arith)))))

  pub told : Told v t (number l) (event_at v t l)
  told = record {
    blanks = one_if_same _ _ (each_event (λ k event. one_if (same_event event Blank) ≡ one_if (eqb k 0)) (omega arith) (omega arith));
    begins = one_if_same _ _ (each_event (λ k event. one_if (same_event event CallBegins) ≡ one_if (eqb k 1)) (omega arith) (omega arith));
    swaps = one_if_same _ _ (each_event (λ k event. one_if (same_event event Swaps) ≡ one_if (eqb k 7)) (omega arith) (omega arith));
    turns = one_if_same _ _ (each_event (λ k event. one_if (same_event event TurnBegins) ≡ one_if (eqb k 13)) (omega arith) (omega arith));
    applies = one_if_same _ _ (each_event (λ k event. one_if (same_event event Applies) ≡ one_if (eqb k 16)) (omega arith) (omega arith));
    ends = ends_at;
    returns = one_if_same _ _ (each_event (λ k event. one_if (same_event event Returns) ≡ one_if (last_line k)) (omega arith) (omega arith));
  }
