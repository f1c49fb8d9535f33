-- The machine's counts are those of the entries, by either method, and have 32 bits. Assumes at most 32,768 entries where numbers fit.
use Prim.Native.Nat.{ℕ, ◌≤◌, ◌<◌}
use native.Mathlib.Omega.{arith}
use native.Mathlib.Nat.{add_comm}
use mathlib.Core.Path.{◌≡◌, refl, sym, ap, ◌∙◌}
use mathlib.Core.Bool.{Bool, true, false, cond, not}
use mathlib.Core.List.{List, [], ◌∷◌}
use lib.ListN.{length}
use Rattle.object.specs.Each.{Each}
use Rattle.machine.specs.declared.Method.{Method}
use Rattle.machine.specs.declared.ThreadId.{ThreadId}
use Rattle.machine.specs.Accesses.{Access, located}
use Rattle.copies.specs.Remote.{at_hand, left_copies, referred_by}
use Rattle.state.specs.declared.Counts.{Counts}
use Rattle.state.specs.declared.State.{State}
use Rattle.state.specs.Range.{counts_in_range}
use Rattle.step.specs.Entry.{one_if, more_of, plus}
use Rattle.step.proofs.Numbers.{at_most_one}
use Rattle.history.specs.Entries.{Entry, remote_in}
use Rattle.history.specs.Copies.{remote_marks}
use Rattle.history.specs.Terms.{counts_of}
use Rattle.history.proofs.Sums.{Few, counts_fit}
use Rattle.claims.specs.Entries.{entry_by}
use Rattle.step.specs.ByMethod.{entered_by}
use Rattle.claims.proofs.Accesses.{accesses_few}

-- the remote accesses of an entry are as many as the state counts
one_remote : (has : Bool) → one_if (not has) ≡ cond has 0 1
one_remote true = refl
one_remote false = refl

module _ (m : Method) (n t : ℕ) where
  pub remote_ones : (copies : List ℕ) (accesses : List Access) → remote_in (remote_marks m n t copies accesses) ≡ (referred_by m n t copies accesses).remote
  remote_ones copies [] = refl
  remote_ones copies (a ∷ accesses) =
      omega (arith, one_remote (at_hand m copies t (located a)), remote_ones (left_copies m n t a copies) accesses)

  -- and no more than its accesses
  remote_most : (copies : List ℕ) (accesses : List Access) → remote_in (remote_marks m n t copies accesses) ≤ length accesses
  remote_most copies [] = omega arith
  remote_most copies (a ∷ accesses) =
      omega (arith, at_most_one (not (at_hand m copies t (located a))), remote_most (left_copies m n t a copies) accesses)

-- the marks of an entry and what the state counts, both of the entry's accesses
pub marks_of : (m : Method) (s : State) (t : ThreadId) → (entry_by m s t).remote ≡ remote_marks m s.n t.0 s.copies (entry_by m s t).accesses
marks_of m s t = refl

counts_of_lem : (m : Method) (s : State) (t : ThreadId)
    → (entered_by m s t).counts ≡ plus s.counts (more_of (entry_by m s t).event (referred_by m s.n t.0 s.copies (entry_by m s t).accesses).remote)
counts_of_lem m s t = refl

-- an entry makes at most three accesses, so at most three remote references
entry_few : (m : Method) (s : State) (t : ThreadId) → Few (entry_by m s t)
entry_few m s t =
    omega (arith, accesses_few m s t, ap remote_in (marks_of m s t), remote_most m s.n t.0 s.copies (entry_by m s t).accesses)

plus_comm : (c d : Counts) → plus c d ≡ plus d c
plus_comm c d = rw (add_comm c.records, add_comm c.turns, add_comm c.blanks, add_comm c.spins, add_comm c.remote)

-- what the counts are after the entries of a run, the latest first
pub record Counted (s : State) (past : List Entry) : Type 0 where
  pub counts : s.counts ≡ counts_of past
  pub few : Each Few past

pub counted_next : (m : Method) (s : State) (past : List Entry) (t : ThreadId) → Counted s past → Counted (entered_by m s t) (entry_by m s t ∷ past)
counted_next m s past t c =
    let e = entry_by m s t in
    record {
      counts =
          counts_of_lem m s t
          ∙ ap (λ (c : Counts). plus c (more_of e.event (referred_by m s.n t.0 s.copies e.accesses).remote)) c.counts
          ∙ plus_comm (counts_of past) _
          ∙ ap (λ (remote : ℕ). plus (more_of e.event remote) (counts_of past))
          (sym (ap remote_in (marks_of m s t) ∙ remote_ones m s.n t.0 s.copies e.accesses));
      few = (entry_few m s t, c.few);
    }

-- so an entry after fewer than 32,768 leaves the counts in range
pub next_fits : (m : Method) (s : State) (past : List Entry) (t : ThreadId) → Counted s past → length past < 32768
    → counts_in_range (entered_by m s t).counts ≡ true
next_fits m s past t c short =
    let next = counted_next m s past t c in
    ap counts_in_range next.counts ∙ counts_fit (entry_by m s t ∷ past) next.few (omega arith)
