-- A step's remote references and copies are what its accesses say; so the machine's copies are what the accesses of the entries so far say, and each entry's
-- remote marks are as said. Assumes a sound state and a thread below n.
use Prim.Native.Nat.{ℕ, ◌≤◌, ◌<◌}
use native.Mathlib.Omega.{arith}
use mathlib.Core.Path.{◌≡◌, sym, ap, subst, ◌∙◌}
use mathlib.Core.Bool.{false}
use mathlib.Core.List.{List, [], ◌∷◌}
use Rattle.object.specs.Each.{Each}
use Rattle.bench_file.specs.Layout.{Fields}
use Rattle.machine.specs.declared.Method.TheVariants.{CcSynch}
use Rattle.machine.specs.declared.ThreadId.{ThreadId}
use Rattle.machine.specs.Accesses.{Access, Location, located}
use Rattle.machine.specs.Sizes.{most_locations}
use Rattle.copies.specs.Copies.{has_copy}
use Rattle.copies.specs.Remote.{place, has_copy_of}
use Rattle.copies.proofs.Holding.{Inside}
use Rattle.copies.proofs.Valid.{none_held}
use Rattle.state.specs.declared.State.{State}
use Rattle.state.proofs.RangeFacts.{state_fits}
use Rattle.step.specs.Entry.{row, target, accesses, references, entered}
use Rattle.step.proofs.Alike.{near_of}
use Rattle.step.proofs.Outcome.{target_in_range}
use Rattle.step.proofs.Soundness.{Sound}
use Rattle.history.specs.Entries.{Entry, thread_id, remote_in}
use Rattle.history.specs.Copies.{copy_after, valid_copy, remote_said}
use Rattle.history.proofs.Copies.{said_same, all_after, remote_marks_lem}
use Rattle.claims.specs.Entries.{entry_of, start_by}
use Rattle.claims.proofs.Counted.{remote_ones}
use Rattle.claims.proofs.Filled.{padded}

-- each of n threads has the copies that the entries so far give it
pub record CopiesSaid (n : ℕ) (copies : List ℕ) (past : List Entry) : Type 0 where
  pub said : (u : ℕ) (l : Location) → u < n → has_copy_of copies u l ≡ valid_copy (thread_id u) l past

-- at the start no thread has a valid copy of any location: document 01's words
pub none_at_start : (f : Fields) (u : ℕ) (l : Location) → has_copy_of (start_by CcSynch f).copies u l ≡ false
none_at_start f u l = ap (λ (w : ℕ). has_copy w u) (padded 0 most_locations (place l)) ∙ none_held u

pub copies_fresh : (f : Fields) → CopiesSaid f.head.n (start_by CcSynch f).copies []
copies_fresh f = record { said = λ u l h. none_at_start f u l }

-- a step by the copies that its state has, of any sound state: its remote references are those of its accesses, one after the other, and so are the copies
-- that it leaves each thread
pub record StepSaid (s : State) (t : ThreadId) : Type 0 where
  pub remote : (entry_of s t).remote ≡ remote_said t (λ l. has_copy_of s.copies t.0 l) (accesses s t)
  pub counted : remote_in (entry_of s t).remote ≡ (references s t).remote
  pub copies : (u : ℕ) (l : Location) → u < s.n
      → has_copy_of (entered s t).copies u l ≡ copy_after (thread_id u) l t (accesses s t) (has_copy_of s.copies u l)

module _ (s : State) (t : ThreadId) (sound : Sound CcSynch s) (below : t.0 < s.n) where
  few : s.n ≤ 16
  few = (state_fits CcSynch s sound.range).small

  near : (target s t).0 ≤ 31
  near = omega (arith, few, target_in_range s t sound.shape sound.range below)

  inside : Each (Inside s.copies) (accesses s t)
  inside =
      subst (λ (k : ℕ). Each (λ (a : Access). place (located a) < k) (accesses s t)) (sym sound.shape.copies)
      (near_of 31 (target s t) (target s t) near near (row s t))

  pub step_said : StepSaid s t
  step_said = record {
    remote = remote_marks_lem s.n t.0 below few s.copies (accesses s t) inside;
    counted = remote_ones CcSynch s.n t.0 s.copies (accesses s t);
    copies = λ u l h. all_after s.n t.0 below few u h l s.copies (accesses s t) inside;
  }

  module _ (past : List Entry) (copies : CopiesSaid s.n s.copies past) where
    -- after an entry the copies are what the entries say, it included
    pub copies_kept : CopiesSaid s.n (entered s t).copies (entry_of s t ∷ past)
    copies_kept = record { said = λ u l h. step_said.copies u l h ∙ ap (copy_after (thread_id u) l t (accesses s t)) (copies.said u l h) }

    -- and it marks an access remote exactly if the accesses before it leave its thread no valid copy
    pub remote_said_lem : (entry_of s t).remote ≡ remote_said t (λ l. valid_copy t l past) (accesses s t)
    remote_said_lem = step_said.remote ∙ said_same t _ _ (accesses s t) (λ l. copies.said t.0 l below)
