-- What the accesses of a thread make of the copies of a state, and which of them are remote, is as said of accesses alone.
-- Assumes, of CC-Synch, the thread below n, n at most 16, and the accesses inside the copies; of DSM-Synch nothing.
use Prim.Native.Nat.{ℕ, ◌≤◌, ◌<◌}
use mathlib.Core.Path.{◌≡◌, refl, ap, ap₂, ◌∙◌}
use mathlib.Core.Bool.{Bool, true, cond, not}
use mathlib.Core.List.{List, [], ◌∷◌}
use lib.ListN.{length-set}
use borrow.Author.Tests.{eq-eqb}
use Rattle.object.specs.Each.{Each}
use Rattle.object.proofs.Each.{each_map}
use Rattle.machine.specs.declared.Method.TheVariants.{CcSynch, DsmSynch}
use Rattle.machine.specs.declared.ThreadId.{ThreadId}
use Rattle.machine.specs.Accesses.{Access, Location, located}
use Rattle.copies.specs.Remote.{has_copy_of, copies_after, referred}
use Rattle.copies.proofs.Holding.{Inside, copy_after_lem}
use Rattle.copies.proofs.Owners.{owns_two}
use Rattle.history.specs.Entries.{thread_id}
use Rattle.history.specs.Copies.{decides, copy_after, remote_said, remote_by_owner, remote_marks}

-- by copies that agree on every location the same accesses are remote
pub said_same : (t : ThreadId) (f g : Location → Bool) (accesses : List Access) → ((l : Location) → f l ≡ g l)
    → remote_said t f accesses ≡ remote_said t g accesses
said_same t f g [] e = refl
said_same t f g (a ∷ rest) e =
    ap₂ (λ (b : Bool) (marks : List Bool). not b ∷ marks) (e (located a))
    (said_same t (λ l. cond (decides t l t a) true (f l)) (λ l. cond (decides t l t a) true (g l)) rest
    (λ l. ap (λ (b : Bool). cond (decides t l t a) true b) (e l)))

module _ (n t : ℕ) (below : t < n) (few : n ≤ 16) where
  -- an access leaves as many copies as there were
  inside_after : (copies : List ℕ) (a : Access) (accesses : List Access)
      → Each (Inside copies) accesses → Each (Inside (copies_after n t a copies)) accesses
  inside_after copies a accesses inside = each_map (λ b h. rw length-set h) accesses inside

  -- what a thread has after several accesses
  pub all_after : (u : ℕ) → u < n → (l : Location) (copies : List ℕ) (accesses : List Access) → Each (Inside copies) accesses
      → has_copy_of (referred n t copies accesses).copies u l ≡ copy_after (thread_id u) l (thread_id t) accesses (has_copy_of copies u l)
  all_after u exists l copies [] inside = refl
  all_after u exists l copies (a ∷ rest) inside =
      all_after u exists l (copies_after n t a copies) rest (inside_after copies a rest inside.1)
      ∙ ap (copy_after (thread_id u) l (thread_id t) rest) (copy_after_lem n t copies below few a inside.0 u exists l)

  -- so the marks by the copies of a state are what the copies before the accesses say
  pub remote_marks_lem : (copies : List ℕ) (accesses : List Access) → Each (Inside copies) accesses
      → remote_marks CcSynch n t copies accesses ≡ remote_said (thread_id t) (λ l. has_copy_of copies t l) accesses
  remote_marks_lem copies [] inside = refl
  remote_marks_lem copies (a ∷ rest) inside =
      ap (λ (marks : List Bool). not (has_copy_of copies t (located a)) ∷ marks)
      (remote_marks_lem (copies_after n t a copies) rest (inside_after copies a rest inside.1)
      ∙ said_same (thread_id t) _ _ rest (λ l. copy_after_lem n t copies below few a inside.0 t below l ∙ rw (eq-eqb t t refl)))

-- and by DSM-Synch they are those to none of its own nodes
pub owner_marks : (n t : ℕ) (copies : List ℕ) (accesses : List Access) → remote_marks DsmSynch n t copies accesses ≡ remote_by_owner (thread_id t) accesses
owner_marks n t copies [] = refl
owner_marks n t copies (a ∷ rest) = ap₂ (λ (own : Bool) (marks : List Bool). not own ∷ marks) (owns_two t (located a)) (owner_marks n t copies rest)
