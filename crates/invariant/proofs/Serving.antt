-- What both methods keep of requests, answers and the object: lists that grow by one, and the object that is fed the jobs in their order, at the start, when a
-- job more comes in, and when the next is applied. Assumes nothing.
use Prim.Native.Nat.{ℕ, suc, ◌+◌, ◌≤◌, ◌<◌}
use native.Mathlib.Nat.{add-zero}
use native.Mathlib.Numerals.{add-one}
use native.Mathlib.Omega.{arith}
use mathlib.Core.Path.{◌≡◌, refl, ap, ◌∙◌}
use mathlib.Core.Bool.{Bool, true, false}
use mathlib.Core.List.{List, [], ◌∷◌, ◌++◌}
use lib.ListN.{length, get_or, length-append, get_or-append}
use lib.Seq.{take-append-le, get_or_at}
use lib.Ieee.Bits.{is_true}
use borrow.Author.Tests.{le-leb}
use Rattle.std.specs.Prelude.{Option, Some}
use Rattle.object.specs.declared.Kind.{Kind}
use Rattle.object.specs.declared.Request.{Request}
use Rattle.object.specs.declared.Request.TheVariants.{Put}
use Rattle.object.specs.declared.Answer.{Answer}
use Rattle.object.specs.declared.Answer.TheVariants.{Empty}
use Rattle.object.specs.declared.Object.{Object}
use Rattle.object.specs.Plain.{fresh, answers_from}
use Rattle.object.specs.Paper.{capacity_allowed}
use Rattle.object.specs.Apply.{knows, fresh_object}
use Rattle.object.proofs.Plainly.{applies_plainly, places_stay}
use Rattle.object.proofs.Choice.{by_equal, by_test, either}
use Rattle.machine.specs.declared.Event.{Event}
use Rattle.machine.specs.declared.Event.TheVariants.{Applies}
use Rattle.machine.specs.Events.{same_event}
use Rattle.step.specs.Entry.{served_by, applied_at, one_if}
use Rattle.step.proofs.Outcome.{applied_keeps}
use Rattle.invariant.specs.Serving.{plain_after, grown, Fed, ObjectFits}
use Rattle.invariant.proofs.Feeding.{answers_next, after_next}

-- a list that grows by a test: how long it is, and what stands on the places that it had
module _ {A : Type 0} (test : Bool) (xs : List A) (x : A) where
  pub grown_length : length (grown test xs x) ≡ length xs + one_if test
  grown_length = either (λ (l : List A). length l ≡ length xs + one_if test) test (λ e. rw e (length-append xs (x ∷ []))) (λ e. rw e (omega arith))

  pub grown_below : (i : ℕ) (d : A) → i < length xs → get_or (grown test xs x) i d ≡ get_or xs i d
  grown_below i d below = either (λ (l : List A). get_or l i d ≡ get_or xs i d) test (λ _. get_or-append xs (x ∷ []) d i below) (λ _. refl)

-- a field that a line leaves at the node or thread m that it writes, it leaves at every one
pub field_left : {A B : Type 0} (field : B → A) (m : ℕ) {x : B} {nodes nodes' : ℕ → B} → nodes' m ≡ x → ((k : ℕ) → (k ≡ m → ⊥) → nodes' k ≡ nodes k)
    → field x ≡ field (nodes m) → (k : ℕ) → field (nodes' k) ≡ field (nodes k)
field_left field m there elsewhere e k = by_equal k m (λ i. rw i (ap field there ∙ e)) (λ i. ap field (elsewhere k i))

module _ (kind : Kind) (capacity : ℕ) where
  -- at the start nothing is applied
  pub fed_fresh : Fed kind capacity [] [] 0 fresh_object
  unfolding answers_from plain_after
  fed_fresh = record { applied = refl; plain = refl; object = refl }

  pub fits_fresh : capacity_allowed kind capacity ≡ true → ObjectFits kind capacity fresh_object
  fits_fresh allowed = record { range = rw (allowed, le-leb 0 capacity (omega arith)); places = refl }

  -- a storage stays as `apply` takes it, whatever an entry is
  pub fits_kept : {ob : Object} → ObjectFits kind capacity ob → (event : Event) (req : Option Request) → ObjectFits kind capacity (applied_at event kind capacity ob req).object
  fits_kept {ob} fits event req =
      applied_keeps (λ answer ob. ObjectFits kind capacity ob) event kind capacity ob req fits (λ request. record {
        range = is_true _ ((applies_plainly kind capacity ob request fits.places).stays (rw fits.range tt));
        places = places_stay kind capacity ob request fits.places;
      })

module _ {kind : Kind} {capacity : ℕ} {jobs : List Request} {answers : List Answer} {a : ℕ} {ob : Object} (fed : Fed kind capacity jobs answers a ob) where
  -- a job that comes in last is not yet applied
  pub fed_more : a ≤ length jobs → (job : Request) → Fed kind capacity (jobs ++ job ∷ []) answers a ob
  fed_more below job = let first = take-append-le a jobs (job ∷ []) below in record { applied = fed.applied; plain = rw first fed.plain; object = rw first fed.object }

  -- the job after those applied is answered as the plain object does
  pub fed_next : a < length jobs → ObjectFits kind capacity ob → knows kind (get_or jobs a (Put 0)) ≡ true → {req : Option Request} → req ≡ Some (get_or jobs a (Put 0))
      → Fed kind capacity jobs (answers ++ (served_by kind capacity ob req).answer ∷ []) (suc a) (served_by kind capacity ob req).object
  fed_next below fits known asks =
      let job = get_or jobs a (Put 0) in
      let plain = (applies_plainly kind capacity ob job fits.places).plain (rw fits.range tt) (rw known tt) in
      record {
        applied = rw length-append (omega (arith, fed.applied));
        plain = rw (asks, answers_next kind capacity fresh a jobs (Put 0) below, ← fed.plain, ← fed.object, plain);
        object = rw (asks, after_next kind capacity fresh a jobs (Put 0) below, ← fed.object, plain);
      }

  -- the same, where a test or an event tells whether it comes in, or is applied
  pub fed_grown : (test : Bool) → a ≤ length jobs → (job : Request) → Fed kind capacity (grown test jobs job) answers a ob
  fed_grown true below job = fed_more below job
  fed_grown false below job = fed

  pub fed_applied : (event : Event) {req : Option Request} → ObjectFits kind capacity ob
      → (same_event event Applies ≡ true → (a < length jobs) × (knows kind (get_or jobs a (Put 0)) ≡ true) × (req ≡ Some (get_or jobs a (Put 0))))
      → Fed kind capacity jobs (grown (same_event event Applies) answers (applied_at event kind capacity ob req).answer) (a + one_if (same_event event Applies))
      (applied_at event kind capacity ob req).object
  fed_applied event fits next =
      by_test (same_event event Applies)
      (λ e. let f = next e in rw (e, add-one) (fed_next f.0 fits f.1 f.2))
      (λ e. rw (e, add-zero) fed)

  -- a ret that is the answer at its position is so after one more answer: this answer at position a, else as it was
  pub ret_next : (answer : Answer) (i : ℕ) {ret ret' : Option Answer} → (i ≡ a → ret' ≡ Some answer) → ((i ≡ a → ⊥) → ret' ≡ ret)
      → (i < a → ret ≡ Some (get_or answers i Empty)) → i < suc a → ret' ≡ Some (get_or (answers ++ answer ∷ []) i Empty)
  ret_next answer i here else before below =
      by_equal i a
      (λ e. rw (e, get_or_at answers answer [] Empty a fed.applied) (here e))
      (λ e. rw (get_or-append answers (answer ∷ []) Empty i (omega (arith, fed.applied)), else e) (before (omega arith)))
