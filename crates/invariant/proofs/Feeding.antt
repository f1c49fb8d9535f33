-- The plain object fed requests one after the other: its answers to the first of them, and to those that follow. Assumes nothing.
use Prim.Native.Nat.{ℕ, zero, suc, ◌<◌}
use mathlib.Core.Path.{◌≡◌, refl, ap}
use mathlib.Core.List.{List, [], ◌∷◌, ◌++◌}
use lib.ListN.{length, get_or, take}
use lib.Seq.{take-suc}
use Rattle.object.specs.declared.Kind.{Kind}
use Rattle.object.specs.declared.Request.{Request}
use Rattle.object.specs.declared.Answer.{Answer}
use Rattle.object.specs.Plain.{Plain, plain_step, answers_from}
use Rattle.invariant.specs.Serving.{plain_after}

module _ (kind : Kind) (capacity : ℕ) where
  -- the first answers are those to the first requests
  pub answers_take : (p : Plain) (k : ℕ) (jobs : List Request)
      → take k (answers_from kind capacity p jobs) ≡ answers_from kind capacity p (take k jobs)
  unfolding answers_from
  answers_take p zero jobs = refl
  answers_take p (suc k) [] = refl
  answers_take p (suc k) (job ∷ jobs) =
      let r = plain_step kind capacity job p in
      ap (λ (rest : List Answer). r.answer ∷ rest) (answers_take r.after k jobs)

  -- what is fed later finds the object as the earlier requests left it
  answers_append : (p : Plain) (jobs more : List Request)
      → answers_from kind capacity p (jobs ++ more) ≡ answers_from kind capacity p jobs ++ answers_from kind capacity (plain_after kind capacity p jobs) more
  unfolding answers_from plain_after
  answers_append p [] more = refl
  answers_append p (job ∷ jobs) more =
      let r = plain_step kind capacity job p in
      ap (λ (rest : List Answer). r.answer ∷ rest) (answers_append r.after jobs more)

  after_append : (p : Plain) (jobs more : List Request)
      → plain_after kind capacity p (jobs ++ more) ≡ plain_after kind capacity (plain_after kind capacity p jobs) more
  unfolding plain_after
  after_append p [] more = refl
  after_append p (job ∷ jobs) more = after_append (plain_step kind capacity job p).after jobs more

  -- one request more
  pub answers_next : (p : Plain) (k : ℕ) (jobs : List Request) (d : Request) → k < length jobs
      → answers_from kind capacity p (take (suc k) jobs)
      ≡ answers_from kind capacity p (take k jobs) ++ (plain_step kind capacity (get_or jobs k d) (plain_after kind capacity p (take k jobs))).answer ∷ []
  unfolding answers_from
  answers_next p k jobs d h = rw (take-suc jobs k d h) (answers_append p (take k jobs) (get_or jobs k d ∷ []))

  pub after_next : (p : Plain) (k : ℕ) (jobs : List Request) (d : Request) → k < length jobs
      → plain_after kind capacity p (take (suc k) jobs) ≡ (plain_step kind capacity (get_or jobs k d) (plain_after kind capacity p (take k jobs))).after
  unfolding plain_after
  after_next p k jobs d h = rw (take-suc jobs k d h) (after_append p (take k jobs) (get_or jobs k d ∷ []))
