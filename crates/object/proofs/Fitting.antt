-- Where the values of the requests and the capacity fit 32 bits, the plain object's answers are in range and their values fit. Assumes nothing.
use Rattle.std.proofs.Common.{◌≡◌, ℕ, ◌-◌, ◌^◌, ◌<◌, true, eqb, ltb, List, [], ◌∷◌, ◌++◌, length, get_or, refl, arith}
use Rattle.object.specs.declared.Kind.{Kind}
use Rattle.object.specs.declared.Kind.TheVariants.{Queue, Stack, Counter}
use Rattle.object.specs.declared.Request.{Request}
use Rattle.object.specs.declared.Request.TheVariants.{Put, Take, Add}
use Rattle.object.specs.declared.Answer.{Answer}
use Rattle.object.specs.declared.Answer.TheVariants.{Done, Value, Empty}
use Rattle.object.specs.Each.{Each}
use Rattle.object.specs.Paper.{request_value, answer_value, answer_in_range}
use Rattle.object.specs.Plain.{Plain, Response, fresh, holding, respond, plain_step, plain_put, plain_take_first, plain_take_last, plain_add, answers_from}
use Rattle.object.proofs.Choice.{either}
use Rattle.object.proofs.Counting.{put_in_range}
use Rattle.object.proofs.Each.{each_append, each_take, each_drop, each_get_or_default}
use Rattle.object.proofs.Within.{within_range}

abbrev Fits : ℕ → Type 0
Fits v = v < 2 ^ 32

-- every value that the plain object holds fits, and so does its sum
record HoldsFitting (p : Plain) : Type 0 where
  values : Each Fits p.values
  sum : Fits p.sum

-- an answer in range whose value fits
pub record AnswerFits (capacity : ℕ) (a : Answer) : Type 0 where
  pub value : answer_value a < 2 ^ 32
  pub in_range : answer_in_range capacity a ≡ true

-- the answer is such a one, and what is held afterwards fits
record Responds (capacity : ℕ) (r : Response) : Type 0 where
  answer : AnswerFits capacity r.answer
  after : HoldsFitting r.after

module _ (capacity : ℕ) (small : Fits capacity) (p : Plain) (h : HoldsFitting p) where
  value_fits : (i : ℕ) → Fits (get_or p.values i 0)
  value_fits i = each_get_or_default Fits p.values i 0 h.values (omega arith)

  changed : (a : Answer) (values : List ℕ) → AnswerFits capacity a → Each Fits values → Responds capacity (respond a (holding p values))
  changed a values f e = record { answer = f; after = record { values = e; sum = h.sum } }

  value_given : (v : ℕ) → Fits v → AnswerFits capacity (Value v)
  value_given v f = record { value = f; in_range = refl }

  empty_fits : Responds capacity (respond Empty p)
  empty_fits = record { answer = record { value = omega arith; in_range = refl }; after = h }

  put_fits : (v : ℕ) → Fits v → Responds capacity (plain_put capacity v p)
  put_fits v f =
      either (Responds capacity) (ltb (length p.values) capacity)
      (λ t.
      let count = length (p.values ++ v ∷ []) in
      let good : answer_in_range capacity (Done count) ≡ true = rw t at (put_in_range capacity v p) in
      let fits : Fits count = omega (arith, ((within_range _ count capacity).0 good).1) in
      changed (Done count) _ (record { value = fits; in_range = good })
      (each_append Fits p.values (v ∷ []) h.values (f, tt)))
      (λ t. record { answer = record { value = omega arith; in_range = refl }; after = h })

  first_fits : Responds capacity (plain_take_first p)
  first_fits =
      either (Responds capacity) (eqb (length p.values) 0) (λ t. empty_fits)
      (λ t. changed (Value _) _ (value_given _ (value_fits 0)) (each_drop Fits 1 p.values h.values))

  last_fits : Responds capacity (plain_take_last p)
  last_fits =
      let last = length p.values - 1 in
      either (Responds capacity) (eqb (length p.values) 0) (λ t. empty_fits)
      (λ t. changed (Value _) _ (value_given _ (value_fits last)) (each_take Fits last p.values h.values))

  add_fits : (v : ℕ) → Responds capacity (plain_add v p)
  add_fits v = record { answer = value_given _ h.sum; after = record { values = h.values; sum = omega arith } }

  step_fits : (kind : Kind) (r : Request) → Fits (request_value r) → Responds capacity (plain_step kind capacity r p)
  step_fits Queue (Put v) f = put_fits v f
  step_fits Queue Take f = first_fits
  step_fits Queue (Add v) f = empty_fits
  step_fits Stack (Put v) f = put_fits v f
  step_fits Stack Take f = last_fits
  step_fits Stack (Add v) f = empty_fits
  step_fits Counter (Put v) f = empty_fits
  step_fits Counter Take f = empty_fits
  step_fits Counter (Add v) f = add_fits v

module _ (kind : Kind) (capacity : ℕ) (small : capacity < 2 ^ 32) where
  fits_from : (p : Plain) → HoldsFitting p → (requests : List Request) → Each (λ (r : Request). Fits (request_value r)) requests
      → Each (AnswerFits capacity) (answers_from kind capacity p requests)
  unfolding answers_from
  fits_from p h [] e = tt
  fits_from p h (r ∷ requests) e =
      let s = step_fits capacity small p h kind r e.0 in
      (s.answer, fits_from (plain_step kind capacity r p).after s.after requests e.1)

  pub answers_fit : (requests : List Request) → Each (λ (r : Request). request_value r < 2 ^ 32) requests
      → Each (AnswerFits capacity) (answers_from kind capacity fresh requests)
  answers_fit requests e = fits_from fresh (record { values = tt; sum = omega arith }) requests e
