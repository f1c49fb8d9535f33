-- The answers of the plain queue and stack are as full as they tell. Assumes nothing.
use Rattle.std.proofs.Common.{◌≡◌, ℕ, ◌+◌, ◌-◌, ◌≤◌, cond, T, eqb, ltb, List, [], ◌∷◌, length, get_or, refl, arith, length-append, length-drop, length-take-le, ltb-false, ltb-true, eqb-true}
use borrow.Author.Tests.{eqb-false}
use Rattle.object.specs.declared.Kind.{Kind}
use Rattle.object.specs.declared.Kind.TheVariants.{Queue, Stack, Counter}
use Rattle.object.specs.declared.Request.{Request}
use Rattle.object.specs.declared.Request.TheVariants.{Put, Take, Add}
use Rattle.object.specs.declared.Answer.{Answer}
use Rattle.object.specs.declared.Answer.TheVariants.{Value, Empty}
use Rattle.object.specs.Each.{Each}
use Rattle.object.specs.Plain.{Plain, Response, fresh, holding, respond, plain_step, plain_put, answers_from}
use Rattle.object.specs.Apply.{knows}
use Rattle.object.specs.Depth.{DepthsFrom}
use Rattle.object.proofs.Choice.{either}

module _ (capacity : ℕ) where
  -- a response, with so many items held before it: what is held then is within the capacity, and its answer may stand before whatever follows
  record Books (held : ℕ) (r : Response) : Type 0 where
    fits : length r.after.values ≤ capacity
    next : (answers : List Answer) → DepthsFrom capacity (length r.after.values) answers → DepthsFrom capacity held (r.answer ∷ answers)

  module _ (p : Plain) (most : length p.values ≤ capacity) where
    abbrev held : ℕ
    held = length p.values

    put_books : (v : ℕ) → Books held (plain_put capacity v p)
    put_books v =
        either (Books held) (ltb held capacity)
        (λ t.
        let more : held + 1 ≤ capacity = omega (arith, ltb-true held capacity t) in
        record { fits = rw length-append more; next = λ answers d. (omega arith, length-append p.values (v ∷ []), rw length-append at d) })
        (λ t. record { fits = most; next = λ answers d. (omega (arith, ltb-false held capacity t), d) })

    -- what is left has one value fewer
    take_books : (i : ℕ) (values : List ℕ) → length values ≡ held - 1
        → Books held (cond (eqb held 0) (respond Empty p) (respond (Value (get_or p.values i 0)) (holding p values)))
    take_books i values e =
        either (Books held) (eqb held 0)
        (λ t. record { fits = most; next = λ answers d. (eqb-true held 0 t, d) })
        (λ t. record { fits = omega arith; next = λ answers d. (omega (arith, eqb-false held 0 t), rw e at d) })

    step_books : (kind : Kind) (request : Request) → (kind ≡ Counter → ⊥) → T (knows kind request) → Books held (plain_step kind capacity request p)
    step_books Queue (Put v) q k = put_books v
    step_books Queue Take q k = take_books 0 _ (length-drop 1 p.values)
    step_books Queue (Add v) q k = absurd k
    step_books Stack (Put v) q k = put_books v
    step_books Stack Take q k = take_books (held - 1) _ (length-take-le (held - 1) p.values (omega arith))
    step_books Stack (Add v) q k = absurd k
    step_books Counter request q k = absurd (q refl)

  module _ (kind : Kind) (no_counter : kind ≡ Counter → ⊥) where
    depths_from : (p : Plain) → length p.values ≤ capacity → (requests : List Request) → Each (λ (r : Request). T (knows kind r)) requests
        → DepthsFrom capacity (length p.values) (answers_from kind capacity p requests)
    unfolding answers_from
    depths_from p most [] e = tt
    depths_from p most (request ∷ requests) e =
        let b = step_books p most kind request no_counter e.0 in
        let after = (plain_step kind capacity request p).after in
        b.next (answers_from kind capacity after requests) (depths_from after b.fits requests e.1)

    -- from nothing held on
    pub depths : (requests : List Request) → Each (λ (r : Request). T (knows kind r)) requests → DepthsFrom capacity 0 (answers_from kind capacity fresh requests)
    depths = depths_from fresh (omega arith)
