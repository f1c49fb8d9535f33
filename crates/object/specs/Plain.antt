-- The plain object of document 01, 'Demand 3 in full', with the count of request No. 3: what a request is answered, on lists and a sum.
use Rattle.std.specs.Prelude.{ℕ, ◌+◌, ◌-◌, ◌%◌, cond, List, [], ◌∷◌, ◌++◌, length, take, drop, ◌==◌, nat_lt, slice_index}
use Rattle.object.specs.declared.Kind.{Kind}
use Rattle.object.specs.declared.Kind.TheVariants.{Queue, Stack, Counter}
use Rattle.object.specs.declared.Request.{Request}
use Rattle.object.specs.declared.Request.TheVariants.{Put, Take, Add}
use Rattle.object.specs.declared.Answer.{Answer}
use Rattle.object.specs.declared.Answer.TheVariants.{Done, Value, Empty, Full}

-- what the plain object holds: queue and stack a list of values, the counter a sum
pub record Plain : Type 0 where
  pub values : List ℕ
  pub sum : ℕ

-- an answer, and what the plain object holds afterwards
pub record Response : Type 0 where
  pub answer : Answer
  pub after : Plain

-- at first the list is empty and the sum 0
abbrev pub fresh : Plain
fresh = record { values = []; sum = 0 }

abbrev pub holding : Plain → List ℕ → Plain
holding p values = record { values = values; sum = p.sum }

abbrev pub respond : Answer → Plain → Response
respond answer after = record { answer = answer; after = after }

-- a put on a list shorter than the capacity adds its value at the end: done, with the count of values then held; at capacity: full, the list stays
abbrev pub plain_put : ℕ → ℕ → Plain → Response
plain_put capacity v p =
    let longer = p.values ++ v ∷ [] in
    cond (nat_lt (length p.values) capacity)
    (respond (Done (length longer)) (holding p longer))
    (respond Full p)

-- a take from an empty list: empty, it stays; else the queue gives up its first value
abbrev pub plain_take_first : Plain → Response
plain_take_first p =
    cond (length p.values == 0)
    (respond Empty p)
    (respond (Value (slice_index p.values 0)) (holding p (drop 1 p.values)))

-- and the stack its last
abbrev pub plain_take_last : Plain → Response
plain_take_last p =
    cond (length p.values == 0)
    (respond Empty p)
    (respond (Value (slice_index p.values (length p.values - 1)))
    (holding p (take (length p.values - 1) p.values)))

-- an add answers the sum, then adds its value to it, modulo 4,294,967,296
abbrev pub plain_add : ℕ → Plain → Response
plain_add v p =
    respond (Value p.sum) (record { values = p.values; sum = (p.sum + v) % 4_294_967_296 })

-- the plain object of a kind and a capacity, fed one request. One that the object doesn't know, which no accepted file has, changes nothing
abbrev pub plain_step : Kind → ℕ → Request → Plain → Response
plain_step Queue capacity (Put v) p = plain_put capacity v p
plain_step Queue capacity Take p = plain_take_first p
plain_step Queue capacity (Add v) p = respond Empty p
plain_step Stack capacity (Put v) p = plain_put capacity v p
plain_step Stack capacity Take p = plain_take_last p
plain_step Stack capacity (Add v) p = respond Empty p
plain_step Counter capacity (Put v) p = respond Empty p
plain_step Counter capacity Take p = respond Empty p
plain_step Counter capacity (Add v) p = plain_add v p

-- the answers to requests that are fed one after the other, from what the object holds
unfoldable pub answers_from : Kind → ℕ → Plain → List Request → List Answer
answers_from kind capacity p [] = []
answers_from kind capacity p (request ∷ requests) =
    let r = plain_step kind capacity request p in
    r.answer ∷ answers_from kind capacity r.after requests
