-- What both methods keep of the object: it is fed the requests in Swap order, one after the other.
use Rattle.std.specs.Prelude.{ℕ, ◌-◌, ◌≡◌, Bool, true, cond, List, [], ◌∷◌, ◌++◌, length, take}
use Rattle.object.specs.declared.Kind.{Kind}
use Rattle.object.specs.declared.Request.{Request}
use Rattle.object.specs.declared.Answer.{Answer}
use Rattle.object.specs.declared.Object.{Object}
use Rattle.object.specs.Plain.{Plain, fresh, plain_step, answers_from}
use Rattle.object.specs.Apply.{contents, object_in_range}
use Rattle.invariant.specs.View.{View}

-- what the plain object holds after requests that are fed one after the other; `answers_from` gives the answers
unfoldable pub plain_after : Kind → ℕ → Plain → List Request → Plain
plain_after kind capacity p [] = p
plain_after kind capacity p (request ∷ requests) = plain_after kind capacity (plain_step kind capacity request p).after requests

-- the request of the call that thread t has begun last; requests t i is request i of thread t
abbrev pub open_request : (ℕ → ℕ → Request) → View → ℕ → Request
open_request requests v t = requests t ((v.thread t).begun - 1)

-- a list with one more at its end, if a test holds
abbrev pub grown : {A : Type 0} → Bool → List A → A → List A
grown test xs x = cond test (xs ++ x ∷ []) xs

-- the first a of the jobs are applied: the answers to them, and what the object holds, are the plain object's
pub record Fed (kind : Kind) (capacity : ℕ) (jobs : List Request) (answers : List Answer) (a : ℕ) (ob : Object) : Type 0 where
  pub applied : length answers ≡ a
  pub plain : answers ≡ answers_from kind capacity fresh (take a jobs)
  pub object : contents ob ≡ plain_after kind capacity fresh (take a jobs)

-- a storage as `apply` takes it
pub record ObjectFits (kind : Kind) (capacity : ℕ) (ob : Object) : Type 0 where
  pub range : object_in_range kind capacity ob ≡ true
  pub places : length ob.items ≡ 64
