-- What `apply` does to the object's storage, every place of it, and what that storage holds as a plain object.
use Rattle.std.specs.Prelude.{◌≡◌, ℕ, ◌+◌, ◌-◌, ◌%◌, ◌^◌, Bool, cond, ◌&&◌, T, List, ◌++◌, take, drop, replicate, ◌==◌, nat_le, nat_lt, slice_index, slice_set, Result, Ok, Err}
use Rattle.object.specs.declared.Kind.{Kind}
use Rattle.object.specs.declared.Kind.TheVariants.{Queue, Stack, Counter}
use Rattle.object.specs.declared.Request.{Request}
use Rattle.object.specs.declared.Request.TheVariants.{Put, Take, Add}
use Rattle.object.specs.declared.Answer.{Answer}
use Rattle.object.specs.declared.Answer.TheVariants.{Done, Value, Empty, Full}
use Rattle.object.specs.declared.Object.{Object}
use Rattle.refusal.specs.declared.Refusal.{Refusal}
use Rattle.refusal.specs.Numbers.{number}
use Rattle.object.specs.Paper.{request_code, code_known, capacity_allowed, answer_in_range}
use Rattle.object.specs.Plain.{Plain, plain_step}

-- what the storage holds: the first `held` places, and the sum
abbrev pub contents : Object → Plain
contents ob = record { values = take ob.held ob.items; sum = ob.sum }

-- at first no place is used and the sum is 0
abbrev pub fresh_object : Object
fresh_object = record { items = replicate 64 0; held = 0; sum = 0 }

-- a capacity that the object allows, and items held 0 to the capacity
abbrev pub held_in_range : Kind → ℕ → ℕ → Bool
held_in_range kind capacity held = capacity_allowed kind capacity && nat_le held capacity

abbrev pub object_in_range : Kind → ℕ → Object → Bool
object_in_range kind capacity ob = held_in_range kind capacity ob.held

-- a request that the object knows
abbrev pub knows : Kind → Request → Bool
knows kind request = code_known kind (request_code request)

-- what a request does: refusal 0, the answer and the object after it, or the number of a refusal
pub record Applied : Type 0 where
  pub refusal : ℕ
  pub answer : Answer
  pub object : Object

-- an answer, and the object after it
abbrev pub answered : Answer → Object → Applied
answered answer ob = record { refusal = 0; answer = answer; object = ob }

-- a refusal has its number, and the object as it was; its answer means nothing
abbrev pub refused_with : ℕ → Object → Applied
refused_with number ob = record { refusal = number; answer = Empty; object = ob }

-- the number and the values of what `apply` returns for an object
abbrev pub as_applied : Object → Result (Answer × Object) Refusal → Applied
as_applied ob (Ok done) = answered done.0 done.1
as_applied ob (Err refusal) = refused_with (number refusal) ob

abbrev pub stored : Object → List ℕ → ℕ → Object
stored ob items held = record { items = items; held = held; sum = ob.sum }

-- the first `held` places moved down by one: the place that falls free keeps its value
abbrev pub moved_down : List ℕ → ℕ → List ℕ
moved_down items held = drop 1 (take held items) ++ drop (held - 1) items

-- a put writes the first place past the items held, and is answered how many are held then
abbrev pub put_of : ℕ → ℕ → Object → Applied
put_of capacity v ob =
    cond (nat_lt ob.held capacity)
    (answered (Done (ob.held + 1)) (stored ob (slice_set ob.items ob.held v) (ob.held + 1)))
    (answered Full ob)

abbrev pub take_first_of : Object → Applied
take_first_of ob =
    cond (ob.held == 0)
    (answered Empty ob)
    (answered (Value (slice_index ob.items 0)) (stored ob (moved_down ob.items ob.held) (ob.held - 1)))

-- the place that falls free keeps its value
abbrev pub take_last_of : Object → Applied
take_last_of ob =
    cond (ob.held == 0)
    (answered Empty ob)
    (answered (Value (slice_index ob.items (ob.held - 1))) (stored ob ob.items (ob.held - 1)))

abbrev pub add_of : ℕ → Object → Applied
add_of v ob =
    answered (Value ob.sum) (record { items = ob.items; held = ob.held; sum = (ob.sum + v) % 2 ^ 32 })

-- the queue gives up its first value, the stack its last; the counter doesn't know take, which is 9
abbrev pub take_of : Kind → Object → Applied
take_of Queue ob = take_first_of ob
take_of Stack ob = take_last_of ob
take_of Counter ob = refused_with 9 ob

-- what each request does to an object that knows it
abbrev pub applied_known : Kind → ℕ → Request → Object → Applied
applied_known kind capacity (Put v) ob = put_of capacity v ob
applied_known kind capacity Take ob = take_of kind ob
applied_known kind capacity (Add v) ob = add_of v ob

-- a request that the object doesn't know is 9
abbrev pub applied_to : Kind → ℕ → Request → Object → Applied
applied_to kind capacity request ob =
    cond (knows kind request) (applied_known kind capacity request ob) (refused_with 9 ob)

-- a capacity or items held outside their range are 14, before the request is looked at
abbrev pub apply_of : Kind → ℕ → Object → Request → Applied
apply_of kind capacity ob request =
    cond (object_in_range kind capacity ob) (applied_to kind capacity request ob) (refused_with 14 ob)

-- a done put tells the count of items held
abbrev pub TellsHeld : Answer → ℕ → Type 0
TellsHeld (Done count) held = count ≡ held
TellsHeld (Value v) held = Unit
TellsHeld Empty held = Unit
TellsHeld Full held = Unit

-- a request that the object knows, on an object in range, is never refused; its answer and what the storage then holds are the plain object's. An object in
-- range stays so. Every answer is in range, and a done one tells how many items are then held
pub record AppliesPlainly (kind : Kind) (capacity : ℕ) (ob : Object) (request : Request) (r : Applied) : Type 0 where
  pub accepted : T (object_in_range kind capacity ob) → T (knows kind request) → r.refusal ≡ 0
  pub plain : T (object_in_range kind capacity ob) → T (knows kind request)
      → plain_step kind capacity request (contents ob) ≡ record { answer = r.answer; after = contents r.object }
  pub stays : T (object_in_range kind capacity ob) → T (object_in_range kind capacity r.object)
  pub in_range : T (answer_in_range capacity r.answer)
  pub tells : TellsHeld r.answer r.object.held
