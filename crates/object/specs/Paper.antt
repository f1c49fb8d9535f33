-- The numbers that document 01 and request No. 3 give to objects, requests and answers, and the ranges that depend on the object and its capacity.
use Rattle.std.specs.Prelude.{ℕ, Bool, true, not, cond, Result, Ok, Err, ◌&&◌, ◌||◌, [], ◌∷◌, ◌==◌, nat_le, slice_index_or}
use Rattle.refusal.specs.declared.Refusal.{Refusal}
use Rattle.refusal.specs.declared.Refusal.TheVariants as Refused
use Rattle.object.specs.declared.Kind.{Kind}
use Rattle.object.specs.declared.Kind.TheVariants.{Queue, Stack, Counter}
use Rattle.object.specs.declared.Request.{Request}
use Rattle.object.specs.declared.Request.TheVariants.{Put, Take, Add}
use Rattle.object.specs.declared.Answer.{Answer}
use Rattle.object.specs.declared.Answer.TheVariants.{Done, Value, Empty, Full}

-- least to most, both included
abbrev pub within : ℕ → ℕ → ℕ → Bool
within least x most = nat_le least x && nat_le x most

-- the object byte of a bench file: 0 queue, 1 stack, 2 counter
abbrev pub kind_number : Kind → ℕ
kind_number Queue = 0
kind_number Stack = 1
kind_number Counter = 2

-- the kind with that number, for a number that is at most 2; a larger one, which 4 refuses, gives the counter
abbrev pub kind_of : ℕ → Kind
kind_of number = slice_index_or (Queue ∷ Stack ∷ []) number Counter

-- the kind that an object byte names; one above 2 is refused
abbrev pub kind_judged : ℕ → Result Kind Refusal
kind_judged number = cond (nat_le number 2) (Ok (kind_of number)) (Err Refused.Object)

-- the code byte of a request: 0 put, 1 take, 2 add
abbrev pub request_code : Request → ℕ
request_code (Put v) = 0
request_code Take = 1
request_code (Add v) = 2

-- the value that a request carries, 0 for take
abbrev pub request_value : Request → ℕ
request_value (Put v) = v
request_value Take = 0
request_value (Add v) = v

-- the request with that code and value, for a code that is at most 2; a larger one, which 9 refuses, gives an add
abbrev pub request_of : ℕ → ℕ → Request
request_of code value = slice_index_or (Put value ∷ Take ∷ []) code (Add value)

-- the mark of an answer, byte 2 of a record
abbrev pub answer_mark : Answer → ℕ
answer_mark (Done count) = 0
answer_mark (Value v) = 1
answer_mark Empty = 2
answer_mark Full = 3

-- the value of an answer, bytes 4 to 7 of a record: the count that a done put carries, or the value; 0 unless the mark is 0 or 1
abbrev pub answer_value : Answer → ℕ
answer_value (Done count) = count
answer_value (Value v) = v
answer_value Empty = 0
answer_value Full = 0

-- a queue and a stack know put and take, codes 0 and 1; a counter knows add, code 2
abbrev pub least_code : Kind → ℕ
least_code Queue = 0
least_code Stack = 0
least_code Counter = 2

abbrev pub most_code : Kind → ℕ
most_code Queue = 1
most_code Stack = 1
most_code Counter = 2

abbrev pub code_known : Kind → ℕ → Bool
code_known kind code = within (least_code kind) code (most_code kind)

-- a request's value may be anything, but 0 for take
abbrev pub value_allowed : ℕ → ℕ → Bool
value_allowed code value = not (code == 1) || value == 0

-- capacity: 1 to 64, but 0 for the counter
abbrev pub least_capacity : Kind → ℕ
least_capacity Queue = 1
least_capacity Stack = 1
least_capacity Counter = 0

abbrev pub most_capacity : Kind → ℕ
most_capacity Queue = 64
most_capacity Stack = 64
most_capacity Counter = 0

abbrev pub capacity_allowed : Kind → ℕ → Bool
capacity_allowed kind capacity = within (least_capacity kind) capacity (most_capacity kind)

-- a done count is 1 to the capacity; full and empty carry none, and a value may be any
abbrev pub answer_in_range : ℕ → Answer → Bool
answer_in_range capacity (Done count) = within 1 count capacity
answer_in_range capacity (Value v) = true
answer_in_range capacity Empty = true
answer_in_range capacity Full = true
