-- The numbers of the refusals: document 01's table, 15 of request No. 6, 16 of request No. 7.
use Rattle.std.specs.Prelude.{ℕ, Result, Ok, Err}
use Rattle.refusal.specs.declared.Refusal.{Refusal}
use Rattle.refusal.specs.declared.Refusal.TheVariants.{CutOff, Mark, Version, Object, Threads, Bound, Capacity, Count, Request, ScheduleLength, Entry, Trailing, Buffer, OutOfRange, Method, Conversion}

abbrev pub number : Refusal → ℕ
number CutOff = 1
number Mark = 2
number Version = 3
number Object = 4
number Threads = 5
number Bound = 6
number Capacity = 7
number Count = 8
number Request = 9
number ScheduleLength = 10
number Entry = 11
number Trailing = 12
number Buffer = 13
number OutOfRange = 14
number Method = 15
number Conversion = 16

-- the number that an answer gives: 0 where nothing is refused
abbrev pub number_in : {A : Type 0} → Result A Refusal → ℕ
number_in (Ok a) = 0
number_in (Err refusal) = number refusal

-- an answer by its number, which stands for the refusal in the papers
abbrev pub by_number : {A : Type 0} → Result A Refusal → Result A ℕ
by_number (Ok a) = Ok a
by_number (Err refusal) = Err (number refusal)
