-- Valid copies, as document 01 counts remote references: each location has one number of 16 bits, bit i for thread i.
use Rattle.std.specs.Prelude.{ℕ, ◌+◌, ◌*◌, ◌/◌, ◌%◌, ◌^◌, Bool, cond, ◌&&◌, leb, ltb, eqb}

-- the bit of a thread
abbrev pub bit_of : ℕ → ℕ
bit_of t = cond (ltb t 16) (2 ^ t) 0

-- whether a thread has a valid copy of the location whose number is given
abbrev pub has_copy : ℕ → ℕ → Bool
has_copy word t = ltb t 16 && eqb (word / 2 ^ t % 2) 1

-- after a read the thread has a copy
abbrev pub after_read : ℕ → ℕ → ℕ
after_read word t = cond (has_copy word t) word (word + bit_of t)

-- after a write of a thread below n it has a copy, and of the n threads no other has; what lies past n stays
abbrev pub after_write : ℕ → ℕ → ℕ → ℕ
after_write n word t = cond (ltb t n && leb n 16) (word / 2 ^ n * 2 ^ n + 2 ^ t) word
