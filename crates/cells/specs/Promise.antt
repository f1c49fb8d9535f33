-- What the services that print promise: their answer and every byte of the lent buffer, for a text that is to be given.
use Rattle.std.specs.Prelude.{ℕ, ◌≡◌, cond, List, [], ◌∷◌, ◌++◌, length, drop, leb, Result, Ok, Err}
use Rattle.refusal.specs.declared.Refusal.{Refusal}
use Rattle.refusal.specs.Numbers.{number}
use Rattle.cells.specs.Text.{text, decimal, text_line}

-- an answer in document 01's numbers: refusal 0 and the length of the text, or a refusal
pub record Printed : Type 0 where
  pub refusal : ℕ
  pub length : ℕ

-- a refusal, which has no length
abbrev pub refused_as : ℕ → Printed
refused_as number = record { refusal = number; length = 0 }

abbrev pub as_printed : Result ℕ Refusal → Printed
as_printed (Ok count) = record { refusal = 0; length = count }
as_printed (Err refusal) = refused_as (number refusal)

-- refusal 0 and the length of the text, or 13 where the buffer is too short
abbrev pub printed_as : ℕ → List ℕ → Printed
printed_as size words = cond (leb (length words) size) (record { refusal = 0; length = length words }) (refused_as 13)

-- the text stands from the buffer's first byte on and later bytes are as they were, or all is as it was
abbrev pub buffer_after : List ℕ → List ℕ → List ℕ
buffer_after words old = cond (leb (length words) (length old)) (words ++ drop (length words) old) old

-- a text is given in a lent buffer
pub record Gives (words old new : List ℕ) (r : Printed) : Type 0 where
  pub answer : r ≡ printed_as (length old) words
  pub buffer : new ≡ buffer_after words old

-- `refused N`
unfoldable pub refusal_line : ℕ → List ℕ
refusal_line number = text_line (text "refused" ∷ decimal number ∷ [])
