-- Reading bytes front to back: a reader takes what it wants from the front of a list, or refuses with a number of document 01's table.
use Rattle.std.specs.Prelude.{ℕ, zero, suc, ◌+◌, ◌*◌, Bool, true, false, List, [], ◌∷◌}
use Rattle.object.specs.Paper.{within}

infixl 20 ◌>>=◌
infixl 20 ◌>>◌
pub data Outcome (A : Type 0) : Type 0 where
  refused : ℕ → Outcome A
  read : A → List ℕ → Outcome A

abbrev pub Reader : Type 0 → Type 0
Reader A = List ℕ → Outcome A

-- what is read next, after a value and at what it left; a refusal ends the reading
abbrev pub after : {A B : Type 0} → Outcome A → (A → Reader B) → Outcome B
after (refused number) next = refused number
after (read value rest) next = next value rest

abbrev pub ◌>>=◌ : {A B : Type 0} → Reader A → (A → Reader B) → Reader B
◌>>=◌ reader next bytes = after (reader bytes) next

abbrev pub ◌>>◌ : {A B : Type 0} → Reader A → Reader B → Reader B
◌>>◌ reader next bytes = after (reader bytes) (λ _. next)

abbrev pub done : {A : Type 0} → A → Reader A
done value bytes = read value bytes

-- a field's own rule, with the number that is given where it is broken
abbrev pub rule : ℕ → Bool → Reader Unit
rule number true bytes = read tt bytes
rule number false bytes = refused number

-- rules in a row, each a refusal and its test
abbrev pub rules : List (ℕ × Bool) → Reader Unit
rules [] bytes = read tt bytes
rules (r ∷ more) bytes = after (rule r.0 r.1 bytes) (λ _. rules more)

-- the bytes of one field; 1 where the field is cut off by the end
unfoldable pub field : ℕ → Reader (List ℕ)
field zero bytes = read [] bytes
field (suc width) [] = refused 1
field (suc width) (b ∷ bytes) = after (field width bytes) (λ bs rest. read (b ∷ bs) rest)

-- a number of little-endian bytes
unfoldable pub little_endian : List ℕ → ℕ
little_endian [] = 0
little_endian (b ∷ bs) = b + 256 * little_endian bs

abbrev pub number : ℕ → Reader ℕ
number width = field width >>= λ bs. done (little_endian bs)

-- a field of one byte
unfoldable pub byte : Reader ℕ
byte [] = refused 1
byte (b ∷ bytes) = read b bytes

-- a field of one byte with its own rule
unfoldable pub ruled_byte : ℕ → (ℕ → Bool) → Reader ℕ
ruled_byte refusal test = do
  b ← byte
  rule refusal (test b)
  done b

-- a field of one byte with its range, both ends included, and the refusal outside it
abbrev pub ranged : ℕ → ℕ → ℕ → Reader ℕ
ranged refusal least most = ruled_byte refusal (λ b. within least b most)

-- so many of a kind, one after the other
unfoldable pub several : {A : Type 0} → ℕ → Reader A → Reader (List A)
several zero reader bytes = read [] bytes
several (suc count) reader bytes =
    after (reader bytes) (λ value rest. after (several count reader rest) (λ values left. read (value ∷ values) left))

-- nothing is left; 12 where bytes follow
unfoldable pub end : Reader Unit
end [] = read tt []
end (b ∷ bytes) = refused 12
