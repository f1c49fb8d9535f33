-- Text as bytes: words, numbers in decimal, lines of words, and texts one behind the other.
use Rattle.std.specs.Prelude.{ℕ, zero, suc, ◌+◌, ◌-◌, ◌/◌, ◌%◌, cond, List, [], ◌∷◌, ◌++◌, length, replicate, ltb}
use Prim.Native.Char.{code}
use Prim.Native.String.{String, [] as nothing, ◌∷◌ as ◌then◌}

-- the codes of a text, which are its bytes where it is ASCII
abbrev pub text : String → List ℕ
text nothing = []
text (c then s) = code c ∷ text s

-- one digit
abbrev pub digit : ℕ → List ℕ
digit d = (48 + d) ∷ []

-- the digits of a number, the highest first and without leading zeros: a last digit, and at most so many before it
unfoldable pub digits : ℕ → ℕ → List ℕ
digits zero n = digit n
digits (suc before) n = cond (ltb n 10) (digit n) (digits before (n / 10) ++ digit (n % 10))

-- a number in decimal: ten digits hold every number of 32 bits
abbrev pub decimal : ℕ → List ℕ
decimal n = digits 9 n

-- so many spaces
abbrev pub spaces : ℕ → List ℕ
spaces count = replicate count 32

-- a text in a column of a width, left and right; one that is wider stays whole
abbrev pub left : ℕ → List ℕ → List ℕ
left width words = words ++ spaces (width - length words)

abbrev pub right : ℕ → List ℕ → List ℕ
right width words = spaces (width - length words) ++ words

-- the rest of a line: each word behind one space, then a newline
abbrev pub line_end : List (List ℕ) → List ℕ
line_end [] = text "\n"
line_end (word ∷ words) = text " " ++ (word ++ line_end words)

-- a line of words
abbrev pub text_line : List (List ℕ) → List ℕ
text_line [] = line_end []
text_line (word ∷ words) = word ++ line_end words

-- texts one behind the other, each with its number from a first on
unfoldable pub numbered : {A : Type 0} → (ℕ → A → List ℕ) → ℕ → List A → List ℕ
numbered shown i [] = []
numbered shown i (a ∷ l) = shown i a ++ numbered shown (suc i) l
