-- The papers' refusal table: its examples 1 to 12 and 15, each with the number that it is given; and document 01's 64-byte file, in both versions.
use Rattle.std.specs.Prelude.{ℕ, List, [], ◌∷◌, ◌++◌, replicate}
use Rattle.machine.specs.declared.Method.{Method}
use Rattle.machine.specs.Methods.{method_number}
use Rattle.bench_file.specs.Layout.{Judgement, accepted, refused_by, judge_of}

-- P of the table, and the same in version 2, up to the method's byte
abbrev pub first_p : List ℕ
first_p = 0x43 ∷ 0x43 ∷ 0x53 ∷ 0x01 ∷ 0x00 ∷ 0x02 ∷ 0x01 ∷ 0x01 ∷ 0x00 ∷ []

abbrev pub second_p : List ℕ
second_p = 0x43 ∷ 0x43 ∷ 0x53 ∷ 0x02 ∷ 0x00 ∷ 0x02 ∷ 0x01 ∷ 0x01 ∷ 0x00 ∷ []

unfoldable pub table : List (ℕ × List ℕ)
table =
    (1, 0x43 ∷ 0x43 ∷ [])
    ∷ (2, 0x43 ∷ 0x43 ∷ 0x54 ∷ [])
    ∷ (3, 0x43 ∷ 0x43 ∷ 0x53 ∷ 0x03 ∷ 0x00 ∷ [])
    ∷ (4, 0x43 ∷ 0x43 ∷ 0x53 ∷ 0x01 ∷ 0x00 ∷ 0x03 ∷ [])
    ∷ (5, 0x43 ∷ 0x43 ∷ 0x53 ∷ 0x01 ∷ 0x00 ∷ 0x02 ∷ 0x00 ∷ [])
    ∷ (6, 0x43 ∷ 0x43 ∷ 0x53 ∷ 0x01 ∷ 0x00 ∷ 0x02 ∷ 0x01 ∷ 0x00 ∷ [])
    ∷ (7, 0x43 ∷ 0x43 ∷ 0x53 ∷ 0x01 ∷ 0x00 ∷ 0x02 ∷ 0x01 ∷ 0x01 ∷ 0x05 ∷ [])
    ∷ (8, first_p ++ 0x11 ∷ [])
    ∷ (9, first_p ++ 0x01 ∷ 0x01 ∷ [])
    ∷ (10, first_p ++ 0x00 ∷ 0x01 ∷ 0x80 ∷ [])
    ∷ (11, first_p ++ 0x00 ∷ 0x01 ∷ 0x00 ∷ 0x01 ∷ [])
    ∷ (12, first_p ++ 0x00 ∷ 0x00 ∷ 0x00 ∷ 0xFF ∷ [])
    ∷ (15, second_p ++ 0x02 ∷ [])
    ∷ []

-- what the table's words decide beside its examples: a mark is one field; a request is two fields, code and value; an entry is a field of
-- its own; a take's value is judged where it is whole; a version is two bytes; the method's byte stands between the capacity and the rows
unfoldable pub decided : List (ℕ × List ℕ)
decided =
    (1, 0xFF ∷ 0xFF ∷ [])
    ∷ (1, first_p ++ 0x01 ∷ 0x02 ∷ [])
    ∷ (11, first_p ++ 0x00 ∷ 0x02 ∷ 0x00 ∷ 0x01 ∷ [])
    ∷ (9, 0x43 ∷ 0x43 ∷ 0x53 ∷ 0x01 ∷ 0x00 ∷ 0x00 ∷ 0x01 ∷ 0x01 ∷ 0x01 ∷ 0x01 ∷ 0x01 ∷ 0x00 ∷ 0x00 ∷ 0x00 ∷ 0x01 ∷ [])
    ∷ (1, 0x43 ∷ 0x43 ∷ 0x53 ∷ 0x02 ∷ 0x00 ∷ [])
    ∷ (3, 0x43 ∷ 0x43 ∷ 0x53 ∷ 0x00 ∷ 0x00 ∷ [])
    ∷ (3, 0x43 ∷ 0x43 ∷ 0x53 ∷ 0x01 ∷ 0x01 ∷ [])
    ∷ (1, second_p)
    ∷ (15, second_p ++ 0x02 ∷ 0x00 ∷ 0x00 ∷ 0x00 ∷ [])
    ∷ (1, second_p ++ 0x01 ∷ [])
    ∷ (0, second_p ++ 0x01 ∷ 0x00 ∷ 0x00 ∷ 0x00 ∷ [])
    ∷ (12, second_p ++ 0x01 ∷ 0x00 ∷ 0x00 ∷ 0x00 ∷ 0x00 ∷ [])
    ∷ (7, 0x43 ∷ 0x43 ∷ 0x53 ∷ 0x02 ∷ 0x00 ∷ 0x02 ∷ 0x01 ∷ 0x01 ∷ 0x05 ∷ [])
    ∷ (7, 0x43 ∷ 0x43 ∷ 0x53 ∷ 0x02 ∷ 0x00 ∷ 0x02 ∷ 0x01 ∷ 0x01 ∷ 0x05 ∷ 0xFF ∷ [])
    ∷ []

-- the file of 'The record of a call': two adds, then 42 entries
abbrev pub two_adds : List ℕ
two_adds =
    (0x02 ∷ 0x02 ∷ 0x05 ∷ 0x00 ∷ 0x00 ∷ 0x00 ∷ 0x02 ∷ 0x07 ∷ 0x00 ∷ 0x00 ∷ 0x00 ∷ 0x2A ∷ 0x00 ∷ [])
    ++ replicate 42 0

unfoldable pub sixty_four : List ℕ
sixty_four = first_p ++ two_adds

-- the same in version 2, by a method
unfoldable pub sixty_five : Method → List ℕ
sixty_five method = second_p ++ method_number method ∷ two_adds

-- the refusal, 0 where the file is accepted
abbrev pub refusal_of : Judgement → ℕ
refusal_of (accepted f) = 0
refusal_of (refused_by refusal) = refusal

abbrev pub judged_row : ℕ × List ℕ → ℕ
judged_row row = refusal_of (judge_of row.1)

abbrev pub tabled_row : ℕ × List ℕ → ℕ
tabled_row row = row.0
