-- Whole pages: of document 01's 64-byte file, of it cut to 20 entries (served and still open), to 5 and to 4, of a queue that gives every answer, of a stack
-- with request No. 3's counts, of two threads with h = 8 and h = 1, and of three threads of DSM-Synch; and the widest row.
use Rattle.std.specs.Prelude.{ℕ, true, List, [], ◌∷◌, ◌++◌, Some}
use Rattle.object.specs.declared.Answer.TheVariants.{Value}
use Rattle.cells.specs.Text.{text}
use Rattle.cells.specs.Cells.{Row}

abbrev pub head_page : List ℕ
head_page = text "no  th rq ans   value      by turn  remote     state   \n"

unfoldable pub example_pages : List (List ℕ)
example_pages =
    (head_page
    ++ text "  0  0  0 value          0  0     0          3 returned\n"
    ++ text "  1  0  1 value          5  0     1          0 returned\n")
    ∷ (head_page ++ text "  0  0  0 value          0  0     0          3 open    \n")
    ∷ (head_page ++ text "  0  0  0 none  -          -  -              2 open    \n")
    ∷ head_page
    ∷ (head_page
    ++ text "  0  0  0 done           1  0     0          3 returned\n"
    ++ text "  1  0  1 full  -           0     1          0 returned\n"
    ++ text "  2  0  2 value          3  0     2          0 returned\n"
    ++ text "  3  0  3 empty -           0     3          0 returned\n")
    ∷ (head_page
    ++ text "  0  0  0 done           1  0     0          3 returned\n"
    ++ text "  1  0  1 done           2  0     1          0 returned\n"
    ++ text "  2  0  2 full  -           0     2          0 returned\n"
    ++ text "  3  0  3 value          8  0     3          0 returned\n"
    ++ text "  4  0  4 done           2  0     4          0 returned\n"
    ++ text "  5  0  5 value          6  0     5          0 returned\n"
    ++ text "  6  0  6 value          9  0     6          0 returned\n"
    ++ text "  7  0  7 empty -           0     7          0 returned\n")
    ∷ (head_page
    ++ text "  0  0  0 done           1  0     0          5 returned\n"
    ++ text "  1  1  0 value          7  0     0          4 returned\n")
    ∷ (head_page
    ++ text "  0  0  0 done           1  0     0          4 returned\n"
    ++ text "  1  1  0 value          7  1     1          4 returned\n")
    ∷ (head_page
    ++ text "  0  0  0 value          0  0     0         13 returned\n"
    ++ text "  1  1  0 value          1  0     0          2 returned\n"
    ++ text "  2  2  0 value         11  2     1          3 returned\n")
    ∷ []

-- every number as large as a result can have it
abbrev pub widest : Row
widest = record {
  order = 255;
  thread = 15;
  request = 15;
  ret = Some (Value 4_294_967_295);
  server = 15;
  turn = 65_534;
  remote = 4_294_967_295;
  returned = true;
}

unfoldable pub widest_row : List ℕ
widest_row = text "255 15 15 value 4294967295 15 65534 4294967295 returned\n"
