-- Whole listings: of document 01's 64-byte file, with the two fields of request No. 1, of it cut to 20 entries (served and still open) and to 5, of a queue that
-- gives every answer, of a stack with request No. 3's counts, and of two threads; in version 2 of the 64-byte file by both methods, of three threads of DSM-Synch
-- and of a run that meets null; and of no bytes.
use Rattle.std.specs.Prelude.{ℕ, List, [], ◌∷◌, ◌++◌}
use Rattle.cells.specs.Text.{text}

unfoldable pub example_listings : List (List ℕ)
example_listings =
    (text "CCS 1 counter n=1 h=1 calls=2 turns=2 blank=0 spin=0 remote=3\n"
    ++ text "0 0 0 value 0 0 0 3 returned 0 20\n"
    ++ text "1 0 1 value 5 0 1 0 returned 21 41\n")
    ∷ (text "CCS 1 counter n=1 h=1 calls=1 turns=1 blank=0 spin=0 remote=3\n" ++ text "0 0 0 value 0 0 0 3 open 0 -\n")
    ∷ (text "CCS 1 counter n=1 h=1 calls=1 turns=0 blank=0 spin=0 remote=2\n" ++ text "0 0 0 none - - - 2 open 0 -\n")
    ∷ (text "CCS 1 queue n=1 h=1 calls=4 turns=4 blank=0 spin=0 remote=3\n"
    ++ text "0 0 0 done 1 0 0 3 returned 0 20\n"
    ++ text "1 0 1 full - 0 1 0 returned 21 41\n"
    ++ text "2 0 2 value 3 0 2 0 returned 42 62\n"
    ++ text "3 0 3 empty - 0 3 0 returned 63 83\n")
    ∷ (text "CCS 1 stack n=1 h=1 calls=8 turns=8 blank=0 spin=0 remote=3\n"
    ++ text "0 0 0 done 1 0 0 3 returned 0 20\n"
    ++ text "1 0 1 done 2 0 1 0 returned 21 41\n"
    ++ text "2 0 2 full - 0 2 0 returned 42 62\n"
    ++ text "3 0 3 value 8 0 3 0 returned 63 83\n"
    ++ text "4 0 4 done 2 0 4 0 returned 84 104\n"
    ++ text "5 0 5 value 6 0 5 0 returned 105 125\n"
    ++ text "6 0 6 value 9 0 6 0 returned 126 146\n"
    ++ text "7 0 7 empty - 0 7 0 returned 147 167\n")
    ∷ (text "CCS 1 queue n=2 h=1 calls=2 turns=2 blank=0 spin=1 remote=8\n"
    ++ text "0 0 0 done 1 0 0 4 returned 0 29\n"
    ++ text "1 1 0 value 7 1 1 4 returned 8 42\n")
    ∷ (text "CCS 2 cc counter n=1 h=1 calls=2 turns=2 blank=0 spin=0 remote=3\n"
    ++ text "0 0 0 value 0 0 0 3 returned 0 20\n"
    ++ text "1 0 1 value 5 0 1 0 returned 21 41\n")
    ∷ (text "CCS 2 dsm counter n=1 h=1 calls=2 turns=2 blank=4 spin=0 remote=4\n"
    ++ text "0 0 0 value 0 0 0 2 returned 0 18\n"
    ++ text "1 0 1 value 5 0 1 2 returned 19 37\n")
    ∷ (text "CCS 2 dsm counter n=3 h=2 calls=3 turns=2 blank=0 spin=0 remote=18\n"
    ++ text "0 0 0 value 0 0 0 13 returned 0 44\n"
    ++ text "1 1 0 value 1 0 0 2 returned 8 47\n"
    ++ text "2 2 0 value 11 2 1 3 returned 17 60\n")
    ∷ text "refused 14\n"
    ∷ text "refused 1\n"
    ∷ []
