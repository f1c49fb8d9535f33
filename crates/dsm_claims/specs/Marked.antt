-- Runs of DSM-Synch, and the counts and records that they give; and two that follow null or put it into tmpNode, whole and cut before the entry that does.
use Rattle.std.specs.Prelude.{ℕ, ◌+◌, List, [], ◌∷◌, ◌++◌, replicate}
use Rattle.object.specs.declared.Kind.{Kind}
use Rattle.object.specs.declared.Kind.TheVariants.{Queue, Counter}
use Rattle.object.specs.declared.Request.{Request}
use Rattle.object.specs.declared.Request.TheVariants.{Put, Take, Add}
use Rattle.bench_file.specs.declared.Head.{Head}
use Rattle.bench_file.specs.Layout.{Fields}
use Rattle.machine.specs.declared.Method.TheVariants.{DsmSynch}
use Rattle.state.specs.declared.Counts.{Counts}
use Rattle.history.specs.Terms.{no_entry}
use Rattle.claims.specs.Entries.{cut}
use Rattle.claims.specs.Marked.{done, value, empty, full, none, still_open, has_returned, listed}
use Rattle.claims.specs.Result.{counted}

-- a run's fields, counts and records
pub record Marked : Type 0 where
  pub fields : Fields
  pub counts : Counts
  pub records : List (List ℕ)

-- the nodes that a run's Swaps assign and give, in order; null is 255
pub record Swapping : Type 0 where
  pub fields : Fields
  pub nodes : List (ℕ × ℕ)

abbrev pub swaps : Fields → List (ℕ × ℕ) → Swapping
swaps fields nodes = record { fields = fields; nodes = nodes }

-- the head of a DSM-Synch file, of an object, n, h and a capacity
abbrev pub head_of : Kind → ℕ → ℕ → ℕ → Head
head_of object n h capacity = record { version = 2; object = object; n = n; h = h; capacity = capacity; method = DsmSynch }

-- a counter's run, of n, h, rows of requests and a schedule
abbrev pub counter_of : ℕ → ℕ → List (List Request) → List ℕ → Fields
counter_of n h rows schedule = record { head = head_of Counter n h 0; rows = rows; schedule = schedule }

abbrev pub gives : Fields → Counts → List (List ℕ) → Marked
gives fields counts records = record { fields = fields; counts = counts; records = records }

-- the numbers of threads, each so many times in a row
abbrev pub times : List (ℕ × ℕ) → List ℕ
times [] = []
times (part ∷ parts) = replicate part.0 part.1 ++ times parts

-- thread 0 alone adds 5 and 7, with four entries more than it needs: the 64-byte file as DSM-Synch
abbrev pub two_adds : Fields
two_adds = counter_of 1 1 ((Add 5 ∷ Add 7 ∷ []) ∷ []) (times ((42, 0) ∷ []))

-- three threads add 1, 10 and 100; the first serves itself and the second, and gives the turn to the third
abbrev pub three_threads : Fields
three_threads =
    counter_of 3 2 ((Add 1 ∷ []) ∷ (Add 10 ∷ []) ∷ (Add 100 ∷ []) ∷ [])
    (times ((8, 0) ∷ (9, 1) ∷ (9, 2) ∷ (19, 0) ∷ (3, 1) ∷ (13, 2) ∷ []))

-- four threads and h = 3: the first serves three, and comes to another's node twice
abbrev pub four_threads : Fields
four_threads =
    counter_of 4 3 ((Add 1 ∷ []) ∷ (Add 10 ∷ []) ∷ (Add 100 ∷ []) ∷ (Add 1000 ∷ []) ∷ [])
    (times ((8, 0) ∷ (9, 1) ∷ (9, 2) ∷ (9, 3) ∷ (26, 0) ∷ (3, 1) ∷ (3, 2) ∷ (13, 3) ∷ []))

-- the last four of 16 threads at a queue of capacity 2, with two blanks
abbrev pub last_threads : Fields
last_threads = record {
  head = head_of Queue 16 3 2;
  rows = replicate 12 [] ++ ((Put 7 ∷ Take ∷ []) ∷ (Put 8 ∷ []) ∷ (Put 9 ∷ []) ∷ (Take ∷ Take ∷ []) ∷ []);
  schedule =
      times ((8, 12) ∷ (9, 13) ∷ (9, 14) ∷ (9, 15) ∷ (26, 12) ∷ (1, 0) ∷ (3, 13) ∷ (3, 14) ∷ (13, 15) ∷ (19, 12) ∷ (19, 15) ∷ (1, 13) ∷ []);
}

-- line 23's CAS fails: the turn goes on, at 25, where the thread spins once
abbrev pub failed_cas : Fields
failed_cas =
    counter_of 2 1 ((Add 1 ∷ []) ∷ (Add 10 ∷ []) ∷ [])
    (times ((17, 0) ∷ (8, 1) ∷ (2, 0) ∷ (2, 1) ∷ (4, 0) ∷ (13, 1) ∷ []))

-- the requests of three threads and of four, and how the runs with a late line 27 begin: thread 0 stops before it
abbrev three_rows : List (List Request)
three_rows = (Add 1 ∷ []) ∷ replicate 3 (Add 10) ∷ replicate 2 (Add 100) ∷ []

abbrev four_rows : List (List Request)
four_rows = three_rows ++ ((Add 1000 ∷ []) ∷ [])

abbrev late : List (ℕ × ℕ) → List ℕ
late parts = times ((8, 0) ∷ (9, 1) ∷ (9, 2) ∷ (17, 0) ∷ (3, 1) ∷ (13, 2) ∷ parts)

-- it then takes back the next that thread 1's line 26 is to follow: the last of these 106 entries follows null
abbrev pub late_line27 : Fields
late_line27 = counter_of 3 2 three_rows (late ((27, 1) ∷ (9, 2) ∷ (9, 1) ∷ (1, 0) ∷ (1, 1) ∷ []))

-- the same, with a node more in the queue: the last of these 113 entries, line 21, would put null into tmpNode
abbrev pub null_for_tmp_node : Fields
null_for_tmp_node = counter_of 4 2 four_rows (late ((27, 1) ∷ (9, 2) ∷ (9, 3) ∷ (7, 1) ∷ (1, 0) ∷ (1, 1) ∷ []))

-- line 27 comes before thread 1's line 22: it stays at 25, and spins at its own node
abbrev pub spins_for_ever : Fields
spins_for_ever = counter_of 3 2 three_rows (late ((27, 1) ∷ (9, 2) ∷ (8, 1) ∷ (1, 0) ∷ (4, 1) ∷ []))

-- the same at another's node: thread 2 spins k times at 25, each time by a remote reference
abbrev pub spins_remotely : ℕ → Fields
spins_remotely k = counter_of 4 2 four_rows (late ((19, 1) ∷ (8, 2) ∷ (9, 1) ∷ (9, 3) ∷ (15, 2) ∷ (1, 0) ∷ (2, 2) ∷ (k, 2) ∷ []))

-- the first four records of these runs
abbrev first_four : List (List ℕ) → List (List ℕ)
first_four later =
    listed 0 0 value 0 0 0 13 still_open 0 no_entry
    ∷ listed 1 0 value 1 0 0 2 has_returned 8 45
    ∷ listed 2 0 value 11 2 1 3 has_returned 17 58
    ∷ listed 1 1 value 111 1 2 2 has_returned 59 77
    ∷ later

abbrev pub spun_remotely : ℕ → Marked
spun_remotely k =
    gives (spins_remotely k) (counted 7 4 0 k (35 + k))
    (first_four
    (listed 2 1 value 121 2 3 (11 + k) still_open 78 no_entry
    ∷ listed 1 2 value 221 2 3 2 still_open 86 no_entry
    ∷ listed 3 0 none 0 255 65535 2 still_open 95 no_entry
    ∷ []))

unfoldable pub marked_runs : List Marked
marked_runs =
    gives two_adds (counted 2 2 4 0 4) (listed 0 0 value 0 0 0 2 has_returned 0 18 ∷ listed 0 1 value 5 0 1 2 has_returned 19 37 ∷ [])
    ∷ gives three_threads (counted 3 2 0 0 18)
    (listed 0 0 value 0 0 0 13 has_returned 0 44 ∷ listed 1 0 value 1 0 0 2 has_returned 8 47 ∷ listed 2 0 value 11 2 1 3 has_returned 17 60 ∷ [])
    ∷ gives four_threads (counted 4 2 0 0 28)
    (listed 0 0 value 0 0 0 21 has_returned 0 60
    ∷ listed 1 0 value 1 0 0 2 has_returned 8 63
    ∷ listed 2 0 value 11 0 0 2 has_returned 17 66
    ∷ listed 3 0 value 111 3 1 3 has_returned 26 79
    ∷ [])
    ∷ gives last_threads (counted 6 4 2 0 32)
    (listed 12 0 done 1 12 0 21 has_returned 0 60
    ∷ listed 13 0 done 2 12 0 2 has_returned 8 64
    ∷ listed 14 0 full 0 12 0 2 has_returned 17 67
    ∷ listed 15 0 value 7 15 1 3 has_returned 26 80
    ∷ listed 12 1 value 8 12 2 2 has_returned 81 99
    ∷ listed 15 1 empty 0 15 3 2 has_returned 100 118
    ∷ [])
    ∷ gives failed_cas (counted 2 2 0 2 6) (listed 0 0 value 0 0 0 3 has_returned 0 32 ∷ listed 1 0 value 1 1 1 3 has_returned 17 45 ∷ [])
    ∷ gives (cut 105 late_line27) (counted 6 4 0 0 24)
    (first_four (listed 1 2 value 121 1 3 2 still_open 78 no_entry ∷ listed 2 1 none 0 255 65535 2 still_open 86 no_entry ∷ []))
    ∷ gives (cut 112 null_for_tmp_node) (counted 7 4 0 0 26)
    (first_four
    (listed 1 2 value 121 1 3 2 still_open 78 no_entry
    ∷ listed 2 1 none 0 255 65535 2 still_open 86 no_entry
    ∷ listed 3 0 none 0 255 65535 2 still_open 95 no_entry
    ∷ []))
    ∷ gives spins_for_ever (counted 6 4 0 2 25)
    (first_four (listed 1 2 value 121 1 3 3 still_open 78 no_entry ∷ listed 2 1 none 0 255 65535 2 still_open 86 no_entry ∷ []))
    ∷ spun_remotely 0
    ∷ spun_remotely 5
    ∷ []

-- a thread's first call uses its second node, and its second call the first; a Swap gives what the one before it put in, or null
unfoldable pub swappings : List Swapping
swappings =
    swaps two_adds ((1, 255) ∷ (0, 255) ∷ [])
    ∷ swaps three_threads ((1, 255) ∷ (3, 1) ∷ (5, 3) ∷ [])
    ∷ swaps last_threads ((25, 255) ∷ (27, 25) ∷ (29, 27) ∷ (31, 29) ∷ (24, 255) ∷ (30, 255) ∷ [])
    ∷ []
