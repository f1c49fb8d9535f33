-- The marked runs of document 01, 'Runs that touch a bound', three of request No. 1, two of No. 3 and two of No. 5: the bytes of each file, and the whole
-- result that they give.
use Rattle.std.specs.Prelude.{ℕ, Bool, true, false, List, [], ◌∷◌, ◌++◌, replicate}
use Rattle.object.specs.declared.Kind.{Kind}
use Rattle.object.specs.declared.Kind.TheVariants.{Queue, Stack, Counter}
use Rattle.object.specs.declared.Request.{Request}
use Rattle.object.specs.declared.Request.TheVariants.{Put, Take, Add}
use Rattle.bench_file.specs.Bytes.{bytes_of}
use Rattle.bench_file.specs.Examples.{sixty_four}
use Rattle.state.specs.declared.Counts.{Counts}
use Rattle.machine.specs.declared.Method.TheVariants.{CcSynch}
use Rattle.history.specs.Terms.{record_bytes}
use Rattle.claims.specs.Result.{Result, counted}

-- the listing's words for a mark and for byte 12
abbrev pub done : ℕ
done = 0

abbrev pub value : ℕ
value = 1

abbrev pub empty : ℕ
empty = 2

abbrev pub full : ℕ
full = 3

abbrev pub none : ℕ
none = 255

abbrev pub still_open : Bool
still_open = false

abbrev pub has_returned : Bool
has_returned = true

-- a record's bytes, from thread, request, mark, value, serving thread, turn, remote references, whether the call has returned, and the numbers of the entries
-- that it began and returned with: the order of the listing. Where it prints a hyphen the value is 0, the serving thread 255, the turn 65,535 and the return
-- 4,294,967,295
abbrev pub listed : ℕ → ℕ → ℕ → ℕ → ℕ → ℕ → ℕ → Bool → ℕ → ℕ → List ℕ
listed thread request mark value server turn remote over began returned = record_bytes thread request mark server value remote over turn began returned

-- the first record of the 64-byte file, the record of its run cut to 5, and one with its own number in each byte, which is no run's
abbrev pub served : List ℕ
served = listed 0 0 value 0 0 0 3 has_returned 0 20

abbrev pub waiting : List ℕ
waiting = listed 0 0 none 0 255 65535 2 still_open 0 4_294_967_295

abbrev pub own_bytes : List ℕ
own_bytes = listed 10 11 full 134_678_021 13 3_854 404_166_165 has_returned 572_596_255 741_026_345

-- these byte by byte
unfoldable pub spelled : List (List ℕ)
spelled =
    (0 ∷ 0 ∷ 1 ∷ 0 ∷ 0 ∷ 0 ∷ 0 ∷ 0 ∷ 3 ∷ 0 ∷ 0 ∷ 0 ∷ 1 ∷ 0 ∷ 0 ∷ 0 ∷ 0 ∷ 0 ∷ 0 ∷ 0 ∷ 20 ∷ 0 ∷ 0 ∷ 0 ∷ [])
    ∷ (0 ∷ 0 ∷ 255 ∷ 255 ∷ 0 ∷ 0 ∷ 0 ∷ 0 ∷ 2 ∷ 0 ∷ 0 ∷ 0 ∷ 0 ∷ 255 ∷ 255 ∷ 0 ∷ 0 ∷ 0 ∷ 0 ∷ 0 ∷ 255 ∷ 255 ∷ 255 ∷ 255 ∷ [])
    ∷ (10 ∷ 11 ∷ 3 ∷ 13 ∷ 5 ∷ 6 ∷ 7 ∷ 8 ∷ 21 ∷ 22 ∷ 23 ∷ 24 ∷ 1 ∷ 14 ∷ 15 ∷ 0 ∷ 31 ∷ 32 ∷ 33 ∷ 34 ∷ 41 ∷ 42 ∷ 43 ∷ 44 ∷ [])
    ∷ []

-- the bytes of a file, and its result
pub record Marked : Type 0 where
  pub file : List ℕ
  pub result : Result

abbrev pub gives : List ℕ → Counts → List (List ℕ) → Marked
gives file counts records = record { file = file; result = record { refusal = 0; counts = counts; records = records } }

-- the file of an object, n, h and a capacity, of rows of requests and a schedule
abbrev pub file_of : Kind → ℕ → ℕ → ℕ → List (List Request) → List ℕ → List ℕ
file_of object n h capacity rows schedule =
    bytes_of (record {
      head = record { version = 1; object = object; n = n; h = h; capacity = capacity; method = CcSynch };
      rows = rows;
      schedule = schedule;
    })

-- n = 1 and h = 1: requests of thread 0, and so many entries
abbrev pub alone : Kind → ℕ → List Request → ℕ → List ℕ
alone object capacity requests entries = file_of object 1 1 capacity (requests ∷ []) (replicate entries 0)

-- the 64-byte file with so many entries in place of its 42
abbrev pub two_adds : ℕ → List ℕ
two_adds entries = alone Counter 0 (Add 5 ∷ Add 7 ∷ []) entries

-- every answer of a queue of capacity 1: done, full, value and empty
abbrev pub every_answer : List ℕ
every_answer = alone Queue 1 (Put 3 ∷ Put 4 ∷ Take ∷ Take ∷ []) 84

-- an object of capacity 2 filled, full, with an item taken and one put again, then emptied and found empty
abbrev pub fills_two : Kind → List ℕ
fills_two object = alone object 2 (Put 9 ∷ Put 8 ∷ Put 7 ∷ Take ∷ Put 6 ∷ Take ∷ Take ∷ Take ∷ []) 168

-- its records, with the values of the three takes
abbrev pub fills_two_records : ℕ → ℕ → ℕ → List (List ℕ)
fills_two_records first second third =
    listed 0 0 done 1 0 0 3 has_returned 0 20
    ∷ listed 0 1 done 2 0 1 0 has_returned 21 41
    ∷ listed 0 2 full 0 0 2 0 has_returned 42 62
    ∷ listed 0 3 value first 0 3 0 has_returned 63 83
    ∷ listed 0 4 done 2 0 4 0 has_returned 84 104
    ∷ listed 0 5 value second 0 5 0 has_returned 105 125
    ∷ listed 0 6 value third 0 6 0 has_returned 126 146
    ∷ listed 0 7 empty 0 0 7 0 has_returned 147 167
    ∷ []

-- queue, capacity 4, n = 2; thread 0 puts 7, thread 1 takes. Entries 0 eight times, 1 nine times, then 0 and 1 so many times
abbrev pub put_and_take : ℕ → ℕ → ℕ → List ℕ
put_and_take h zeros ones =
    file_of Queue 2 h 4 ((Put 7 ∷ []) ∷ (Take ∷ []) ∷ []) (replicate 8 0 ++ replicate 9 1 ++ replicate zeros 0 ++ replicate ones 1)

-- counter, n = 2, h = 1; thread 0 adds 5, thread 1 adds 7
abbrev pub five_and_seven : List ℕ → List ℕ
five_and_seven schedule = file_of Counter 2 1 0 ((Add 5 ∷ []) ∷ (Add 7 ∷ []) ∷ []) schedule

-- counter, n = 16, h = 2; thread 3 adds 4 once, threads 14 and 15 add 1 and 2, three times each
abbrev pub last_threads : List ℕ → List ℕ
last_threads schedule =
    file_of Counter 16 2 0
    (replicate 3 [] ++ ((Add 4 ∷ []) ∷ []) ++ replicate 10 [] ++ (replicate 3 (Add 1) ∷ replicate 3 (Add 2) ∷ []))
    schedule

-- in the order of document 01; the values of the third add and of the two puts and the stack's capacity are free there
unfoldable pub marked_runs : List Marked
marked_runs =
    gives sixty_four (counted 2 2 0 0 3) (served ∷ listed 0 1 value 5 0 1 0 has_returned 21 41 ∷ [])
    -- a third add
    ∷ gives (alone Counter 0 (Add 5 ∷ Add 7 ∷ Add 9 ∷ []) 63) (counted 3 3 0 0 3)
    (served ∷ listed 0 1 value 5 0 1 0 has_returned 21 41 ∷ listed 0 2 value 12 0 2 0 has_returned 42 62 ∷ [])
    -- 4, 5 and 43 entries
    ∷ gives (two_adds 4) (counted 0 0 0 0 1) []
    ∷ gives (two_adds 5) (counted 1 0 0 0 2) (waiting ∷ [])
    ∷ gives (two_adds 43) (counted 2 2 1 0 3) (served ∷ listed 0 1 value 5 0 1 0 has_returned 21 41 ∷ [])
    -- two threads, h = 8 and h = 1
    ∷ gives (put_and_take 8 20 3) (counted 2 1 0 1 9) (listed 0 0 done 1 0 0 5 has_returned 0 36 ∷ listed 1 0 value 7 0 0 4 has_returned 8 39 ∷ [])
    ∷ gives (put_and_take 1 13 13) (counted 2 2 0 1 8) (listed 0 0 done 1 0 0 4 has_returned 0 29 ∷ listed 1 0 value 7 1 1 4 has_returned 8 42 ∷ [])
    -- full and empty
    ∷ gives (alone Queue 1 (Put 1 ∷ Put 2 ∷ []) 42) (counted 2 2 0 0 3) (listed 0 0 done 1 0 0 3 has_returned 0 20 ∷ listed 0 1 full 0 0 1 0 has_returned 21 41 ∷ [])
    ∷ gives (alone Stack 1 (Take ∷ []) 21) (counted 1 1 0 0 3) (listed 0 0 empty 0 0 0 3 has_returned 0 20 ∷ [])
    -- the sum past 4,294,967,295
    ∷ gives (alone Counter 0 (Add 4_294_967_295 ∷ Add 1 ∷ Add 0 ∷ []) 63) (counted 3 3 0 0 3)
    (served ∷ listed 0 1 value 4_294_967_295 0 1 0 has_returned 21 41 ∷ listed 0 2 value 0 0 2 0 has_returned 42 62 ∷ [])
    -- request No. 1: a call that began first and swapped second, both returned and both open, and a blank before the first call
    ∷ gives (five_and_seven (replicate 1 0 ++ replicate 21 1 ++ replicate 20 0)) (counted 2 2 0 0 6)
    (listed 1 0 value 0 1 0 3 has_returned 1 21 ∷ listed 0 0 value 7 0 1 3 has_returned 0 41 ∷ [])
    ∷ gives (five_and_seven (replicate 4 0 ++ replicate 5 1 ++ replicate 1 0)) (counted 2 0 0 0 4)
    (listed 1 0 none 0 255 65535 2 still_open 4 4_294_967_295 ∷ waiting ∷ [])
    ∷ gives (file_of Counter 2 1 0 ([] ∷ (Add 5 ∷ []) ∷ []) (replicate 1 0 ++ replicate 21 1)) (counted 1 1 1 0 3)
    (listed 1 0 value 0 1 0 3 has_returned 1 21 ∷ [])
    -- request No. 3: the counts of done puts
    ∷ gives (fills_two Stack) (counted 8 8 0 0 3) (fills_two_records 8 6 9)
    ∷ gives (fills_two Queue) (counted 8 8 0 0 3) (fills_two_records 9 8 6)
    -- request No. 5: thread 0 swaps, then thread 1, whose Swap ends the other's copy of Tail, then thread 0 again: it has its own node, and fetches Tail and
    -- curNode
    ∷ gives (file_of Counter 2 1 0 ((Add 5 ∷ Add 9 ∷ []) ∷ (Add 7 ∷ []) ∷ []) (replicate 21 0 ++ replicate 21 1 ++ replicate 21 0)) (counted 3 3 0 0 8)
    (served ∷ listed 1 0 value 5 1 1 3 has_returned 21 41 ∷ listed 0 1 value 12 0 2 2 has_returned 42 62 ∷ [])
    -- the last two of 16 threads, at nodes 15, 16 and 0: a line 7 is remote, after another's line 20, and so are two of three spins, after lines 16 and 17;
    -- thread 3 stops before its Swap
    ∷ gives
    (last_threads
    (replicate 18 14
    ++ replicate 6 15
    ++ replicate 2 14
    ++ replicate 15 15
    ++ replicate 22 14
    ++ replicate 29 15
    ++ replicate 9 14
    ++ replicate 14 15
    ++ replicate 1 14
    ++ replicate 1 15
    ++ replicate 1 14
    ++ replicate 1 15
    ++ replicate 3 14
    ++ replicate 4 3))
    (counted 6 5 0 3 19)
    (listed 14 0 value 0 14 0 4 has_returned 0 41
    ∷ listed 15 0 value 1 15 1 4 has_returned 18 40
    ∷ listed 14 1 value 3 14 2 2 has_returned 42 62
    ∷ listed 15 1 value 4 15 3 2 has_returned 63 83
    ∷ listed 15 2 value 6 15 4 1 still_open 84 4_294_967_295
    ∷ listed 14 2 value 8 15 4 5 has_returned 92 121
    ∷ [])
    ∷ []
