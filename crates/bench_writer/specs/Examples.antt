-- Files converted, with what is written for each: the examples of request No. 7, and those by which wrong orders of refusals and misplaced bytes are told.
use Rattle.std.specs.Prelude.{ℕ, List, [], ◌∷◌, ◌++◌}
use Rattle.machine.specs.declared.Method.TheVariants.{CcSynch, DsmSynch}
use Rattle.bench_file.specs.Examples.{first_p, second_p, sixty_four, sixty_five}
use Rattle.bench_writer.specs.Buffer.{writing, refused_writing}
use Rattle.bench_writer.specs.Writer.{Writing}
use Rattle.bench_writer.specs.Convert.{convert_of}

-- a file, the wanted version, how many bytes are lent, and what is written
pub record Example : Type 0 where
  pub file : List ℕ
  pub wanted : ℕ
  pub room : ℕ
  pub written : Writing

abbrev pub converted : Example → Writing
converted e = convert_of e.file e.wanted e.room

abbrev pub expected : Example → Writing
expected e = e.written

abbrev to : List ℕ → ℕ → ℕ → Writing → Example
to file wanted room written = record { file = file; wanted = wanted; room = room; written = written }

-- one thread without requests and an empty schedule: version 1, version 2, and by DSM-Synch
abbrev none : List ℕ
none = 0x00 ∷ 0x00 ∷ 0x00 ∷ []

abbrev first : List ℕ
first = first_p ++ none

abbrev second : List ℕ
second = second_p ++ 0x00 ∷ none

abbrev dsm : List ℕ
dsm = second_p ++ 0x01 ∷ none

-- there, back, and copied: 13 by the converted length
abbrev changed : List Example
changed =
    to first 2 13 (writing second)
    ∷ to first 2 12 (refused_writing 13)
    ∷ to second 1 12 (writing first)
    ∷ to second 1 11 (refused_writing 13)
    ∷ to first 1 12 (writing first)
    ∷ to first 1 11 (refused_writing 13)
    ∷ to second 2 13 (writing second)
    ∷ to second 2 12 (refused_writing 13)
    ∷ to sixty_four 2 65 (writing (sixty_five CcSynch))
    ∷ to (sixty_five CcSynch) 1 64 (writing sixty_four)
    ∷ []

-- 16 comes after the file's own refusals and before 13, and where version 1 is wanted only
abbrev unallowed : List Example
unallowed =
    to (sixty_five DsmSynch) 1 0 (refused_writing 16)
    ∷ to (sixty_five DsmSynch ++ 0x00 ∷ []) 1 0 (refused_writing 12)
    ∷ to (sixty_five DsmSynch) 2 64 (refused_writing 13)
    ∷ to (sixty_five DsmSynch) 2 65 (writing (sixty_five DsmSynch))
    ∷ to dsm 1 64 (refused_writing 16)
    ∷ to (second_p ++ 0x01 ∷ []) 1 0 (refused_writing 1)
    ∷ to (second_p ++ 0x01 ∷ 0x11 ∷ []) 1 0 (refused_writing 8)
    ∷ to (second_p ++ 0x02 ∷ none) 1 0 (refused_writing 15)
    ∷ []

-- 3 comes before all others, for every version but 1 and 2; a file in the wanted version is judged too
abbrev unknown : List Example
unknown =
    to [] 3 0 (refused_writing 3)
    ∷ to [] 1 0 (refused_writing 1)
    ∷ to first 0 64 (refused_writing 3)
    ∷ to first 257 64 (refused_writing 3)
    ∷ to second 258 64 (refused_writing 3)
    ∷ to dsm 3 0 (refused_writing 3)
    ∷ to (0x43 ∷ 0x43 ∷ 0x54 ∷ []) 3 64 (refused_writing 3)
    ∷ to (0x43 ∷ 0x43 ∷ 0x54 ∷ []) 2 0 (refused_writing 2)
    ∷ to (0x43 ∷ 0x43 ∷ 0x53 ∷ 0x03 ∷ 0x00 ∷ []) 2 64 (refused_writing 3)
    ∷ to (first ++ 0xFF ∷ []) 1 64 (refused_writing 12)
    ∷ to (second ++ 0xFF ∷ []) 2 64 (refused_writing 12)
    ∷ []

-- a stack of two threads with a put, h = 3, capacity 64 and two entries, every byte of whose head is another; and counts of 1 and 2 in the place of a method
abbrev stack_of : List ℕ → List ℕ → List ℕ
stack_of version method =
    (0x43 ∷ 0x43 ∷ 0x53 ∷ []) ++ version ++ (0x01 ∷ 0x02 ∷ 0x03 ∷ 0x40 ∷ []) ++ method
    ++ (0x02 ∷ 0x00 ∷ 0x01 ∷ 0x02 ∷ 0x03 ∷ 0x04 ∷ 0x01 ∷ 0x00 ∷ 0x00 ∷ 0x00 ∷ 0x00 ∷ 0x00 ∷ 0x02 ∷ 0x00 ∷ 0x01 ∷ 0x00 ∷ [])

abbrev one_add : List ℕ
one_add = 0x01 ∷ 0x02 ∷ 0x05 ∷ 0x00 ∷ 0x00 ∷ 0x00 ∷ 0x00 ∷ 0x00 ∷ []

abbrev two_adds : List ℕ
two_adds = 0x02 ∷ 0x02 ∷ 0x05 ∷ 0x00 ∷ 0x00 ∷ 0x00 ∷ 0x02 ∷ 0x07 ∷ 0x00 ∷ 0x00 ∷ 0x00 ∷ 0x00 ∷ 0x00 ∷ []

abbrev placed : List Example
placed =
    to (stack_of (0x01 ∷ 0x00 ∷ []) []) 2 26 (writing (stack_of (0x02 ∷ 0x00 ∷ []) (0x00 ∷ [])))
    ∷ to (stack_of (0x02 ∷ 0x00 ∷ []) (0x00 ∷ [])) 1 25 (writing (stack_of (0x01 ∷ 0x00 ∷ []) []))
    ∷ to (first_p ++ one_add) 1 17 (writing (first_p ++ one_add))
    ∷ to (first_p ++ one_add) 2 18 (writing (second_p ++ 0x00 ∷ one_add))
    ∷ to (second_p ++ 0x00 ∷ one_add) 1 17 (writing (first_p ++ one_add))
    ∷ to (first_p ++ two_adds) 2 23 (writing (second_p ++ 0x00 ∷ two_adds))
    ∷ []

unfoldable pub examples : List Example
examples = changed ++ unallowed ++ unknown ++ placed
