-- Remote references, from a list of accesses alone: by valid copies as document 01 has them, 'Remote references', or by the owners of nodes, document 02, No. 6.
use Rattle.std.specs.Prelude.{ℕ, ◌+◌, Bool, true, false, cond, List, [], ◌∷◌, get_or, set, eqb}
use Rattle.machine.specs.declared.Method.{Method}
use Rattle.machine.specs.declared.Method.TheVariants.{CcSynch, DsmSynch}
use Rattle.machine.specs.Accesses.{Access, read, write, swap, cas, Location, tail, whole, located}
use Rattle.machine.specs.Owners.{owner_of}
use Rattle.copies.specs.Copies.{has_copy, after_read, after_write}

-- the place of a location among the copies: Tail, then each node
abbrev pub place : Location → ℕ
place tail = 0
place (whole node) = 1 + node.0

-- whether a thread has a valid copy of a location, by the location's place
abbrev pub has_copy_of : List ℕ → ℕ → Location → Bool
has_copy_of copies t l = has_copy (get_or copies (place l) 0) t

-- a write or Swap ends the other threads' copies of its location; so would a CAS, which CC-Synch has none of
abbrev pub ends : Access → Bool
ends (read node field) = false
ends (write node field) = true
ends swap = true
ends cas = true

-- afterwards the thread has a copy, and where the access ends the others', of n threads no other has
abbrev pub word_after : ℕ → ℕ → Access → ℕ → ℕ
word_after n t (read node field) word = after_read word t
word_after n t (write node field) word = after_write n word t
word_after n t swap word = after_write n word t
word_after n t cas word = after_write n word t

abbrev pub copies_after : ℕ → ℕ → Access → List ℕ → List ℕ
copies_after n t access copies =
    set copies (place (located access)) (word_after n t access (get_or copies (place (located access)) 0))

-- whether a thread owns a location, in DSM-Synch: a node has its owner, Tail has none
abbrev pub owns : ℕ → Location → Bool
owns t tail = false
owns t (whole node) = eqb (owner_of node) t

-- whether a thread has a location at hand: CC-Synch by its valid copy, of which the location's number tells, DSM-Synch as the owner
abbrev pub at_hand_by : Method → ℕ → ℕ → Location → Bool
at_hand_by CcSynch word t l = has_copy word t
at_hand_by DsmSynch word t l = owns t l

abbrev pub at_hand : Method → List ℕ → ℕ → Location → Bool
at_hand m copies t l = at_hand_by m (get_or copies (place l) 0) t l

-- the copies after an access: DSM-Synch leaves them as they are
abbrev pub left_copies : Method → ℕ → ℕ → Access → List ℕ → List ℕ
left_copies CcSynch n t access copies = copies_after n t access copies
left_copies DsmSynch n t access copies = copies

-- an access is remote if its thread does not have the location at hand
abbrev pub remote_by : Method → List ℕ → ℕ → Access → ℕ
remote_by m copies t access = cond (at_hand m copies t (located access)) 0 1

-- how many remote references a list of accesses makes, and the copies after it
pub record Referred : Type 0 where
  pub remote : ℕ
  pub copies : List ℕ

abbrev pub referred_by : Method → ℕ → ℕ → List ℕ → List Access → Referred
referred_by m n t copies [] = record { remote = 0; copies = copies }
referred_by m n t copies (access ∷ accesses) =
    let rest = referred_by m n t (left_copies m n t access copies) accesses in
    record { remote = remote_by m copies t access + rest.remote; copies = rest.copies }

-- the same of CC-Synch
abbrev pub remote_of : List ℕ → ℕ → Access → ℕ
remote_of = remote_by CcSynch

abbrev pub referred : ℕ → ℕ → List ℕ → List Access → Referred
referred = referred_by CcSynch
