-- Which accesses of a history are remote, by the accesses alone, one after the other: document 01, 'Remote references', and document 02, No. 6; and by a state.
use Rattle.std.specs.Prelude.{ℕ, ◌≡◌, Bool, true, false, cond, not, ◌&&◌, ◌||◌, List, [], ◌∷◌, map, eqb}
use Rattle.machine.specs.declared.Method.{Method}
use Rattle.machine.specs.declared.Method.TheVariants.{CcSynch, DsmSynch}
use Rattle.machine.specs.declared.ThreadId.{ThreadId}
use Rattle.machine.specs.Accesses.{Access, Location, same_location, located}
use Rattle.machine.specs.Owners.{its_own}
use Rattle.copies.specs.Remote.{ends, at_hand, left_copies}
use Rattle.history.specs.Entries.{Entry}

-- whether an access of thread u decides if thread t has a copy of a location: by an access of its own it has, by another's write or Swap it has not
abbrev pub decides : ThreadId → Location → ThreadId → Access → Bool
decides t l u access = same_location (located access) l && (eqb u.0 t.0 || ends access)

-- whether it has one after accesses of thread u, one after the other, if it had one before them or not
abbrev pub copy_after : ThreadId → Location → ThreadId → List Access → Bool → Bool
copy_after t l u [] had = had
copy_after t l u (access ∷ accesses) had = copy_after t l u accesses (cond (decides t l u access) (eqb u.0 t.0) had)

-- a thread has a valid copy of a location after the entries of a history; at the start it has none
abbrev pub valid_copy : ThreadId → Location → List Entry → Bool
valid_copy t l [] = false
valid_copy t l (e ∷ past) = copy_after t l e.thread e.accesses (valid_copy t l past)

-- which accesses of thread t are remote, if `valid` tells the copies that it has before them: each exactly if t has no valid copy when it comes to it
abbrev pub remote_said : ThreadId → (Location → Bool) → List Access → List Bool
remote_said t valid [] = []
remote_said t valid (access ∷ accesses) = not (valid (located access)) ∷ remote_said t (λ l. cond (decides t l t access) true (valid l)) accesses

-- the same of DSM-Synch, which has no copies: "Tail is remote to everyone; a node is remote to all but its owner". Which accesses are made is `as_tabled` of dsm_lines
abbrev pub remote_by_owner : ThreadId → List Access → List Bool
remote_by_owner t = map (λ access. not (its_own t.0 (located access)))

-- by the method, of an entry with its past
abbrev pub marks_said : Method → Entry → List Entry → List Bool
marks_said CcSynch e past = remote_said e.thread (λ l. valid_copy e.thread l past) e.accesses
marks_said DsmSynch e past = remote_by_owner e.thread e.accesses

abbrev pub RemoteAsSaid : Method → List Entry → Type 0
RemoteAsSaid m [] = Unit
RemoteAsSaid m (e ∷ past) = (e.remote ≡ marks_said m e past) × RemoteAsSaid m past

-- the same by a state of n threads, with its copies: an access is remote if its thread does not have the location at hand
abbrev pub remote_marks : Method → ℕ → ℕ → List ℕ → List Access → List Bool
remote_marks m n t copies [] = []
remote_marks m n t copies (access ∷ accesses) = not (at_hand m copies t (located access)) ∷ remote_marks m n t (left_copies m n t access copies) accesses
