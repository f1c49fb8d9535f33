-- What the code works out step by step: remote references by the places of locations, and whether a line stops at its first access. The contracts of `refer` and
-- `refer_all` tie it to the definitions in Remote.antt and to a row's accesses.
use Rattle.std.specs.Prelude.{ℕ, zero, suc, Bool, false, cond, List, get_or, set}
use Rattle.machine.specs.declared.Method.{Method}
use Rattle.machine.specs.declared.Method.TheVariants.{CcSynch, DsmSynch}
use Rattle.machine.specs.declared.NodeId.{NodeId}
use Rattle.machine.specs.declared.SharedAccess.{SharedAccess}
use Rattle.machine.specs.Fields.{is_null}
use Rattle.machine.specs.Accesses.{whole, is_none}
use Rattle.copies.specs.Copies.{has_copy, after_read, after_write}
use Rattle.copies.specs.Remote.{owns}

-- whether a thread of DSM-Synch owns the location at a place: Tail's, or a node's
abbrev pub owns_at : ℕ → ℕ → Bool
owns_at t zero = false
owns_at t (suc m) = owns t (whole (record { 0 = m }))

-- whether a thread has the location at a place at hand
abbrev pub at_hand_at : Method → List ℕ → ℕ → ℕ → Bool
at_hand_at CcSynch copies t at = has_copy (get_or copies at 0) t
at_hand_at DsmSynch copies t at = owns_at t at

-- a location's number after an access that writes or not, and all copies after one at a place
abbrev pub word_left : ℕ → ℕ → Bool → ℕ → ℕ
word_left n t writes word = cond writes (after_write n word t) (after_read word t)

abbrev pub left_at : Method → ℕ → ℕ → Bool → ℕ → List ℕ → List ℕ
left_at CcSynch n t writes at copies = set copies at (word_left n t writes (get_or copies at 0))
left_at DsmSynch n t writes at copies = copies

-- whether a line makes no access after its first
abbrev pub only_first : SharedAccess → SharedAccess → NodeId → Bool
only_first second third behind = cond (is_none third) (is_none second) (is_null behind)
