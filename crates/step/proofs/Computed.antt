-- The step computes, by either method: document 01's counter file with a third add, 63 entries, and one entry more, which is a blank; and two adds of it by
-- DSM-Synch, 38 entries, and four blanks more. Assumes nothing.
use Rattle.std.proofs.Common.{◌≡◌, ℕ, List, ◌∷◌, replicate, refl}
use Rattle.object.specs.declared.Request.{Request}
use Rattle.object.specs.declared.Kind.TheVariants.{Counter}
use Rattle.object.specs.declared.Request.TheVariants.{Put, Add}
use Rattle.machine.specs.declared.Method.{Method}
use Rattle.machine.specs.declared.Method.TheVariants.{CcSynch, DsmSynch}
use Rattle.state.specs.declared.State.{State}
use Rattle.state.specs.Fresh.{fresh_state_by}
use Rattle.step.specs.Steps.{steps_of, onward_over}

abbrev pub adds : List Request
adds = Add 5 ∷ Add 7 ∷ Add 9 ∷ replicate 253 (Put 0)

-- one thread with so many requests
abbrev pub start : Method → ℕ → State
start m count = fresh_state_by m Counter 1 1 0 (count ∷ replicate 15 0) adds

pub sixty_four_lem : (steps_of (start CcSynch 3) (replicate 64 0)).refusal ≡ 0
    × (steps_of (start CcSynch 3) (replicate 64 0)).state.counts ≡ record { records = 3; turns = 3; blanks = 1; spins = 0; remote = 3 }
unfolding onward_over
sixty_four_lem = (refl, refl)

pub forty_two : (steps_of (start DsmSynch 2) (replicate 42 0)).refusal ≡ 0
    × (steps_of (start DsmSynch 2) (replicate 42 0)).state.counts ≡ record { records = 2; turns = 2; blanks = 4; spins = 0; remote = 4 }
unfolding onward_over
forty_two = (refl, refl)
