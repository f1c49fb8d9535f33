-- Single steps of DSM-Synch give the figures of specs/DsmSteps.antt, by computation. Assumes nothing.
use Rattle.std.proofs.Common.{◌≡◌, map, refl}
use Rattle.step.specs.DsmSteps.{stepped, single_steps}

pub single_steps_lem : map stepped single_steps ≡ single_steps
unfolding single_steps
single_steps_lem = refl
