-- What `apply_of` gives is the plain object's, on either side of the test of the ranges. Assumes nothing.
use Rattle.std.proofs.Common.{rules}
use Rattle.object.proofs.Plainly.{plainly_as}
use Rattle.object.proofs.apply.Goals as goal

pub returns-then-not-held_in_range-clause-applies_plainly : goal.returns-then-not-held_in_range-clause-applies_plainly
returns-then-not-held_in_range-clause-applies_plainly c = plainly_as _ _ _ _ (search rules) _ (search rules)

pub returns-clause-applies_plainly : goal.returns-clause-applies_plainly
returns-clause-applies_plainly c = plainly_as _ _ _ _ (search rules) _ (search rules)
