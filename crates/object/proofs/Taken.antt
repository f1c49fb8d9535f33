-- What is taken of the answer of `apply` where a refusal is to leave the object and to tell no answer. Assumes nothing.
use Rattle.std.proofs.Common.{◌≡◌, Result, Ok, Err, refl}
use Rattle.std.specs.Result.{result_unwrap_or}
use Rattle.refusal.specs.declared.Refusal.{Refusal}
use Rattle.object.specs.declared.Answer.{Answer}
use Rattle.object.specs.declared.Answer.TheVariants.{Empty}
use Rattle.object.specs.declared.Object.{Object}
use Rattle.object.specs.Apply.{as_applied}

pub taken_answer : (ob : Object) (r : Result (Answer × Object) Refusal) → (result_unwrap_or r (Empty, ob)).0 ≡ (as_applied ob r).answer
taken_answer ob (Ok done) = refl
taken_answer ob (Err refusal) = refl

pub taken_object : (ob : Object) (r : Result (Answer × Object) Refusal) → (result_unwrap_or r (Empty, ob)).1 ≡ (as_applied ob r).object
taken_object ob (Ok done) = refl
taken_object ob (Err refusal) = refl
