-- One byte more is tested at each call. Assumes nothing.
use Rattle.std.proofs.Common.{◌≡◌, ℕ, refl, ltb, rules}
use Rattle.std.proofs.lemmas.Fn.{fold_over, fronts, slice_gives}
use Rattle.object.specs.Each.{every}
use Rattle.bench_file.proofs.Entries.{every_snoc}
use Rattle.bench_file.proofs.every_below.Goals as goal

pub returns : goal.returns
returns c =
    let test = λ (x : ℕ). ltb x c.args.bound in
    rw c.iter.ensures.rest
    at (fold_over fronts (λ y. y.now) _ (λ ys fine. fine ≡ every test ys) _ (λ ys a x b f' so called. search (rules, every_snoc)) c.iter.result _ _ _ (slice_gives c.iter.result) refl c.fold.ensures.ran)
