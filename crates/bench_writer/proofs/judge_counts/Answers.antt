-- The code tests a count for at most 16 as below 17. Assumes nothing.
use Rattle.std.proofs.Common.{◌≡◌, ℕ, List, ltb, leb, sym, ◌∙◌, le-leb}
use lib.Dec.{leb-suc-suc}
use Rattle.object.specs.Each.{every}
use Rattle.object.proofs.Each.{every_same}
use Rattle.bench_writer.proofs.judge_counts.Goals as goal

tested : (counts : List ℕ) → every (λ count. leb count 16) counts ≡ every (λ x. ltb x 17) counts
tested counts = every_same (λ count. leb count 16) (λ x. ltb x 17) counts (λ x. sym (leb-suc-suc x 16))

pub returns-then-every_below : goal.returns-then-every_below
returns-then-every_below c =
    λ bytes. simp (le-leb _ _ c.if-counts-threads.false, le-leb _ _ c.if-threads-counts.false, tested c.args.counts.now ∙ sym c.every_below.ensures ∙ c.if-every_below.true)

pub returns : goal.returns
returns c =
    λ bytes. simp (le-leb _ _ c.if-counts-threads.false, le-leb _ _ c.if-threads-counts.false, tested c.args.counts.now ∙ sym c.every_below.ensures ∙ c.if-every_below.false)
