-- The sum that std makes is the paper's total. Assumes nothing.
use Rattle.std.proofs.Common.{◌≡◌, ◌≤◌, rules, sum, ◌∙◌, arith}
use Rattle.object.proofs.Each.{each_there}
use Rattle.bench_writer.proofs.Rows.{total_sum, total_bound}
use Rattle.bench_writer.proofs.total_of.Goals as goal

pub returns : goal.returns
returns c =
    let counts = c.args.counts.now in
    let is : c.sum.result ≡ sum counts = search rules in
    let bound = total_bound 255 counts (each_there (λ count. count ≤ 255) 0 counts (λ i h. omega (arith, c.type_inv.counts i))) in
    (is ∙ total_sum counts, omega (arith, is, total_sum counts, bound))
