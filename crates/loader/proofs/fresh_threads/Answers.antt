-- Each call of the closure makes one fresh thread. Assumes nothing.
use Rattle.std.proofs.Common.{rules}
use Rattle.loader.proofs.Threads.{threads_all}
use Rattle.loader.proofs.fresh_threads.Goals as goal

pub returns : goal.returns
returns c = threads_all c.from_fn.result c.args.counts (search rules) (λ i d h. let (p, q, called) = c.from_fn.ensures.items.at i d (search rules) in search rules)
