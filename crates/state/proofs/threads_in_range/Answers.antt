-- `all` asks each. Assumes nothing.
use Rattle.std.proofs.Common.{◌∙◌, rules, tests}
use Rattle.std.proofs.lemmas.Iterator.{YieldsList-from_slice}
use Rattle.std.proofs.lemmas.Iterator.Search.{all_from_yields_List}
use Rattle.state.specs.Range.{thread_in_range}
use Rattle.state.proofs.Every.{all_is_every}
use Rattle.state.proofs.threads_in_range.Goals as goal

pub returns : goal.returns
returns c =
    let test = thread_in_range c.args.method c.args.last c.args.h in
    all_from_yields_List test _ _ _ c.all.ensures.ran (YieldsList-from_slice c.args.threads.now cc) (λ x b q k. search (rules, tests)) ∙ all_is_every test c.args.threads.now
