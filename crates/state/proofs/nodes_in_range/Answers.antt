-- `all` asks each. Assumes nothing.
use Rattle.std.proofs.Common.{◌∙◌, rules, tests}
use Rattle.std.proofs.lemmas.Iterator.{YieldsList-from_slice}
use Rattle.std.proofs.lemmas.Iterator.Search.{all_from_yields_List}
use Rattle.state.specs.Range.{node_in_range}
use Rattle.state.proofs.Every.{all_is_every}
use Rattle.state.proofs.nodes_in_range.Goals as goal

pub returns : goal.returns
returns c =
    let test = node_in_range c.args.kind c.args.capacity c.args.last in
    all_from_yields_List test _ _ _ c.all.ensures.ran (YieldsList-from_slice c.args.nodes.now cc) (λ x b q k. search (rules, tests)) ∙ all_is_every test c.args.nodes.now
