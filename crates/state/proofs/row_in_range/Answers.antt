-- `all` asks each of the places that are taken. Assumes nothing.
use Rattle.std.proofs.Common.{◌∙◌, rules, tests}
use Rattle.std.proofs.lemmas.Iterator.{YieldsList-from_slice, YieldsList-from_take}
use Rattle.std.proofs.lemmas.Iterator.Search.{all_from_yields_List}
use Rattle.object.specs.Apply.{knows}
use Rattle.state.proofs.Every.{all_is_every}
use Rattle.state.proofs.row_in_range.Goals as goal

pub returns : goal.returns
returns c =
    let test = knows c.args.kind in
    all_from_yields_List test _ _ _ c.all.ensures.ran (YieldsList-from_take c.args.count (YieldsList-from_slice c.args.requests.now cc) cc) (λ x b q k. search (rules, tests))
    ∙ all_is_every test _
