-- The three accesses are referred in turn, each from what the one before it left. Assumes nothing.
use Rattle.std.proofs.Common.{◌++◌, sym, ◌∙◌}
use Rattle.machine.specs.Accesses.{access_to}
use Rattle.copies.proofs.References.{two_referred, all_made}
use Rattle.copies.proofs.refer_all.Goals as goal

pub returns-clause-value : goal.returns-clause-value
returns-clause-value c =
    let a = c.args in
    let to = access_to a.node a.behind in
    let one = c.refer-one.ensures in
    let two = c.refer-two.ensures in
    let three = c.refer-three.ensures in
    let both =
    two_referred a.method a.n a.thread.0 a.copies.now (to a.row.first) (to a.row.second ++ to a.row.third) (one.value, one.copies_after)
    (two_referred a.method a.n a.thread.0 _ (to a.row.second) (to a.row.third) (two.value, two.copies_after) (three.value, three.copies_after)) in
    rw (all_made a.row a.node a.behind (sym c.only_first.ensures ∙ c.if-only_first.false)) both.0
