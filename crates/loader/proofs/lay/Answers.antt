-- One step of the loop lays the next request. Assumes nothing.
use Rattle.std.proofs.Common.{◌*◌, length, ◌∙◌, arith, rules}
use Rattle.std.proofs.lemmas.Slice.{between_to_end}
use Rattle.loader.proofs.Decoded.{laid_more}
use Rattle.loader.proofs.lay.Goals as goal

pub loop-k-preserved : goal.loop-k-preserved
loop-k-preserved c =
    let a = c.args in
    let l = c.loop-k in
    laid_more l.requests a.first a.bytes.now a.count l.k (search rules) (rw (between_to_end a.bytes.now (5 * l.k) (length a.bytes.now) (omega arith)) at c.request_in-request.ensures) ∙ l.invariant
