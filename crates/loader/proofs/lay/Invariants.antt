-- the requests that are left, laid where the next stands, give the whole
use Rattle.std.proofs.Common.{◌≡◌, ◌+◌, ◌*◌, ◌-◌, drop}
use Rattle.std.proofs.lemmas.List.Edits.{sets}
use Rattle.loader.specs.Load.{requests_in}
use Rattle.loader.proofs.lay.Given as goal

abbrev pub invariant-loop-k : goal.invariant-loop-k
invariant-loop-k l =
    sets l.requests (l.first + l.k) (requests_in (l.count - l.k) (drop (5 * l.k) l.bytes)) ≡ sets l.initial.requests l.first (requests_in l.count l.bytes)
