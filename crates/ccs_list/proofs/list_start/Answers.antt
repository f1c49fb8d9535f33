-- What is listed is the listing of the bytes read, which are judged as the whole input. Assumes nothing.
use Rattle.std.proofs.Common.{ℕ, take, ap, ◌∙◌}
use Rattle.bench_file.proofs.Prefix.{judged_by_start}
use Rattle.cells.proofs.Giving.{given_length}
use Rattle.listing.specs.Listing.{listing_of}
use Rattle.listing.proofs.Service.{listed_whole}
use Rattle.ccs_list.proofs.list_start.Goals as goal

pub returns-clause-by_index : goal.returns-clause-by_index
returns-clause-by_index c = λ input e.
    ap (λ (count : ℕ). take count c.list.new.out) (c.unwrap_or.ensures ∙ given_length c.list.result)
    ∙ listed_whole c.list.ensures c.requires.2
    ∙ ap listing_of (judged_by_start input c.requires.1 e)
