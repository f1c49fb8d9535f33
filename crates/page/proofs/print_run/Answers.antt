-- The pages of a run are laid in a text that has room for them, and given. Assumes nothing.
use Rattle.cells.proofs.Giving.{given}
use Rattle.page.proofs.print_run.Goals as goal

pub returns : goal.returns
returns c = given c.new-pages.ensures c.record_pages.ensures c.requires.records_len_bound c.bytes.ensures c.give.ensures
