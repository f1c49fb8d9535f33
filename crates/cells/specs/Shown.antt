-- The row that a call must have, from the entries of its run alone.
use Rattle.std.specs.Prelude.{ℕ, List}
use Rattle.history.specs.Entries.{Entry}
use Rattle.history.specs.Terms.{Call, shown_of, servings, cost_of, returned}
use Rattle.cells.specs.Cells.{Row}

-- the row that shows a call: thread, request, how it was served, its remote references, and whether it has returned
abbrev pub shown_row : ℕ → List Entry → Call → Row
shown_row order history c =
    let w = shown_of c (servings history) in
    record {
      order = order;
      thread = c.thread.0;
      request = c.request;
      ret = w.ret;
      server = w.server.0;
      turn = w.turn;
      remote = cost_of c history;
      returned = returned c history;
    }
