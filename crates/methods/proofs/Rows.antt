-- The rows of all lines as a list: place k holds that of line k. Assumes nothing.
use Rattle.std.proofs.Common.{◌≡◌, ℕ, ◌<◌, List, map, get_or, arith}
use Rattle.std.proofs.lemmas.List.FromFn.{get_or-map-range_with_len}
use Rattle.machine.specs.declared.Method.{Method}
use Rattle.machine.specs.declared.Row.{Row}
use Rattle.machine.specs.Lines.{up_from}
use Rattle.methods.specs.Methods.{row_by}

abbrev pub all_rows : Method → List Row
all_rows m = map (row_by m) (up_from 0 29)

pub row_at : (m : Method) (k : ℕ) → k < 29 → get_or (all_rows m) k (row_by m 0) ≡ row_by m k
row_at m k h = get_or-map-range_with_len (row_by m) 0 29 k k (row_by m 0) h (omega arith)
