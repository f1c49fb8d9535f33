-- A record's line is its row in columns without a width, and shows its call. Assumes the claim, or fields in range whose run meets no null.
use Prim.Native.Nat.{ℕ}
use mathlib.Core.Path.{◌≡◌, ap, ap₂, ◌∙◌}
use mathlib.Core.Bool.{true}
use mathlib.Core.List.{List, ◌++◌, map}
use lib.ListN.{replicate}
use Rattle.bench_file.specs.Layout.{Fields}
use Rattle.bench_file.specs.Bytes.{InRange}
use Rattle.machine.specs.declared.Event.TheVariants.{CallBegins, Returns}
use Rattle.history.specs.Entries.{Entry}
use Rattle.history.specs.Terms.{Call, began_at, returned_at, record_of, number_at}
use Rattle.claims.specs.Entries.{history_of, clear_of}
use Rattle.claims.specs.Claims.{Claimed}
use Rattle.claims.proofs.Bytes.{began_bytes, returned_bytes}
use Rattle.dsm_claims.proofs.Either.{claim_whole}
use Rattle.cells.specs.Text.{text_line}
use Rattle.cells.specs.Cells.{cell_text, Row, row_cells, time_cells, record_cells}
use Rattle.cells.specs.Rows.{row_text}
use Rattle.cells.specs.Shown.{shown_row}
use Rattle.cells.proofs.Rows.{row_bare}
use Rattle.cells.proofs.Shown.{row_shown}
use Rattle.listing.specs.Listing.{record_line}

pub line_set : (order : ℕ) (bytes : List ℕ) → row_text (replicate 11 0) (record_cells order bytes) ≡ record_line order bytes
unfolding record_line record_cells
line_set order bytes = row_bare (record_cells order bytes)

-- the line that shows a call: its row and its time
abbrev pub line_of : Row → ℕ → ℕ → List ℕ
line_of row began returned = text_line (map cell_text (row_cells row ++ time_cells began returned))

abbrev pub shown_line : ℕ → List Entry → Call → List ℕ
shown_line order history c = line_of (shown_row order history c) (began_at c history) (returned_at c history)

-- a record's line shows its call, where the claim says that each number fits its bytes
pub call_shown : (order : ℕ) (history : List Entry) (c : Call) {f : Fields} → Claimed f history → record_line order (record_of history c) ≡ shown_line order history c
unfolding record_line record_cells
call_shown order history c claim =
    ap (λ (row : Row). line_of row (number_at (record_of history c) 16 4) (number_at (record_of history c) 20 4)) (row_shown order history c claim)
    ∙ ap₂ (line_of (shown_row order history c)) (began_bytes history c (claim.numbers_fit c CallBegins)) (returned_bytes history c (claim.numbers_fit c Returns))

-- so in the run of fields in range that meets no null
pub run_shown : (f : Fields) → InRange f → clear_of f ≡ true → (order : ℕ) (c : Call) → record_line order (record_of (history_of f) c) ≡ shown_line order (history_of f) c
run_shown f fits clear order c = call_shown order (history_of f) c (claim_whole f.head.method f fits clear)
