-- How long the lines of a listing are at most, and a listing. Assumes at most 256 records, and a version of one digit.
use Prim.Native.Nat.{ℕ, ◌+◌, ◌≤◌, ◌<◌}
use native.Mathlib.Omega.{arith}
use mathlib.Core.Bool.{Bool, true, false, cond}
use mathlib.Core.List.{List, [], ◌∷◌, ◌++◌}
use lib.ListN.{length, length-append}
use lib.Dec.{eqb}
use Rattle.object.specs.declared.Kind.{Kind}
use Rattle.bench_file.specs.declared.Head.{Head}
use Rattle.machine.specs.declared.Method.{Method}
use Rattle.machine.specs.declared.Method.TheVariants.{CcSynch, DsmSynch}
use Rattle.machine.specs.Sizes.{most_calls}
use Rattle.state.specs.declared.Counts.{Counts}
use Rattle.history.specs.Terms.{no_thread, no_turn, no_entry, number_at}
use Rattle.cells.specs.Text.{numbered}
use Rattle.cells.specs.Cells.{word_text, value_cell, or_hyphen, state_word, row_in, record_cells}
use Rattle.cells.proofs.Decimal.{at_most, no_longer}
use Rattle.cells.proofs.Numbered.{numbered_most}
use Rattle.cells.proofs.Rows.{taken, line_length}
use Rattle.cells.proofs.Words.{word_length, mark_length, cell_length}
use Rattle.listing.specs.Listing.{kind_word, method_word, object_words, head_line, record_line}
use Rattle.listing.specs.Promise.{head_most, line_most, enough_bytes}

kind_length : (kind : Kind) → length (word_text (kind_word kind)) ≤ 7
kind_length Kind.Queue = omega arith
kind_length Kind.Stack = omega arith
kind_length Kind.Counter = omega arith

method_length : (method : Method) → length (word_text (method_word method)) ≤ 3
method_length CcSynch = omega arith
method_length DsmSynch = omega arith

-- a word that may stand there
taken_if : (first : Bool) (word : List ℕ) (words : List (List ℕ)) → taken (cond first [] (word ∷ []) ++ words) ≤ length word + 1 + taken words
unfolding taken
taken_if true word words = omega arith
taken_if false word words = omega arith

pub head_length_lem : (head : Head) (counts : Counts) → head.version < 10 → length (head_line head counts) ≤ head_most
unfolding head_line taken
head_length_lem head counts one_digit =
    rw line_length
    (omega (
      arith,
      no_longer 9 0 head.version one_digit,
      taken_if (eqb head.version 1) (word_text (method_word head.method)) (object_words head counts),
      method_length head.method,
      kind_length head.object,
      at_most 9 head.n,
      at_most 9 head.h,
      at_most 9 counts.records,
      at_most 9 counts.turns,
      at_most 9 counts.blanks,
      at_most 9 counts.spins,
      at_most 9 counts.remote,
    ))

pub line_most_lem : (order : ℕ) (bytes : List ℕ) → length (record_line order bytes) ≤ line_most
unfolding record_line record_cells taken
line_most_lem order bytes =
    let row = row_in order bytes in
    rw line_length
    (omega (
      arith,
      at_most 9 order,
      at_most 9 row.thread,
      at_most 9 row.request,
      mark_length row.ret,
      cell_length (value_cell row.ret),
      cell_length (or_hyphen no_thread.0 row.server),
      cell_length (or_hyphen no_turn row.turn),
      at_most 9 row.remote,
      word_length (state_word row.returned),
      at_most 9 (number_at bytes 16 4),
      cell_length (or_hyphen no_entry (number_at bytes 20 4)),
    ))

pub listing_length : (head : Head) (counts : Counts) (records : List (List ℕ)) → head.version < 10 → length records ≤ most_calls
    → length (head_line head counts ++ numbered record_line 0 records) ≤ enough_bytes
listing_length head counts records one_digit few =
    rw length-append (omega (arith, head_length_lem head counts one_digit, numbered_most record_line line_most line_most_lem 0 records))
