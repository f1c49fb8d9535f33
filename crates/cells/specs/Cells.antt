-- The cells of a record: which number or word stands in each place. Document 01, 'The record of a call', and requests No. 1 and No. 3.
use Rattle.std.specs.Prelude.{ℕ, Bool, cond, List, [], ◌∷◌, ◌++◌, get_or, eqb, Option, Some, None}
use Rattle.object.specs.declared.Answer.{Answer}
use Rattle.history.specs.Terms.{no_thread, no_turn, no_entry, number_at}
use Rattle.cells.specs.declared.Word.{Word}
use Rattle.cells.specs.declared.Word.TheVariants.{Queue, Stack, Counter, Done, Value, Empty, Full, NoAnswer, Hyphen, Returned, Open, Cc, Dsm}
use Rattle.cells.specs.declared.Cell.{Cell}
use Rattle.cells.specs.declared.Cell.TheVariants.{Number, Says}
use Rattle.cells.specs.Text.{text, decimal}

-- how a word is written
abbrev pub word_text : Word → List ℕ
word_text Queue = text "queue"
word_text Stack = text "stack"
word_text Counter = text "counter"
word_text Done = text "done"
word_text Value = text "value"
word_text Empty = text "empty"
word_text Full = text "full"
word_text NoAnswer = text "none"
word_text Hyphen = text "-"
word_text Returned = text "returned"
word_text Open = text "open"
word_text Cc = text "cc"
word_text Dsm = text "dsm"

-- a number in decimal, or a word
abbrev pub cell_text : Cell → List ℕ
cell_text (Number n) = decimal n
cell_text (Says word) = word_text word

-- the response that a mark and a value stand for; 255, like every number that is no answer's mark, stands for none
abbrev pub ret_of : ℕ → ℕ → Option Answer
ret_of mark value =
    get_or (Some (Answer.Done value) ∷ Some (Answer.Value value) ∷ Some Answer.Empty ∷ Some Answer.Full ∷ []) mark None

-- mark word: done, value, empty, full, or none before serving
abbrev pub answer_word : Answer → Word
answer_word (Answer.Done count) = Done
answer_word (Answer.Value v) = Value
answer_word Answer.Empty = Empty
answer_word Answer.Full = Full

abbrev pub mark_word : Option Answer → Word
mark_word None = NoAnswer
mark_word (Some answer) = answer_word answer

-- a done put prints its count and a value itself; any other response prints a hyphen
abbrev pub answer_cell : Answer → Cell
answer_cell (Answer.Done count) = Number count
answer_cell (Answer.Value v) = Number v
answer_cell Answer.Empty = Says Hyphen
answer_cell Answer.Full = Says Hyphen

abbrev pub value_cell : Option Answer → Cell
value_cell None = Says Hyphen
value_cell (Some answer) = answer_cell answer

-- a number, or a hyphen where it is that of none: server and turn before serving, the return while the call is open
abbrev pub or_hyphen : ℕ → ℕ → Cell
or_hyphen none number = cond (eqb number none) (Says Hyphen) (Number number)

-- `returned` or `open`
abbrev pub state_word : Bool → Word
state_word returned = cond returned Returned Open

-- the fields of a call that a row shows: its order from 0, thread, request, response, serving thread and turn (255 and 65,535 for none), remote references, and
-- whether it has returned
pub record Row : Type 0 where
  pub order : ℕ
  pub thread : ℕ
  pub request : ℕ
  pub ret : Option Answer
  pub server : ℕ
  pub turn : ℕ
  pub remote : ℕ
  pub returned : Bool

-- their cells: the response has two, mark word and value
abbrev pub row_cells : Row → List Cell
row_cells row =
    Number row.order
    ∷ Number row.thread
    ∷ Number row.request
    ∷ Says (mark_word row.ret)
    ∷ value_cell row.ret
    ∷ or_hyphen no_thread.0 row.server
    ∷ or_hyphen no_turn row.turn
    ∷ Number row.remote
    ∷ Says (state_word row.returned)
    ∷ []

-- the numbers of the entries that the call began and returned with
abbrev pub time_cells : ℕ → ℕ → List Cell
time_cells began returned = Number began ∷ or_hyphen no_entry returned ∷ []

-- byte i of a record
abbrev pub byte_at : List ℕ → ℕ → ℕ
byte_at bytes i = get_or bytes i 0

-- the row of a record, from its order and its bytes; byte 12 is 1 once the call has returned
abbrev pub row_in : ℕ → List ℕ → Row
row_in order bytes = record {
  order = order;
  thread = byte_at bytes 0;
  request = byte_at bytes 1;
  ret = ret_of (byte_at bytes 2) (number_at bytes 4 4);
  server = byte_at bytes 3;
  turn = number_at bytes 13 2;
  remote = number_at bytes 8 4;
  returned = eqb (byte_at bytes 12) 1;
}

-- all cells of a record: those of its row, and its time
unfoldable pub record_cells : ℕ → List ℕ → List Cell
record_cells order bytes = row_cells (row_in order bytes) ++ time_cells (number_at bytes 16 4) (number_at bytes 20 4)
