-- The listing of a file: document 01, 'The record of a call', and request No. 6.
use Rattle.std.specs.Prelude.{ℕ, cond, List, [], ◌∷◌, ◌++◌, map, eqb}
use Rattle.object.specs.declared.Kind.{Kind}
use Rattle.bench_file.specs.declared.Head.{Head}
use Rattle.bench_file.specs.Layout.{Judgement, accepted, refused_by}
use Rattle.machine.specs.declared.Method.{Method}
use Rattle.machine.specs.declared.Method.TheVariants.{CcSynch, DsmSynch}
use Rattle.state.specs.declared.Counts.{Counts}
use Rattle.history.specs.Terms.{records_of, counts_of}
use Rattle.claims.specs.Entries.{history_of, clear_of}
use Rattle.cells.specs.declared.Word.{Word}
use Rattle.cells.specs.declared.Word.TheVariants.{Queue, Stack, Counter, Cc, Dsm}
use Rattle.cells.specs.Text.{text, decimal, text_line, numbered}
use Rattle.cells.specs.Cells.{word_text, cell_text, record_cells}
use Rattle.cells.specs.Promise.{refusal_line}

-- the object's word
abbrev pub kind_word : Kind → Word
kind_word Kind.Queue = Queue
kind_word Kind.Stack = Stack
kind_word Kind.Counter = Counter

-- the method's word, which a file of version 1 does not show
abbrev pub method_word : Method → Word
method_word CcSynch = Cc
method_word DsmSynch = Dsm

abbrev pub method_words : ℕ → Method → List (List ℕ)
method_words version method = cond (eqb version 1) [] (word_text (method_word method) ∷ [])

-- the five counts of the head line
abbrev pub count_words : Counts → List (List ℕ)
count_words counts =
    (text "calls=" ++ decimal counts.records)
    ∷ (text "turns=" ++ decimal counts.turns)
    ∷ (text "blank=" ++ decimal counts.blanks)
    ∷ (text "spin=" ++ decimal counts.spins)
    ∷ (text "remote=" ++ decimal counts.remote)
    ∷ []

-- object, n, h and the five counts
abbrev pub object_words : Head → Counts → List (List ℕ)
object_words head counts = word_text (kind_word head.object) ∷ (text "n=" ++ decimal head.n) ∷ (text "h=" ++ decimal head.h) ∷ count_words counts

-- mark, version, method and the rest
unfoldable pub head_line : Head → Counts → List ℕ
head_line head counts =
    text_line (text "CCS" ∷ decimal head.version ∷ (method_words head.version head.method ++ object_words head counts))

-- the line of a record, from its order and its bytes: all its cells
unfoldable pub record_line : ℕ → List ℕ → List ℕ
record_line order bytes = text_line (map cell_text (record_cells order bytes))

-- the listing of a file that is judged: its refusal, or the head line and a line a record of its run; 14 if an entry meets null
unfoldable pub listing_of : Judgement → List ℕ
listing_of (accepted f) =
    let history = history_of f in
    cond (clear_of f) (head_line f.head (counts_of history) ++ numbered record_line 0 (records_of history)) (refusal_line 14)
listing_of (refused_by number) = refusal_line number
