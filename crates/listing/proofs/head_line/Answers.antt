-- Mark and version, the method, the object, n and h, and the counts. Assumes nothing.
use Rattle.std.proofs.Common.{ℕ, List, ◌++◌, eqb}
use Rattle.cells.specs.Cells.{word_text}
use Rattle.cells.specs.Text.{text, decimal}
use Rattle.cells.proofs.Laid.{◌&◌, told}
use Rattle.listing.specs.Listing.{method_word, object_words, head_line}
use Rattle.listing.proofs.Head.{behind_method}
use Rattle.listing.proofs.head_line.Goals as goal

pub returns : goal.returns
unfolding head_line
returns c =
    let head = c.args.head in
    told (λ (words : List ℕ). text "CCS " ++ (decimal head.version ++ words))
    (behind_method (eqb head.version 1) (word_text (method_word head.method)) (object_words head c.args.counts))
    (c.named.ensures
    & c.method_behind.ensures
    & c.text.ensures
    & told word_text c.kind_word.ensures c.word.ensures
    & c.named-2.ensures
    & c.named-3.ensures
    & c.counts_end.ensures)
