-- Nothing, or the word behind one space. Assumes nothing.
use Rattle.std.proofs.Common.{Bool, sym, eq-eqb, ne_eqb}
use Rattle.cells.specs.Cells.{word_text}
use Rattle.cells.proofs.Laid.{◌&◌, told, nothing_laid}
use Rattle.listing.specs.Listing.{method_word}
use Rattle.listing.proofs.Head.{spaced_if}
use Rattle.listing.proofs.method_behind.Goals as goal

pub returns-then-version-eq1 : goal.returns-then-version-eq1
returns-then-version-eq1 c =
    told (λ (first : Bool). spaced_if first (word_text (method_word c.args.method))) (sym (eq-eqb _ _ c.if-version-eq1.true)) (nothing_laid _ _)

pub returns : goal.returns
returns c =
    told (λ (first : Bool). spaced_if first (word_text (method_word c.args.method))) (sym (ne_eqb _ _ c.if-version-eq1.false))
    (c.text.ensures & told word_text c.method_word.ensures c.word.ensures)
