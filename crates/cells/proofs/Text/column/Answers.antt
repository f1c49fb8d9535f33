-- The cell's text stands in a text of its own, between the spaces that it lacks of its column's width. Assumes nothing.
use Rattle.std.proofs.Common.{◌≡◌, ℕ, ◌-◌, List, ◌++◌, length, ap, ◌∙◌, arith}
use Rattle.cells.specs.Cells.{cell_text}
use Rattle.cells.specs.Laid.{Laid}
use Rattle.cells.specs.Text.{spaces}
use Rattle.cells.proofs.Laid.{◌&◌, told, front}
use Rattle.cells.proofs.Rows.{between, number_right, word_left}
use Rattle.cells.proofs.Words.{cell_length}
use Rattle.cells.proofs.Text.column.Goals as goal
use Rattle.cells.proofs.Text.column.Goals.{After-spaces-2, in-Number, in-Says}

module _ {g : _} (c : After-spaces-2 g) where
  text : c.cell.new.self ≡ cell_text c.args.cell
  text = front c.new-words.ensures c.cell.ensures (cell_length c.args.cell)

  lacks : c.saturating_sub-lack.result ≡ c.args.width - length (cell_text c.args.cell)
  lacks = omega (arith, c.saturating_sub-lack.ensures, ap length c.bytes.ensures, ap length text)

  laid : Laid g.row.N c.args.self.now (between c.args.width c.args.cell c.match-cell.before) c.spaces-2.new.self
  laid =
      let sides = c.match-cell.before in
      told (λ (words : List ℕ). spaces sides.0 ++ (words ++ spaces sides.1)) (c.bytes-2.ensures ∙ text) (c.spaces.ensures & c.text.ensures & c.spaces-2.ensures)

pub returns : goal.returns
returns g c =
    let width = c.args.width in
    let cell = c.args.cell in
    elim c.match-cell.branch [
      | in-Number w ↦ told (λ words. words) (ap (between width cell) (w.before-is ∙ ap (λ (lack : ℕ). (lack, 0)) (lacks c)) ∙ number_right width cell w.in-Number.is) (laid c)
      | in-Says w ↦ told (λ words. words) (ap (between width cell) (w.before-is ∙ ap (λ (lack : ℕ). (0, lack)) (lacks c)) ∙ word_left width cell w.in-Says.is) (laid c)
    ]
