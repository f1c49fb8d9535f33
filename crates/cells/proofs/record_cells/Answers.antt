-- Each cell stands for its bytes. Assumes nothing.
use Rattle.std.proofs.Common.{◌∙◌, ap₂}
use Rattle.cells.specs.Cells.{ret_of, record_cells}
use Rattle.cells.proofs.record_cells.Goals as goal

pub returns : goal.returns
unfolding record_cells
returns c =
    rw (
      c.value_cell-value.ensures,
      c.mark_word-mark.ensures,
      c.ret_of-ret.ensures ∙ ap₂ ret_of c.byte.ensures c.number4.ensures,
      c.or_hyphen-server.ensures,
      c.byte-2.ensures,
      c.or_hyphen-turn.ensures,
      c.number2.ensures,
      c.state_word-state.ensures,
      c.byte-3.ensures,
      c.or_hyphen-returned.ensures,
      c.number4-2.ensures,
      c.byte-4.ensures,
      c.byte-5.ensures,
      c.number4-3.ensures,
      c.number4-4.ensures,
    )
