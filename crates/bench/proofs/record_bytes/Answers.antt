-- The bytes of a record, field by field. Assumes nothing.
use Rattle.std.proofs.Common.{not, eqb, ◌∙◌}
use Rattle.history.specs.Terms.{no_entry}
use Rattle.bench_writer.proofs.Spelled.{two_bytes}
use Rattle.bench.proofs.Spelled.{one_or_none, four_bytes}
use Rattle.bench.proofs.record_bytes.Goals as goal

pub returns : goal.returns
returns c =
    let k = c.args.kept in
    rw (
      c.copy_from_slice-5.ensures.after,
      c.copy_from_slice-4.ensures.after,
      c.copy_from_slice-3.ensures.after,
      c.copy_from_slice-2.ensures.after,
      c.copy_from_slice.ensures.after,
      c.to_le_bytes.ensures,
      c.to_le_bytes-2.ensures,
      c.to_le_bytes-3.ensures,
      c.to_le_bytes-4.ensures,
      c.to_le_bytes-5.ensures,
      c.from.ensures ∙ one_or_none (not (eqb k.returned no_entry)),
      ← four_bytes k.value,
      ← four_bytes k.remote,
      ← two_bytes k.turn,
      ← four_bytes k.began,
      ← four_bytes k.returned,
    )
