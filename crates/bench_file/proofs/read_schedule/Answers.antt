-- A length, and then so many entries. Assumes nothing.
use Rattle.std.proofs.Common.{◌≡◌, ◌≤◌, ℕ, List, length, take, drop, sym, ◌∙◌, arith, le-leb}
use Rattle.std.proofs.lemmas.Slice.{between_to_end}
use Rattle.refusal.proofs.Numbers.{passed_on}
use Rattle.std.proofs.lemmas.Bool.{lt-leb}
use Rattle.object.specs.Each.{sum_of}
use Rattle.bench_file.specs.Reading.{little_endian, several}
use Rattle.bench_file.specs.Layout.{entry_reader, schedule_reader}
use Rattle.bench_file.specs.Cursor.{tallied, single}
use Rattle.bench_file.proofs.Reading.{field_whole, field_cut, two_read}
use Rattle.bench_file.proofs.Passes.{tallied_same, single_length, behind}
use Rattle.bench_file.proofs.read_schedule.Goals as goal

-- behind the length the entries are left to read
entries_left : (s : List ℕ) (n : ℕ) {count : ℕ} → 2 ≤ length s → count ≡ little_endian (take 2 s) → count ≤ 32768
    → tallied (sum_of single) (several count (entry_reader n) (drop 2 s)) ≡ tallied length (schedule_reader n s)
unfolding schedule_reader
entries_left s n {count} h e few = simp (field_whole 2 s h, ← e, le-leb _ _ few) (tallied_same (sum_of single) length (several count (entry_reader n) (drop 2 s)) single_length)

pub returns-then-s-lt2-clause-result_value : goal.returns-then-s-lt2-clause-result_value
unfolding schedule_reader
returns-then-s-lt2-clause-result_value c = simp (field_cut 2 c.args.s.now c.if-s-lt2.true)

pub returns-then-count-gt-MOST_ENTRIES-clause-result_value : goal.returns-then-count-gt-MOST_ENTRIES-clause-result_value
unfolding schedule_reader
returns-then-count-gt-MOST_ENTRIES-clause-result_value c =
    simp (field_whole 2 c.args.s.now c.if-s-lt2.false, sym (two_read c.args.s.now 0), ← c.from_le_bytes-count.ensures, lt-leb _ _ c.if-count-gt-MOST_ENTRIES.true)

pub returns-in_err-entries-clause-result_value : goal.returns-in_err-entries-clause-result_value
returns-in_err-entries-clause-result_value c =
    let s = c.args.s.now in
    rw (passed_on c.from_residual.result c.from_residual.ensures)
    (rw (between_to_end s 2 (length s) (omega arith)) at c.in_err-entries.ensures.result_value
    ∙ entries_left s c.args.n c.if-s-lt2.false (c.from_le_bytes-count.ensures ∙ two_read s 0) c.if-count-gt-MOST_ENTRIES.false)

pub returns-clause-result_value : goal.returns-clause-result_value
returns-clause-result_value c =
    let s = c.args.s.now in
    behind s 2 c.in_ok-entries.entries
    ∙ rw (between_to_end s 2 (length s) (omega arith)) at c.in_ok-entries.ensures.result_value
    ∙ entries_left s c.args.n c.if-s-lt2.false (c.from_le_bytes-count.ensures ∙ two_read s 0) c.if-count-gt-MOST_ENTRIES.false
