-- Mark and version are two fields, each cut off or judged by its rule. Assumes nothing.
use Rattle.std.proofs.Common.{◌≡◌, ◌≤◌, ℕ, true, List, [], ◌∷◌, length, take, drop, slice_index_or, sym, ◌∙◌, arith}
use Rattle.std.specs.Int.{w16, from_le_bytes}
use Rattle.bench_file.specs.Reading.{◌>>=◌, ◌>>◌, done, rule, number}
use Rattle.bench_file.specs.Layout.{version_known, is_mark, start_reader}
use Rattle.bench_file.proofs.Reading.{field_whole, field_cut, field_at, field_cut_at, two_read}
use Rattle.bench_file.proofs.read_start.Goals as goal

-- behind the mark the version is left to read, and behind the version its rule
module _ (s : List ℕ) (marked : is_mark (take 3 s) ≡ true) where
  version_left : 3 ≤ length s → start_reader s ≡ (number 2 >>= λ version. rule 3 (version_known version) >> done version) (drop 3 s)
  unfolding start_reader
  version_left h = simp (field_whole 3 s h, marked)

  rule_left : 5 ≤ length s → {version : ℕ} → version ≡ from_le_bytes w16 (slice_index_or s 3 0 ∷ slice_index_or s 4 0 ∷ [])
      → start_reader s ≡ (rule 3 (version_known version) >> done version) (drop 5 s)
  rule_left h e = version_left (omega arith) ∙ simp (field_at s 3 2 h, sym (two_read s 3), ← e)

pub returns-then-s-lt-MARK : goal.returns-then-s-lt-MARK
unfolding start_reader
returns-then-s-lt-MARK c = simp (field_cut 3 c.args.s.now c.if-s-lt-MARK.true)

pub returns-then-not-is_mark : goal.returns-then-not-is_mark
unfolding start_reader
returns-then-not-is_mark c =
    simp (field_whole 3 c.args.s.now c.if-s-lt-MARK.false, sym c.is_mark.ensures ∙ c.if-not-is_mark.true)

pub returns-then-s-lt5 : goal.returns-then-s-lt5
returns-then-s-lt5 c =
    let s = c.args.s.now in
    rw (version_left s (sym c.is_mark.ensures ∙ c.if-not-is_mark.false) c.if-s-lt-MARK.false)
    (simp (field_cut_at s 3 2 c.if-s-lt-MARK.false c.if-s-lt5.true))

pub returns-then-version_known : goal.returns-then-version_known
returns-then-version_known c =
    rw (rule_left c.args.s.now (sym c.is_mark.ensures ∙ c.if-not-is_mark.false) c.if-s-lt5.false c.from_le_bytes-version.ensures)
    (simp (sym c.version_known.ensures ∙ c.if-version_known.true))

pub returns : goal.returns
returns c =
    rw (rule_left c.args.s.now (sym c.is_mark.ensures ∙ c.if-not-is_mark.false) c.if-s-lt5.false c.from_le_bytes-version.ensures)
    (simp (sym c.version_known.ensures ∙ c.if-version_known.false))
