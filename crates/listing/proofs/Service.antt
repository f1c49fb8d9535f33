-- What `run` and `judge` leave gives the listing of the file, accepted or refused; and what is given of it is promised. Assumes their promises.
use Prim.Native.Nat.{ℕ, ◌≤◌, ◌<◌}
use native.Mathlib.Omega.{arith}
use mathlib.Core.Path.{◌≡◌, refl, sym, ap, ◌∙◌}
use mathlib.Core.List.{List, ◌++◌}
use lib.ListN.{length, take}
use Rattle.std.specs.Prelude.{Ok, Err}
use Rattle.bench_file.specs.declared.Head.{Head}
use Rattle.bench_file.specs.declared.Judged.{Judged}
use Rattle.bench_file.specs.Layout.{Judgement, judge_of}
use Rattle.bench_file.specs.Promise.{judged_as}
use Rattle.bench_file.proofs.Judging.{head_of, refused_number}
use Rattle.state.specs.declared.Counts.{Counts}
use Rattle.claims.specs.Result.{result_as}
use Rattle.bench.specs.Run.{records_laid}
use Rattle.bench.proofs.Enough.{Ran, by_refusal}
use Rattle.bench.proofs.InPlace.{laid_count}
use Rattle.cells.specs.Text.{numbered}
use Rattle.cells.specs.Promise.{Printed, Gives, refusal_line}
use Rattle.cells.proofs.Giving.{inside, untouched, not_refused, stands}
use Rattle.cells.proofs.Words.{refusal_length}
use Rattle.listing.specs.Listing.{head_line, record_line, listing_of}
use Rattle.listing.specs.Promise.{enough_bytes, Lists}
use Rattle.listing.proofs.Lengths.{listing_length}

-- a run that is not refused, of a file with a head that the judge has told
module _ {bytes records : List ℕ} {counts : Counts} (ran : Ran bytes records counts) {judged : Judged} (is : Ok judged ≡ judged_as (judge_of bytes)) where
  head_is : ran.fields.head ≡ judged.head
  head_is = head_of ran.fields (is ∙ ap judged_as ran.judged)

  pub one_digit : judged.head.version < 10
  one_digit = omega (arith, ap (λ (h : Head). h.version) head_is, ran.in_range.head.version)

  -- its words are the listing
  run_listed : head_line judged.head counts ++ numbered record_line 0 (records_laid counts.records records) ≡ listing_of (judge_of bytes)
  unfolding listing_of
  run_listed = rw (ran.judged, ran.clear, ran.in_buffer, ← head_is, ran.counted)

refusal_listed : (j : Judgement) → ((result_as j).refusal ≡ 0 → ⊥) → refusal_line (result_as j).refusal ≡ listing_of j
unfolding listing_of
refusal_listed j some = sym (by_refusal listing_of refusal_line (λ number. refl) (λ f met. rw met) j some)

-- what is given of a file's listing is promised
lists : (bytes : List ℕ) {words old new : List ℕ} {r : Printed} → words ≡ listing_of (judge_of bytes) → length words ≤ enough_bytes → Gives words old new r → Lists bytes old new r
lists bytes e most g = record { gives = rw (← e) g; enough = λ room. ap (λ (a : Printed). a.refusal) (not_refused g (omega arith)); inside = inside g; untouched = untouched g }

pub lists_run : (bytes records : List ℕ) (counts : Counts) {judged : Judged} {old new : List ℕ} {r : Printed} → Ran bytes records counts
    → Ok judged ≡ judged_as (judge_of bytes)
    → Gives (head_line judged.head counts ++ numbered record_line 0 (records_laid counts.records records)) old new r → Lists bytes old new r
lists_run bytes records counts {judged} ran is =
    lists bytes (run_listed ran is)
    (listing_length judged.head counts (records_laid counts.records records) (one_digit ran is) (omega (arith, laid_count counts.records records, ran.few)))

-- a run that is refused
pub lists_null : (bytes : List ℕ) (number : ℕ) {old new : List ℕ} {r : Printed} → number ≡ (result_as (judge_of bytes)).refusal → (number ≡ 0 → ⊥)
    → Gives (refusal_line number) old new r → Lists bytes old new r
lists_null bytes number is some = lists bytes (ap refusal_line is ∙ refusal_listed (judge_of bytes) (λ z. some (is ∙ z))) (omega (arith, refusal_length number))

-- a file that is refused
own_listed : (j : Judgement) {number : ℕ} → Err number ≡ judged_as j → refusal_line number ≡ listing_of j
unfolding listing_of
own_listed j e = rw (refused_number j e)

pub lists_refusal : (bytes : List ℕ) (number : ℕ) {old new : List ℕ} {r : Printed} → Err number ≡ judged_as (judge_of bytes) → Gives (refusal_line number) old new r → Lists bytes old new r
lists_refusal bytes number e = lists bytes (own_listed (judge_of bytes) e) (omega (arith, refusal_length number))

-- a buffer that is large enough holds the whole listing
pub listed_whole : {bytes old new : List ℕ} {r : Printed} → Lists bytes old new r → enough_bytes ≤ length old → take r.length new ≡ listing_of (judge_of bytes)
listed_whole l room = stands l.gives (l.enough room)
