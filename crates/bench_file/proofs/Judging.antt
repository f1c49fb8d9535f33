-- What the judge answers goes by the head, and then by how many requests and entries are read: `judged_as` of `judge_of`. Assumes nothing.
use Prim.Native.Nat.{ℕ}
use native.Mathlib.Omega.{arith}
use mathlib.Core.Path.{◌≡◌, refl, sym, ap}
use mathlib.Core.List.{List, [], ◌∷◌}
use lib.ListN.{length, drop}
use Rattle.object.specs.declared.Request.{Request}
use Rattle.bench_file.specs.declared.Head.{Head}
use Rattle.std.specs.Prelude.{Result, Ok, Err}
use Rattle.bench_file.specs.declared.Judged.{Judged}
use Rattle.bench_file.specs.Reading.{Outcome, refused, read, Reader, after, ◌>>=◌, ◌>>◌, done, several, end}
use Rattle.bench_file.specs.Layout.{Fields, head_length, head_reader, row_reader, schedule_reader, file_reader, Judgement, accepted, refused_by, judged, judge_of}
use Rattle.object.specs.Each.{Each, sum_of}
use Rattle.bench_file.specs.Bytes.{Byte, Tabled}
use Rattle.bench_file.specs.Cursor.{tallied, schedule_as, rows_as}
use Rattle.bench_file.specs.Promise.{judged_as, judged_refusal, Judges}
use Rattle.bench_file.proofs.Numbered.{refused_tabled}
use Rattle.bench_file.proofs.RoundTrip.{accepted_exactly}

-- what the file's reader reads behind the schedule, and behind the rows
abbrev behind_schedule : Head → List (List Request) → List ℕ → Reader Fields
behind_schedule head rows schedule = end >> done (record { head = head; rows = rows; schedule = schedule })

abbrev behind_rows : Head → List (List Request) → Reader Fields
behind_rows head rows = schedule_reader head.n >>= behind_schedule head rows

from_schedule : (head : Head) (rows : List (List Request)) (o : Outcome (List ℕ))
    → judged_as (judged (after o (behind_schedule head rows))) ≡ schedule_as head (sum_of length rows) (tallied length o)
unfolding end
from_schedule head rows (refused refusal) = refl
from_schedule head rows (read schedule []) = refl
from_schedule head rows (read schedule (b ∷ rest)) = refl

from_rows : (head : Head) (o : Outcome (List (List Request)))
    → judged_as (judged (after o (behind_rows head))) ≡ rows_as head (tallied (sum_of length) o)
from_rows head (refused refusal) = refl
from_rows head (read rows rest) = from_schedule head rows (schedule_reader head.n rest)

pub judged_head : (s : List ℕ) (head : Head) → head_reader s ≡ read head (drop (head_length head.version) s)
    → judged_as (judge_of s) ≡ rows_as head (tallied (sum_of length) (several head.n (row_reader head.object) (drop (head_length head.version) s)))
unfolding judge_of file_reader
judged_head s head e = rw e (from_rows head (several head.n (row_reader head.object) (drop (head_length head.version) s)))

pub judged_refused : (s : List ℕ) (refusal : ℕ) → head_reader s ≡ refused refusal → judged_as (judge_of s) ≡ Err refusal
unfolding judge_of file_reader
judged_refused s refusal e = rw e

-- what the judge's answer says of the judgement
pub apart : {judged : Judged} {number : ℕ} → ◌≡◌ {A = Result Judged ℕ} (Ok judged) (Err number) → ⊥
apart e = let z : ◌≡◌ {A = ℕ} 0 1 = cc in omega arith

pub head_of : (f : Fields) {judged : Judged} → Ok judged ≡ judged_as (accepted f) → f.head ≡ judged.head
head_of f {judged} e =
    let z : judged ≡ record { head = f.head; requests = sum_of length f.rows; entries = length f.schedule } = cc in
    ap (λ (j : Judged). j.head) (sym z)

pub accepted_fields : (j : Judgement) {judged : Judged} → Ok judged ≡ judged_as j → (f : Fields) × (j ≡ accepted f) × (f.head ≡ judged.head)
accepted_fields (accepted f) e = (f, refl, head_of f e)
accepted_fields (refused_by number) e = absurd (apart e)

pub refused_number : (j : Judgement) {number : ℕ} → Err number ≡ judged_as j → j ≡ refused_by number
refused_number (accepted f) e = absurd (apart (sym e))
refused_number (refused_by n) e = ap refused_by cc

-- what a judgement's number says of it
number_of : (bs : List ℕ) (j : Judgement) → judge_of bs ≡ j
    → ((judged_refusal (judged_as j) ≡ 0 → ⊥) → Tabled (judged_refusal (judged_as j))) × (judged_refusal (judged_as j) ≡ 0 → (f : Fields) × (judge_of bs ≡ accepted f))
number_of bs (accepted f) e = (λ z. absurd (z refl), λ z. (f, e))
number_of bs (refused_by refusal) e = (λ z. refused_tabled bs refusal e, λ z. absurd (omega (arith, refused_tabled bs refusal e)))

pub judges : (bs : List ℕ) {r : Result Judged ℕ} → Each Byte bs → r ≡ judged_as (judge_of bs) → Judges bs r
judges bs p e =
    let n = number_of bs (judge_of bs) refl in
    record {
      answer = e;
      exactly = λ f. accepted_exactly bs f p;
      counts = λ f a. rw (e, a) (refl, refl);
      refused = λ refusal a. rw (e, a) (refl, refl, refl);
      numbers = rw e n.0;
      zero = rw e n.1;
    }
