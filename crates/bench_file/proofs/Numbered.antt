-- A reader that refuses gives a number of the papers' table for files, 1 to 12 or 15, and so never 0, which stands for no refusal. Assumes nothing.
use Prim.Native.Nat.{ℕ, zero, suc}
use native.Mathlib.Decide.{dec_le}
use native.Mathlib.Omega.{arith}
use mathlib.Core.Path.{◌≡◌, refl}
use mathlib.Core.Bool.{Bool, true, false}
use mathlib.Core.List.{List, [], ◌∷◌}
use lib.ListN.{length}
use lib.Dec.{leb, eqb}
use Rattle.object.specs.declared.Kind.{Kind}
use Rattle.object.proofs.Choice.{either}
use Rattle.object.specs.Paper.{kind_of, request_of, value_allowed}
use Rattle.bench_file.specs.Reading.{Outcome, refused, read, Reader, after, done, rule, field, little_endian, number, byte, ruled_byte, several, end}
use Rattle.bench_file.specs.Layout.{Fields, version_known, is_mark, start_reader, method_reader, limits_reader, head_reader, request_reader, row_reader, schedule_reader, file_reader, refused_by, judged, judge_of}
use Rattle.bench_file.specs.Cursor.{tallied}
use Rattle.bench_file.specs.Bytes.{Tabled}
use Rattle.bench_file.proofs.Reading.{field_whole, field_cut}

pub record Numbered {A : Type 0} (reader : Reader A) : Type 0 where
  pub tabled : (bs : List ℕ) (refusal : ℕ) → reader bs ≡ refused refusal → Tabled refusal

pub done_numbered : {A : Type 0} (a : A) → Numbered (done a)
done_numbered a = record { tabled = λ bs refusal e. let z : ◌≡◌ {A = ℕ} 0 1 = cc in absurd (omega arith) }

rule_tabled : (number : ℕ) (t : Bool) (bs : List ℕ) (refusal : ℕ) → Tabled number → rule number t bs ≡ refused refusal → Tabled refusal
rule_tabled number true bs refusal h e = let z : ◌≡◌ {A = ℕ} 0 1 = cc in absurd (omega arith)
rule_tabled number false bs refusal h e = let z : number ≡ refusal = cc in omega (arith, h)

pub rule_numbered : (number : ℕ) (t : Bool) → Tabled number → Numbered (rule number t)
rule_numbered number t h = record { tabled = λ bs refusal e. rule_tabled number t bs refusal h e }

module _ {A B : Type 0} {r : Reader A} {s : A → Reader B} (first : Numbered r) (second : (a : A) → Numbered (s a)) where
  after_tabled : (bs : List ℕ) (refusal : ℕ) (o : Outcome A) → r bs ≡ o → after o s ≡ refused refusal → Tabled refusal
  after_tabled bs refusal (refused other) e n = first.tabled bs refusal cc
  after_tabled bs refusal (read a rest) e n = (second a).tabled rest refusal n

  pub after_numbered : Numbered (λ bs. after (r bs) s)
  after_numbered = record { tabled = λ bs refusal e. after_tabled bs refusal (r bs) refl e }

byte_tabled : (bs : List ℕ) (refusal : ℕ) → byte bs ≡ refused refusal → Tabled refusal
unfolding byte
byte_tabled [] refusal e = let z : 1 ≡ refusal = cc in omega arith
byte_tabled (b ∷ bs) refusal e = let z : ◌≡◌ {A = ℕ} 0 1 = cc in absurd (omega arith)

pub ruled_byte_numbered : (number : ℕ) (test : ℕ → Bool) → Tabled number → Numbered (ruled_byte number test)
unfolding ruled_byte
ruled_byte_numbered number test h =
    after_numbered (record { tabled = byte_tabled }) (λ b. after_numbered (rule_numbered number (test b) h) (λ u. done_numbered b))

pub field_numbered : (width : ℕ) → Numbered (field width)
field_numbered width = record {
  tabled = λ bs refusal e. elim (dec_le width (length bs)) [
    | yes h ↦ let z : ◌≡◌ {A = ℕ} 0 1 = cc (field_whole width bs h) in absurd (omega arith)
    | no h ↦ let z : 1 ≡ refusal = cc (field_cut width bs (omega arith)) in omega arith
  ];
}

pub several_numbered : {A : Type 0} {reader : Reader A} → Numbered reader → (k : ℕ) → Numbered (several k reader)
unfolding several
several_numbered c zero = done_numbered []
several_numbered c (suc k) = after_numbered c (λ a. after_numbered (several_numbered c k) (λ l. done_numbered (a ∷ l)))

pub number_numbered : (width : ℕ) → Numbered (number width)
number_numbered width = after_numbered (field_numbered width) (λ bs. done_numbered (little_endian bs))

pub request_numbered : (object : Kind) → Numbered (request_reader object)
unfolding request_reader
request_numbered object =
    after_numbered (ruled_byte_numbered 9 _ (omega arith)) (λ code.
    after_numbered (number_numbered 4) (λ value.
    after_numbered (rule_numbered 9 (value_allowed code value) (omega arith)) (λ u. done_numbered (request_of code value))))

start_numbered : Numbered start_reader
unfolding start_reader
start_numbered =
    after_numbered (field_numbered 3) (λ mark.
    after_numbered (rule_numbered 2 (is_mark mark) (omega arith)) (λ u.
    after_numbered (number_numbered 2) (λ version.
    after_numbered (rule_numbered 3 (version_known version) (omega arith)) (λ u. done_numbered version))))

method_numbered : (version : ℕ) → Numbered (method_reader version)
method_numbered version = either Numbered (eqb version 1) (λ e. done_numbered _) (λ e. after_numbered (ruled_byte_numbered 15 _ (omega arith)) (λ number. done_numbered _))

limits_numbered : (version : ℕ) (object : Kind) → Numbered (limits_reader version object)
unfolding limits_reader
limits_numbered version object =
    after_numbered (ruled_byte_numbered 5 _ (omega arith)) (λ n.
    after_numbered (ruled_byte_numbered 6 _ (omega arith)) (λ h.
    after_numbered (ruled_byte_numbered 7 _ (omega arith)) (λ capacity.
    after_numbered (method_numbered version) (λ method. done_numbered _))))

head_numbered : Numbered head_reader
unfolding head_reader
head_numbered = after_numbered start_numbered (λ version. after_numbered (ruled_byte_numbered 4 _ (omega arith)) (λ object. limits_numbered version (kind_of object)))

row_numbered : (object : Kind) → Numbered (row_reader object)
unfolding row_reader
row_numbered object = after_numbered (ruled_byte_numbered 8 _ (omega arith)) (λ count. several_numbered (request_numbered object) count)

schedule_numbered : (n : ℕ) → Numbered (schedule_reader n)
unfolding schedule_reader
schedule_numbered n =
    after_numbered (number_numbered 2) (λ count.
    after_numbered (rule_numbered 10 (leb count 32768) (omega arith)) (λ u. several_numbered (ruled_byte_numbered 11 _ (omega arith)) count))

end_tabled : (bs : List ℕ) (refusal : ℕ) → end bs ≡ refused refusal → Tabled refusal
unfolding end
end_tabled [] refusal e = let z : ◌≡◌ {A = ℕ} 0 1 = cc in absurd (omega arith)
end_tabled (b ∷ bs) refusal e = let z : 12 ≡ refusal = cc in omega arith

file_numbered : Numbered file_reader
unfolding file_reader
file_numbered =
    after_numbered head_numbered (λ head.
    after_numbered (several_numbered (row_numbered head.object) head.n) (λ rows.
    after_numbered (schedule_numbered head.n) (λ schedule.
    after_numbered (record { tabled = end_tabled }) (λ u. done_numbered _))))

judged_tabled : (o : Outcome Fields) (refusal : ℕ) → judged o ≡ refused_by refusal → o ≡ refused refusal
judged_tabled (refused other) refusal e = cc
judged_tabled (read f rest) refusal e = let z : ◌≡◌ {A = ℕ} 0 1 = cc in absurd (omega arith)

-- a file that is refused is given a number of the table, 1 to 12 or 15
pub refused_tabled : (bs : List ℕ) (refusal : ℕ) → judge_of bs ≡ refused_by refusal → Tabled refusal
unfolding judge_of
refused_tabled bs refusal e = file_numbered.tabled bs refusal (judged_tabled (file_reader bs) refusal e)

-- a refusal that is tallied is the reader's own
tallied_refused : {A : Type 0} (tally : A → ℕ) (o : Outcome A) {refusal : ℕ} → tallied tally o ≡ refused refusal → o ≡ refused refusal
tallied_refused tally (refused other) e = cc
tallied_refused tally (read a rest) e = let z : ◌≡◌ {A = ℕ} 0 1 = cc in absurd (omega arith)

pub tallied_numbered : {A : Type 0} (tally : A → ℕ) {reader : Reader A} → Numbered reader → (bs : List ℕ) {refusal : ℕ} → tallied tally (reader bs) ≡ refused refusal → refusal ≡ 0 → ⊥
tallied_numbered tally {reader} n bs e z = omega (arith, n.tabled bs _ (tallied_refused tally (reader bs) e))
