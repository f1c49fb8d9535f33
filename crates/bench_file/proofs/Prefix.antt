-- The first 34,077 bytes of an input decide how it is judged, and an accepted file has at most 34,076. Assumes for the second that the bytes are bytes.
use Prim.Native.Nat.{ℕ, zero, suc, ◌+◌, ◌-◌, ◌*◌, ◌≤◌}
use native.Mathlib.Nat.{suc-mul}
use native.Mathlib.Decide.{dec_le}
use native.Mathlib.Omega.{arith}
use mathlib.Core.Path.{◌≡◌, refl, sym, ap, ◌∙◌}
use mathlib.Core.Bool.{Bool, true, false}
use mathlib.Core.List.{List, [], ◌∷◌, ◌++◌}
use lib.ListN.{length, take, drop, length-append, length-drop, take-append-drop}
use lib.Seq.{length-take-le, take_all, take-append-le, drop-append-le}
use lib.Dec.{eqb, lit<}
use borrow.Author.Tests.{leb-true}
use Rattle.object.specs.declared.Kind.{Kind}
use Rattle.object.specs.Paper.{value_allowed}
use Rattle.object.specs.Each.{Each}
use Rattle.object.proofs.Choice.{either}
use Rattle.object.proofs.Each.{each_append}
use Rattle.object.proofs.Within.{within_range}
use Rattle.bench_file.specs.Reading.{Outcome, refused, read, Reader, after, done, rule, field, number, byte, ruled_byte, several, end}
use Rattle.bench_file.specs.Layout.{Fields, version_known, is_mark, start_reader, method_reader, limits_reader, head_reader, request_reader, row_reader, schedule_reader, file_reader, accepted, judged, judge_of}
use Rattle.bench_file.specs.Bytes.{Byte}
use Rattle.bench_file.proofs.Reading.{field_whole, field_cut}
use Rattle.bench_file.proofs.RoundTrip.{writes_back}

-- an outcome, with more bytes behind what was left
abbrev behind : {A : Type 0} → List ℕ → Outcome A → Outcome A
behind more (refused refusal) = refused refusal
behind more (read a rest) = read a (rest ++ more)

-- a value with a property was read, and at least so many bytes are left
abbrev Leaves : {A : Type 0} → (A → Type 0) → ℕ → Outcome A → Type 0
Leaves P least (refused refusal) = Unit
Leaves P least (read a rest) = P a × (least ≤ length rest)

-- a reader that sees at most `width` bytes: what follows them changes nothing; what it reads has a property
record Sees {A : Type 0} (P : A → Type 0) (width : ℕ) (reader : Reader A) : Type 0 where
  same : (bs more : List ℕ) → width ≤ length bs → reader (bs ++ more) ≡ behind more (reader bs)
  leaves : (bs : List ℕ) → Leaves P (length bs - width) (reader bs)

abbrev Any : {A : Type 0} → A → Type 0
Any a = Unit

leaves_less : {A : Type 0} (P : A → Type 0) {least less : ℕ} (o : Outcome A) → less ≤ least → Leaves P least o → Leaves P less o
leaves_less P (refused refusal) h t = tt
leaves_less P (read a rest) h t = (t.0, omega (arith, t.1))

wider : {A : Type 0} {P : A → Type 0} {v w : ℕ} {r : Reader A} → v ≤ w → Sees P v r → Sees P w r
wider {P = P} {r = r} h s = record { same = λ bs more g. s.same bs more (omega arith); leaves = λ bs. leaves_less P (r bs) (omega arith) (s.leaves bs) }

-- one reader, then a second that knows what the first read: the widths add
module _ {A B : Type 0} {P : A → Type 0} {Q : B → Type 0} {w v : ℕ} {r : Reader A} {s : A → Reader B} (first : Sees P w r) (second : (a : A) → P a → Sees Q v (s a)) where
  then_same : (least : ℕ) (more : List ℕ) (o : Outcome A) → v ≤ least → Leaves P least o → after (behind more o) s ≡ behind more (after o s)
  then_same least more (refused refusal) h t = refl
  then_same least more (read a rest) h t = (second a t.0).same rest more (omega (arith, t.1))

  then_leaves : (least : ℕ) (o : Outcome A) → Leaves P least o → Leaves Q (least - v) (after o s)
  then_leaves least (refused refusal) t = tt
  then_leaves least (read a rest) t = leaves_less Q (s a rest) (omega (arith, t.1)) ((second a t.0).leaves rest)

  chain : Sees Q (w + v) (λ bs. after (r bs) s)
  chain = record {
    same = λ bs more h. rw (first.same bs more (omega arith)) (then_same (length bs - w) more (r bs) (omega arith) (first.leaves bs));
    leaves = λ bs. leaves_less Q (after (r bs) s) (omega arith) (then_leaves (length bs - w) (r bs) (first.leaves bs));
  }

done_sees : {A : Type 0} {P : A → Type 0} (a : A) → P a → Sees P 0 (done a)
done_sees a p = record { same = λ bs more h. refl; leaves = λ bs. (p, omega arith) }

rule_sees : {P : Type 0} (refusal : ℕ) (t : Bool) → (t ≡ true → P) → Sees (λ u. P) 0 (rule refusal t)
rule_sees refusal true f = done_sees tt (f refl)
rule_sees refusal false f = record { same = λ bs more h. refl; leaves = λ bs. tt }

field_leaves : (width : ℕ) (bs : List ℕ) → Leaves Any (length bs - width) (field width bs)
field_leaves width bs =
    elim (dec_le width (length bs)) [
      | yes h ↦ rw field_whole (tt, rw length-drop (omega arith))
      | no h ↦ rw (field_cut width bs (omega arith)) tt
    ]

field_sees : (width : ℕ) → Sees Any width (field width)
field_sees width = record {
  same = λ bs more h. field_whole width (bs ++ more) (rw length-append (omega arith)) ∙ rw (field_whole width bs h, take-append-le width bs more h, drop-append-le width bs more h);
  leaves = field_leaves width;
}

number_sees : (width : ℕ) → Sees Any width (number width)
number_sees width = wider (omega arith) (chain (field_sees width) (λ bs p. done_sees _ tt))

-- a reader that asks for one byte: `byte` reads it, `end` sees whether it is there
module _ {A : Type 0} (r : Reader A) (same_Some : (b : ℕ) (bs more : List ℕ) → r (b ∷ bs ++ more) ≡ behind more (r (b ∷ bs)))
    (leaves_none : Leaves Any 0 (r [])) (leaves_some : (b : ℕ) (bs : List ℕ) → Leaves Any (length bs) (r (b ∷ bs))) where
  one_same : (bs more : List ℕ) → 1 ≤ length bs → r (bs ++ more) ≡ behind more (r bs)
  one_same [] more h = absurd (omega arith)
  one_same (b ∷ bs) more h = same_Some b bs more

  one_leaves : (bs : List ℕ) → Leaves Any (length bs - 1) (r bs)
  one_leaves [] = leaves_none
  one_leaves (b ∷ bs) = leaves_less Any (r (b ∷ bs)) (omega arith) (leaves_some b bs)

  one_sees : Sees Any 1 r
  one_sees = record { same = one_same; leaves = one_leaves }

byte_sees : Sees Any 1 byte
unfolding byte
byte_sees = one_sees byte (λ b bs more. refl) tt (λ b bs. (tt, omega arith))

end_sees : Sees Any 1 end
unfolding end
end_sees = one_sees end (λ b bs more. refl) (tt, omega arith) (λ b bs. tt)

ruled_sees : (refusal : ℕ) (test : ℕ → Bool) → Sees (λ b. test b ≡ true) 1 (ruled_byte refusal test)
unfolding ruled_byte
ruled_sees refusal test = chain byte_sees (λ b p. chain (rule_sees refusal (test b) (λ e. e)) (λ u e. done_sees b e))

-- at most so many of a kind
several_sees : {A : Type 0} {P : A → Type 0} {width : ℕ} {r : Reader A} (count most : ℕ) → count ≤ most → Sees P width r → Sees Any (most * width) (several count r)
unfolding several
several_sees zero most h s = wider (omega arith) (done_sees [] tt)
several_sees (suc count) zero h s = absurd (omega arith)
several_sees {width = width} (suc count) (suc most) h s = wider (rw suc-mul (omega arith)) (chain s (λ a p. chain (several_sees count most (omega arith) s) (λ l q. done_sees (a ∷ l) tt)))

-- the parts of a file
start_sees : Sees Any 5 start_reader
unfolding start_reader
start_sees =
    chain (field_sees 3) (λ mark p. chain (rule_sees 2 (is_mark mark) (λ e. e)) (λ u p. chain (number_sees 2) (λ version p.
    chain (rule_sees 3 (version_known version) (λ e. e)) (λ u p. done_sees version tt))))

method_sees : (version : ℕ) → Sees Any 1 (method_reader version)
method_sees version = either (Sees Any 1) (eqb version 1) (λ e. wider (omega arith) (done_sees _ tt)) (λ e. chain (ruled_sees 15 _) (λ number p. done_sees _ tt))

limits_sees : (version : ℕ) (object : Kind) → Sees (λ head. head.n ≤ 16) 4 (limits_reader version object)
unfolding limits_reader
limits_sees version object =
    chain (ruled_sees 5 _) (λ n e. chain (ruled_sees 6 _) (λ h p. chain (ruled_sees 7 _) (λ capacity p.
    chain (method_sees version) (λ method p. done_sees _ ((within_range 1 n 16).0 e).1))))

head_sees : Sees (λ head. head.n ≤ 16) 10 head_reader
unfolding head_reader
head_sees = chain start_sees (λ version p. chain (ruled_sees 4 _) (λ object p. limits_sees version _))

request_sees : (object : Kind) → Sees Any 5 (request_reader object)
unfolding request_reader
request_sees object = chain (ruled_sees 9 _) (λ code p. chain (number_sees 4) (λ value p. chain (rule_sees 9 (value_allowed code value) (λ e. e)) (λ u p. done_sees _ tt)))

row_sees : (object : Kind) → Sees Any 81 (row_reader object)
unfolding row_reader
row_sees object = chain (ruled_sees 8 _) (λ count e. several_sees count 16 ((within_range 0 count 16).0 e).1 (request_sees object))

schedule_sees : (n : ℕ) → Sees Any 32770 (schedule_reader n)
unfolding schedule_reader
schedule_sees n = chain (number_sees 2) (λ entries p. chain (rule_sees 10 _ (λ e. e)) (λ u e. several_sees entries 32768 (leb-true _ _ e) (ruled_sees 11 _)))

-- 10 bytes, 16 rows of 81, the schedule and the one byte that `end` asks for
file_sees : Sees Any 34077 file_reader
unfolding file_reader
file_sees =
    chain head_sees (λ head h. chain (several_sees head.n 16 h (row_sees head.object)) (λ rows p. chain (schedule_sees head.n) (λ schedule p.
    chain end_sees (λ u p. done_sees _ tt))))

judged_behind : (more : List ℕ) (o : Outcome Fields) → judged (behind more o) ≡ judged o
judged_behind more (refused refusal) = refl
judged_behind more (read f rest) = refl

judged_with_more : (bs more : List ℕ) → 34077 ≤ length bs → judge_of (bs ++ more) ≡ judge_of bs
unfolding judge_of
judged_with_more bs more h = ap judged (file_sees.same bs more h) ∙ judged_behind more (file_reader bs)

pub judged_by_prefix : (bytes : List ℕ) → judge_of (take 34077 bytes) ≡ judge_of bytes
judged_by_prefix bytes =
    elim (dec_le 34077 (length bytes)) [
      | yes h ↦ sym (judged_with_more (take 34077 bytes) (drop 34077 bytes) (omega (arith, length-take-le 34077 bytes h))) ∙ ap judge_of (take-append-drop 34077 bytes)
      | no h ↦ ap judge_of (take_all 34077 bytes (omega arith))
    ]

-- what was read of an input, its first bytes, is judged as the whole
pub judged_by_start : (input : List ℕ) {read : List ℕ} {size : ℕ} → size ≡ 34077 → take size input ≡ read → judge_of read ≡ judge_of input
judged_by_start input long is = ap judge_of (sym is) ∙ ap (λ (k : ℕ). judge_of (take k input)) long ∙ judged_by_prefix input

-- a longer one would be accepted with the same fields where a byte follows, but the fields tell the bytes
pub most_bytes : (bytes : List ℕ) (f : Fields) → Each Byte bytes → judge_of bytes ≡ accepted f → length bytes ≤ 34076
most_bytes bytes f p e =
    elim (dec_le 34077 (length bytes)) [
      | yes h ↦
          let followed = writes_back (bytes ++ 0 ∷ []) f (each_append Byte bytes (0 ∷ []) p (lit< tt, tt)) (judged_with_more bytes (0 ∷ []) h ∙ e) in
          absurd (omega (arith, ap length (sym followed ∙ writes_back bytes f p e), length-append bytes (0 ∷ [])))
      | no h ↦ omega arith
    ]
