-- A codec: a reader and the bytes of each value that it reads are inverse to each other, on the values that are good.
-- Laws for the readers of specs/Reading.antt, alone, one after the other and so many of a kind. Assumes nothing.
use Prim.Native.Nat.{ℕ, zero, suc, ◌≤◌, ◌<◌, ◌^◌}
use native.Mathlib.Decide.{dec_le}
use native.Mathlib.Omega.{arith}
use mathlib.Core.Path.{◌≡◌, refl, sym, ap, ◌∙◌}
use mathlib.Core.Logic.{◌↔◌}
use mathlib.Core.Bool.{Bool, true, false}
use mathlib.Core.List.{List, [], ◌∷◌, ◌++◌, append_assoc, append-nil}
use lib.ListN.{length, take, drop, length-append, take-append-drop}
use lib.Seq.{length-take-le, take_at, drop_at}
use Rattle.object.specs.Paper.{within}
use Rattle.bench_file.specs.Reading.{Outcome, refused, read, Reader, after, done, rule, field, little_endian, number, byte, ruled_byte, ranged, several}
use Rattle.object.specs.Each.{Each}
use Rattle.bench_file.specs.Bytes.{low_first, each_bytes, Byte}
use Rattle.bench_file.proofs.Reading.{after_read_lem, field_whole, field_cut}
use Rattle.object.proofs.Each.{each_append, each_right, each_take}
use Rattle.object.proofs.Within.{within_range}
use Rattle.bench_file.proofs.Each.{each_bytes_bytes, low_length, low_bytes, low_value, value_low, value_bound}

-- what came before a value that was read
pub came : {A B : Type 0} (o : Outcome A) (next : A → Reader B) {b : B} {rest : List ℕ} → after o next ≡ read b rest → (a : A) × (mid : List ℕ) × (o ≡ read a mid) × (next a mid ≡ read b rest)
came (refused refusal) next e = let z : ◌≡◌ {A = ℕ} 0 1 = cc in absurd (omega arith)
came (read a mid) next e = (a, mid, refl, e)

pub record Codec {A : Type 0} (reader : Reader A) (bytes : A → List ℕ) (Good : A → Type 0) : Type 0 where
  pub forth : (a : A) (rest : List ℕ) → Good a → reader (bytes a ++ rest) ≡ read a rest
  pub back : (bs : List ℕ) (a : A) (rest : List ℕ) → Each Byte bs → reader bs ≡ read a rest → Good a × (bs ≡ bytes a ++ rest)
  pub plain : (a : A) → Good a → Each Byte (bytes a)

-- what a reader leaves of bytes are bytes
pub left_bytes : {A : Type 0} {reader : Reader A} {bytes : A → List ℕ} {Good : A → Type 0} → Codec reader bytes Good
    → (bs : List ℕ) (a : A) (rest : List ℕ) → Each Byte bs → reader bs ≡ read a rest → Each Byte rest
left_bytes {bytes = bytes} c bs a rest p e = each_right Byte (bytes a) rest (rw (c.back bs a rest p e).1 at p)

-- the same bytes and the same good values, otherwise said
pub restated : {A : Type 0} {reader : Reader A} {x y : A → List ℕ} {G H : A → Type 0}
    → Codec reader x G → ((a : A) → x a ≡ y a) → ((a : A) → G a ↔ H a) → Codec reader y H
restated c e g = record {
  forth = λ a rest h. rw (← e a) (c.forth a rest ((g a).1 h));
  back = λ bs a rest p r. let q = c.back bs a rest p r in ((g a).0 q.0, rw (← e a) q.1);
  plain = λ a h. rw (← e a) (c.plain a ((g a).1 h));
}

pub done_codec : {A : Type 0} (a : A) → Codec (done a) (λ b. []) (λ b. b ≡ a)
done_codec a = record {
  forth = λ b rest e. rw e;
  back = λ bs b rest p e. (cc, cc);
  plain = λ b e. tt;
}

pub rule_back : (refusal : ℕ) (t : Bool) (bs : List ℕ) (u : Unit) (rest : List ℕ) → rule refusal t bs ≡ read u rest → (t ≡ true) × (bs ≡ rest)
rule_back refusal true bs u rest e = (refl, cc)
rule_back refusal false bs u rest e = let z : ◌≡◌ {A = ℕ} 0 1 = cc in absurd (omega arith)

pub rule_codec : (refusal : ℕ) (t : Bool) → Codec (rule refusal t) (λ u. []) (λ u. t ≡ true)
rule_codec refusal t = record {
  forth = λ u rest e. rw e;
  back = λ bs u rest p e. rule_back refusal t bs u rest e;
  plain = λ u e. tt;
}

-- one reader, then a second that knows what the first read, where what was read first can be told from what is read in the end
module _ {A B : Type 0} {r : Reader A} {s : A → Reader B} {x : A → List ℕ} {y : A → B → List ℕ} {G : A → Type 0} {H : A → B → Type 0}
    (of : B → A) (told : (a : A) (b : B) → G a → H a b → of b ≡ a) (first : Codec r x G) (second : (a : A) → Codec (s a) (y a) (H a)) where
  chain_back : (bs : List ℕ) (b : B) (rest : List ℕ) → Each Byte bs → after (r bs) s ≡ read b rest → (G (of b) × H (of b) b) × (bs ≡ x (of b) ++ y (of b) b ++ rest)
  chain_back bs b rest p e =
      let (a, mid, f, n) = came (r bs) s e in
      let (g, q) = first.back bs a mid p f in
      let (h, t) = (second a).back mid b rest (left_bytes first bs a mid p f) n in
      rw (told a b g h) ((g, h), q ∙ ap (λ (l : List ℕ). x a ++ l) t ∙ sym (append_assoc (x a) (y a b) rest))

  pub chain : Codec (λ bs. after (r bs) s) (λ b. x (of b) ++ y (of b) b) (λ b. G (of b) × H (of b) b)
  chain = record {
    forth = λ b rest g. rw append_assoc (after_read_lem s (first.forth (of b) (y (of b) b ++ rest) g.0) ∙ (second (of b)).forth b rest g.1);
    back = chain_back;
    plain = λ b g. each_append Byte (x (of b)) (y (of b) b) (first.plain (of b) g.0) ((second (of b)).plain b g.1);
  }

-- a rule, then a reader
pub ruled_codec : {A : Type 0} {r : Reader A} {x : A → List ℕ} {G : A → Type 0} (refusal : ℕ) (t : Bool) → Codec r x G → Codec (λ bs. after (rule refusal t bs) (λ u. r)) x (λ a. (t ≡ true) × G a)
ruled_codec refusal t c = chain (λ a. tt) (λ u a g h. refl) (rule_codec refusal t) (λ u. c)

byte_back : (bs : List ℕ) (b : ℕ) (rest : List ℕ) → Each Byte bs → byte bs ≡ read b rest → Byte b × (bs ≡ b ∷ rest)
unfolding byte
byte_back [] b rest p e = let z : ◌≡◌ {A = ℕ} 0 1 = cc in absurd (omega arith)
byte_back (a ∷ bs) b rest p e = let q : a ≡ b = cc in (rw q at p.0, cc)

pub byte_codec : Codec byte (λ b. b ∷ []) Byte
unfolding byte
byte_codec = record {
  forth = λ b rest h. refl;
  back = byte_back;
  plain = λ b h. (h, tt);
}

-- a byte by its own rule, and in its range
pub ruled_byte_codec : (refusal : ℕ) (test : ℕ → Bool) → Codec (ruled_byte refusal test) (λ b. b ∷ []) (λ b. Byte b × (test b ≡ true))
unfolding ruled_byte
ruled_byte_codec refusal test =
    restated (chain (λ b. b) (λ a b g h. h.1) byte_codec (λ b. ruled_codec refusal (test b) (done_codec b)))
    (λ b. refl)
    (λ b. (λ g. (g.0, g.1.0), λ g. (g.0, (g.1, refl))))

pub ranged_codec : (refusal least most : ℕ) → Codec (ranged refusal least most) (λ b. b ∷ []) (λ b. Byte b × ((least ≤ b) × (b ≤ most)))
ranged_codec refusal least most =
    restated (ruled_byte_codec refusal (λ b. within least b most)) (λ b. refl)
    (λ b. (λ g. (g.0, (within_range least b most).0 g.1), λ g. (g.0, (within_range least b most).1 g.1)))

-- the bytes of a field, and the number that they are
field_back : (width : ℕ) (bs a rest : List ℕ) → Each Byte bs → field width bs ≡ read a rest → ((length a ≡ width) × Each Byte a) × (bs ≡ a ++ rest)
field_back width bs a rest p e =
    elim (dec_le width (length bs)) [
      | yes h ↦
          let q : take width bs ≡ a = cc (field_whole width bs h) in
          let r : drop width bs ≡ rest = cc (field_whole width bs h) in
          rw (← q, ← r) ((length-take-le width bs h, each_take Byte width bs p), sym (take-append-drop width bs))
      | no h ↦ let z : ◌≡◌ {A = ℕ} 0 1 = cc (field_cut width bs (omega arith)) in absurd (omega arith)
    ]

pub field_codec : (width : ℕ) → Codec (field width) (λ bs. bs) (λ bs. (length bs ≡ width) × Each Byte bs)
field_codec width = record {
  forth = λ bs rest g. field_whole width (bs ++ rest) (rw length-append (omega (arith, g.0))) ∙ rw (take_at bs rest width g.0, drop_at bs rest width g.0);
  back = field_back width;
  plain = λ bs g. g.1;
}

number_told : (width : ℕ) (bs : List ℕ) (n : ℕ) → (length bs ≡ width) × Each Byte bs → n ≡ little_endian bs → low_first width n ≡ bs
number_told width bs n g e = rw (e, ← g.0) (value_low bs g.1)

pub number_codec : (width : ℕ) → Codec (number width) (low_first width) (λ n. n < 256 ^ width)
number_codec width =
    restated (chain (low_first width) (number_told width) (field_codec width) (λ bs. done_codec (little_endian bs)))
    (λ n. append-nil (low_first width n))
    (λ n. (λ g. omega (arith, g.1, rw low_length at (value_bound (low_first width n) g.0.1)), λ h. ((low_length width n, low_bytes width n), sym (low_value width n h))))

-- so many of a kind
module _ {A : Type 0} {reader : Reader A} {bytes : A → List ℕ} {Good : A → Type 0} (c : Codec reader bytes Good) where
  several_forth : (l : List A) (rest : List ℕ) → Each Good l → several (length l) reader (each_bytes bytes l ++ rest) ≡ read l rest
  unfolding several each_bytes
  several_forth [] rest g = refl
  several_forth (a ∷ l) rest g = rw (append_assoc, c.forth a (each_bytes bytes l ++ rest) g.0, several_forth l rest g.1)

  several_back : (k : ℕ) (bs : List ℕ) (l : List A) (rest : List ℕ) → Each Byte bs → several k reader bs ≡ read l rest
      → ((length l ≡ k) × Each Good l) × (bs ≡ each_bytes bytes l ++ rest)
  unfolding several each_bytes
  several_back zero bs l rest p e = let q : l ≡ [] = cc in rw q ((refl, tt), cc)
  several_back (suc k) bs l rest p e =
      let (a, mid, f, n) = came (reader bs) (λ value rest. after (several k reader rest) (λ values left. read (value ∷ values) left)) e in
      let (t, left, r, m) = came (several k reader mid) (λ values left. read (a ∷ values) left) n in
      let (g, q) = c.back bs a mid p f in
      let (h, u) = several_back k mid t left (left_bytes c bs a mid p f) r in
      let z : l ≡ a ∷ t = cc in
      let v : left ≡ rest = cc in
      rw z ((ap suc h.0, (g, h.1)), q ∙ ap (λ (l : List ℕ). bytes a ++ l) (u ∙ rw v) ∙ sym (append_assoc (bytes a) (each_bytes bytes t) rest))

  pub several_codec : (k : ℕ) → Codec (several k reader) (each_bytes bytes) (λ l. (length l ≡ k) × Each Good l)
  several_codec k = record {
    forth = λ l rest g. rw (← g.0) (several_forth l rest g.1);
    back = several_back k;
    plain = λ l g. each_bytes_bytes bytes c.plain l g.1;
  }
