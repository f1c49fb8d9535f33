-- A loop that reads so many of a kind, one a pass, keeps what is left to read: laws for its start, a pass, a refusal and its end.
-- Assumes nothing.
use Prim.Native.Nat.{ℕ, zero, suc, ◌+◌, ◌-◌, ◌≤◌, ◌<◌}
use native.Mathlib.Nat.{add-zero, sub-zero}
use native.Mathlib.Omega.{arith}
use mathlib.Core.Path.{◌≡◌, refl, sym, ap, ◌∙◌}
use mathlib.Core.List.{List, [], ◌∷◌}
use lib.ListN.{length, drop, length-drop}
use lib.Seq.{drop-drop}
use denote.Ref.{Bor}
use Rattle.object.specs.Each.{sum_of}
use Rattle.bench_file.specs.Reading.{Outcome, refused, read, Reader, after, several}
use Rattle.std.specs.Prelude.{Result, Ok, Err}
use Rattle.refusal.specs.declared.Refusal.{Refusal}
use Rattle.refusal.specs.Numbers.{number}
use Rattle.bench_file.specs.declared.Reached.{Reached}
use Rattle.bench_file.specs.Cursor.{reached, Ahead, tallied, same, single}

-- tallies that agree give one outcome
pub tallied_same : {A : Type 0} (f g : A → ℕ) (o : Outcome A) → ((a : A) → f a ≡ g a) → tallied f o ≡ tallied g o
tallied_same f g (refused refusal) e = refl
tallied_same f g (read a rest) e = rw (e a)

pub single_length : {A : Type 0} (l : List A) → sum_of single l ≡ length l
unfolding sum_of
single_length [] = refl
single_length (a ∷ l) = let e = single_length l in omega arith

tallied_cons : {A : Type 0} (f : List A → ℕ) (a : A) (o : Outcome (List A)) → tallied f (after o (λ l rest. read (a ∷ l) rest)) ≡ tallied (λ l. f (a ∷ l)) o
tallied_cons f a (refused refusal) = refl
tallied_cons f a (read l rest) = refl

-- a place that was reached behind a first part
pub behind : (s : List ℕ) (first : ℕ) (place : Reached) → read place.count (drop (first + place.next) s) ≡ read place.count (drop place.next (drop first s))
behind s first place = ap (λ (l : List ℕ). read place.count l) (sym (drop-drop place.next first s))

-- tallied one by one or together
module _ {A : Type 0} (reader : Reader A) (tally : A → ℕ) where
  abbrev each : Reader ℕ
  each bytes = tallied tally (reader bytes)

  behind_one : (a : A) (o : Outcome (List ℕ)) (p : Outcome (List A)) → tallied (sum_of same) o ≡ tallied (sum_of tally) p
      → tallied (sum_of same) (after o (λ l rest. read (tally a ∷ l) rest)) ≡ tallied (sum_of tally) (after p (λ l rest. read (a ∷ l) rest))
  unfolding sum_of
  behind_one a (refused refusal) (refused other) e = cc
  behind_one a (refused refusal) (read l rest) e = let z : ◌≡◌ {A = ℕ} 0 1 = cc in absurd (omega arith)
  behind_one a (read m left) (refused other) e = let z : ◌≡◌ {A = ℕ} 0 1 = cc in absurd (omega arith)
  behind_one a (read m left) (read l rest) e = let z : sum_of same m ≡ sum_of tally l = cc in let w : left ≡ rest = cc in rw (z, w)

  several_after : (count : ℕ) (o : Outcome A) → ((rest : List ℕ) → tallied (sum_of same) (several count each rest) ≡ tallied (sum_of tally) (several count reader rest))
      → tallied (sum_of same) (after (tallied tally o) (λ n rest. after (several count each rest) (λ l left. read (n ∷ l) left)))
      ≡ tallied (sum_of tally) (after o (λ a rest. after (several count reader rest) (λ l left. read (a ∷ l) left)))
  several_after count (refused refusal) e = refl
  several_after count (read a rest) e = behind_one a (several count each rest) (several count reader rest) (e rest)

  pub several_tallied : (count : ℕ) (bs : List ℕ) → tallied (sum_of same) (several count each bs) ≡ tallied (sum_of tally) (several count reader bs)
  unfolding several sum_of
  several_tallied zero bs = refl
  several_tallied (suc count) bs = several_after count (reader bs) (several_tallied count)

-- what is left of so many, of which i were read and tallied, at a place
abbrev pub left_to : {A : Type 0} → Reader A → (A → ℕ) → List ℕ → ℕ → ℕ → ℕ → ℕ → Outcome ℕ
left_to reader tally s count i sum next = tallied (λ l. sum + sum_of tally l) (several (count - i) reader (drop next s))

module _ (reader : Reader ℕ) where
  pass : (k sum x : ℕ) (bs mid : List ℕ) → reader bs ≡ read x mid
      → tallied (λ l. sum + sum_of same l) (several (suc k) reader bs) ≡ tallied (λ l. sum + x + sum_of same l) (several k reader mid)
  unfolding several sum_of
  pass k sum x bs mid e =
      rw e (tallied_cons (λ l. sum + sum_of same l) x (several k reader mid)
      ∙ tallied_same (λ l. sum + (x + sum_of same l)) (λ l. sum + x + sum_of same l) (several k reader mid) (λ l. omega arith))

  halt : (k sum refusal : ℕ) (bs : List ℕ) → reader bs ≡ refused refusal → tallied (λ l. sum + sum_of same l) (several (suc k) reader bs) ≡ refused refusal
  unfolding several
  halt k sum refusal bs e = rw e

  module _ (s : List ℕ) (count : ℕ) where
    left_all : tallied (sum_of same) (several count reader s) ≡ left_to reader same s count 0 0 0
    left_all = rw sub-zero (tallied_same (sum_of same) (λ l. 0 + sum_of same l) (several count reader s) (λ l. omega arith))

    left_more : (i sum next x mid : ℕ) → i < count → reader (drop next s) ≡ read x (drop mid s) → left_to reader same s count i sum next ≡ left_to reader same s count (i + 1) (sum + x) mid
    left_more i sum next x mid h e =
        let k : count - i ≡ suc (count - (i + 1)) = omega arith in
        rw k (pass (count - (i + 1)) sum x (drop next s) (drop mid s) e)

    left_refused : (i sum next refusal : ℕ) → i < count → reader (drop next s) ≡ refused refusal → left_to reader same s count i sum next ≡ refused refusal
    left_refused i sum next refusal h e =
        let k : count - i ≡ suc (count - (i + 1)) = omega arith in
        rw k (halt (count - (i + 1)) sum refusal (drop next s) e)

    left_none : (i sum next : ℕ) → count ≤ i → left_to reader same s count i sum next ≡ read sum (drop next s)
    unfolding several sum_of
    left_none i sum next h = let k : count - i ≡ 0 = omega arith in rw (k, add-zero)

-- what such a loop keeps, by what a call may answer: i of `count` were read, `sum` counted, and `next` is the place behind them
module _ (answers : Bor (List ℕ) → Result Reached Refusal → Type 0) (s : List ℕ) (count : ℕ) where
  abbrev ReadsAs : Reader ℕ → Type 0
  ReadsAs reader = (part : Bor (List ℕ)) (r : Result Reached Refusal) → answers part r → reached part.now r ≡ reader part.now

  pub record Passing (next sum i : ℕ) : Type 0 where
    pub ahead : (sum ≤ next) × (next ≤ length s)
    pub left : (reader : Reader ℕ) → ReadsAs reader → tallied (sum_of same) (several count reader s) ≡ left_to reader same s count i sum next

  pub begins : Passing 0 0 0
  begins = record { ahead = omega arith; left = λ reader reads. left_all reader s count }

  module _ {next sum i : ℕ} (t : Passing next sum i) (h : i < count) {part : Bor (List ℕ)} (is : part.now ≡ drop next s) {r : Result Reached Refusal} (answered : answers part r) where
    here : (reader : Reader ℕ) → ReadsAs reader → reader (drop next s) ≡ reached (drop next s) r
    here reader reads = rw (← is) (sym (reads part r answered))

    pub passes : {place : Reached} → r ≡ Ok place → Ahead part.now r → Passing (next + place.next) (sum + place.count) (i + 1)
    passes {place} z a =
        let b : Ahead part.now (Ok place) = rw z at a in
        let l = ap length is ∙ length-drop next s in
        record {
          ahead = omega (arith, t.ahead, b, l);
          left = λ reader reads. t.left reader reads
              ∙ left_more reader s count i sum next place.count (next + place.next) h (here reader reads ∙ rw z (ap (λ (l : List ℕ). read place.count l) (drop-drop place.next next s)));
        }

    pub refuses : {refusal : Refusal} → r ≡ Err refusal → (reader : Reader ℕ) → ReadsAs reader → refused (number refusal) ≡ tallied (sum_of same) (several count reader s)
    refuses {refusal} z reader reads = sym (t.left reader reads ∙ left_refused reader s count i sum next (number refusal) h (here reader reads ∙ rw z))

  pub ends : {next sum i : ℕ} → Passing next sum i → count ≤ i → (reader : Reader ℕ) → ReadsAs reader → read sum (drop next s) ≡ tallied (sum_of same) (several count reader s)
  ends {next} {sum} {i} t h reader reads = sym (t.left reader reads ∙ left_none reader s count i sum next h)
