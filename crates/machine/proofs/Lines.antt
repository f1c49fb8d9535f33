-- Laws of printed lines and their numbers, for the lines of either method: a list of them, a blank first, numbered from 0; and which one a thread runs. Assumes what
-- the laws' premises say.
use Prim.Native.Nat.{ℕ, zero, suc, ◌+◌, ◌≤◌, ◌<◌}
use native.Mathlib.Numerals.{add-one}
use native.Mathlib.Omega.{arith}
use mathlib.Core.Path.{◌≡◌, sym, ap, subst, ◌∙◌}
use mathlib.Core.List.{List, [], ◌∷◌, map}
use lib.ListN.{length, get_or, get_or-map}
use borrow.Author.Tests.{ne_eqb, lt-ltb, le-ltb, lt-leb}
use Rattle.std.proofs.lemmas.List.{get_or-map as get_or-map_below}
use Rattle.object.specs.Each.{Each}
use Rattle.object.proofs.Choice.{by_equal, by_order}
use Rattle.object.proofs.Each.{each_get_or_default}
use Rattle.machine.specs.declared.Thread.{Thread}
use Rattle.machine.specs.Lines.{line_run, stands_at}

module _ {Line : Type 0} (number : Line → ℕ) (blank : Line) where
  -- the numbers of a list's lines are i and those that follow
  abbrev pub Numbered : ℕ → List Line → Type 0
  Numbered i [] = Unit
  Numbered i (l ∷ ls) = (number l ≡ i) × Numbered (suc i) ls

  pub number_at : (i : ℕ) (ls : List Line) (k : ℕ) → Numbered i ls → k < length ls → number (get_or ls k blank) ≡ i + k
  number_at i [] k e h = absurd (omega arith)
  number_at i (l ∷ ls) zero e h = omega arith
  number_at i (l ∷ ls) (suc k) e h = omega (arith, number_at (suc i) ls k e.1 (omega arith))

  -- where a line is the one of its number
  module _ (lines : List Line) (line_at_lem : (l : Line) → get_or lines (number l) blank ≡ l) where
    -- what holds of each of the lines and of a blank holds of every line
    pub each_of : (P : Line → Type 0) → Each P lines → P blank → (l : Line) → P l
    each_of P each none l = subst P (line_at_lem l) (each_get_or_default P lines (number l) blank each none)

    -- two functions of a line that give the same list of all lines agree on every line
    pub agree_on : {A : Type 0} (f g : Line → A) → map f lines ≡ map g lines → f blank ≡ g blank → (l : Line) → f l ≡ g l
    agree_on f g same none l =
        subst (λ (k : Line). f k ≡ g k) (line_at_lem l)
        (sym (get_or-map f lines (number l) blank)
        ∙ ap (λ (a : List _). get_or a (number l) (f blank)) same
        ∙ ap (get_or (map g lines) (number l)) none
        ∙ get_or-map g lines (number l) blank)

    -- a line whose number is known
    pub by_number : (P : Line → Type 0) (l : Line) {k : ℕ} → number l ≡ k → P (get_or lines k blank) → P l
    by_number P l q p = subst P (sym (ap (λ (k : ℕ). get_or lines k blank) q) ∙ line_at_lem l) p

-- place k of a table of the printed lines holds what is beside line k + 1; past the table stands `none`
pub table_at : {Line A : Type 0} (f : Line → A) (blank : Line) (none : A) (printed : List Line) (k : ℕ) → k < length printed
    → get_or (map f printed) k none ≡ f (get_or (blank ∷ printed) (k + 1) blank)
table_at f blank none printed k h = rw add-one (get_or-map_below f printed k blank none h)

-- a table of the printed lines, with what a blank has before it and past it, holds at each place what its line has
pub table_with_blank : {Line A : Type 0} (f : Line → A) (blank : Line) (printed : List Line) (k : ℕ)
    → get_or (f blank ∷ map f printed) k (f blank) ≡ f (get_or (blank ∷ printed) k blank)
table_with_blank f blank printed k = get_or-map f (blank ∷ printed) k blank

-- a thread that stands at line 0, or at one from 2 to the last printed, runs the one that it stands at; idle, line 1 if it has a request left, else none
pub record RunsNext (th : Thread) (last : ℕ) : Type 0 where
  pub stands : th.line ≡ stands_at (line_run th)
  pub printed : line_run th ≤ last
  pub begins : line_run th ≡ 1 → th.begun < th.count
  pub blank : line_run th ≡ 0 → th.count ≤ th.begun

pub runs_next : (th : Thread) (last : ℕ) → 1 ≤ last → th.line ≤ last → (th.line ≡ 1 → ⊥) → RunsNext th last
runs_next th last some most begun =
    by_equal th.line 0
    (λ idle. by_order th.begun th.count
    (λ left.
    let first : line_run th ≡ 1 = rw (idle, lt-ltb th.begun th.count left) in
    record { stands = idle ∙ ap stands_at (sym first); printed = omega arith; begins = λ q. left; blank = λ q. absurd (omega arith) })
    (λ none.
    let blank : line_run th ≡ 0 = rw (idle, le-ltb th.begun th.count none) in
    record { stands = idle ∙ ap stands_at (sym blank); printed = omega arith; begins = λ q. absurd (omega arith); blank = λ q. none }))
    (λ busy.
    let same : line_run th ≡ th.line = rw (ne_eqb th.line 0 busy) in
    let printed : stands_at th.line ≡ th.line = by_order 1 th.line (λ from. rw (lt-leb th.line 1 from)) (λ low. absurd (begun (omega arith))) in
    record {
      stands = sym printed ∙ ap stands_at (sym same);
      printed = omega arith;
      begins = λ q. absurd (begun (sym same ∙ q));
      blank = λ q. absurd (busy (sym same ∙ q));
    })
