-- Laws of pages: they are filled as said, no other pages are, and how many there are. Assumes nothing.
use Prim.Native.Nat.{ℕ, zero, suc, ◌+◌, ◌*◌, ◌≤◌, ◌<◌}
use native.Mathlib.Omega.{arith}
use mathlib.Core.Path.{◌≡◌, refl, sym, ap, ◌∙◌}
use mathlib.Core.List.{List, [], ◌∷◌, ◌++◌, flatten}
use lib.ListN.{length, get_or, length-append}
use Rattle.object.specs.Each.{Each}
use Rattle.page.specs.Pages.{most_records, on_first, pages_from, pages_of}
use Rattle.page.specs.Table.{Paged}

module _ {A : Type 0} where
  -- pages of which the first has room for so many: it is full, and the next has some, unless it is the last
  abbrev Filled : ℕ → List (List A) → Type 0
  Filled room [] = ⊥
  Filled room (page ∷ []) = length page ≤ room
  Filled room (page ∷ next ∷ pages) = (length page ≡ room) × (1 ≤ length next) × Filled most_records (next ∷ pages)

  on_first_filled : (room : ℕ) (a : A) (pages : List (List A)) → Filled room pages → Filled (suc room) (on_first a pages)
  on_first_filled room a [] f = absurd f
  on_first_filled room a (page ∷ []) f = omega arith
  on_first_filled room a (page ∷ next ∷ pages) f = (omega (arith, f.0), f.1, f.2)

  new_page : (a : A) (pages : List (List A)) → Filled 57 pages → Filled 0 ([] ∷ on_first a pages)
  new_page a [] f = absurd f
  new_page a (page ∷ pages) f = (refl, omega arith, on_first_filled 57 a (page ∷ pages) f)

  filled : (room : ℕ) (l : List A) → Filled room (pages_from room l)
  unfolding pages_from
  filled room [] = omega arith
  filled zero (a ∷ l) = new_page a (pages_from 57 l) (filled 57 l)
  filled (suc room) (a ∷ l) = on_first_filled room a (pages_from room l) (filled room l)

  joined_first : (a : A) (pages : List (List A)) → flatten (on_first a pages) ≡ a ∷ flatten pages
  unfolding flatten
  joined_first a [] = refl
  joined_first a (page ∷ pages) = refl

  all_joined : (room : ℕ) (l : List A) → flatten (pages_from room l) ≡ l
  unfolding pages_from flatten
  all_joined room [] = refl
  all_joined zero (a ∷ l) = joined_first a (pages_from 57 l) ∙ ap (λ (l : List A). a ∷ l) (all_joined 57 l)
  all_joined (suc room) (a ∷ l) = joined_first a (pages_from room l) ∙ ap (λ (l : List A). a ∷ l) (all_joined room l)

  -- what filled pages are
  filled_most : (pages : List (List A)) → Filled most_records pages → Each (λ (page : List A). length page ≤ most_records) pages
  filled_most [] f = tt
  filled_most (page ∷ []) f = (f, tt)
  filled_most (page ∷ next ∷ pages) f = (omega (arith, f.0), filled_most (next ∷ pages) f.2)

  filled_full : (pages : List (List A)) → Filled most_records pages → (k : ℕ) → suc k < length pages → length (get_or pages k []) ≡ most_records
  filled_full [] f k b = absurd f
  filled_full (page ∷ []) f k b = absurd (omega arith)
  filled_full (page ∷ next ∷ pages) f zero b = f.0
  filled_full (page ∷ next ∷ pages) f (suc k) b = filled_full (next ∷ pages) f.2 k (omega arith)

  filled_later : (room : ℕ) (page : List A) (pages : List (List A)) → Filled room (page ∷ pages) → (k : ℕ) → k < length pages → 1 ≤ length (get_or pages k [])
  filled_later room page [] f k b = absurd (omega arith)
  filled_later room page (next ∷ pages) f zero b = f.1
  filled_later room page (next ∷ pages) f (suc k) b = filled_later most_records next pages f.2 k (omega arith)

  filled_never : (pages : List (List A)) → Filled most_records pages → (k : ℕ) → k < length pages → get_or pages k [] ≡ [] → flatten pages ≡ []
  unfolding flatten
  filled_never [] f k b e = absurd f
  filled_never (page ∷ []) f zero b e = rw e
  filled_never (page ∷ []) f (suc k) b e = absurd (omega arith)
  filled_never (page ∷ next ∷ pages) f zero b e = absurd (omega (arith, f.0, ap length e))
  filled_never (page ∷ next ∷ pages) f (suc k) b e = absurd (omega (arith, filled_later most_records page (next ∷ pages) f k (omega arith), ap length e))

  pub paged : (rows : List A) → Paged rows (pages_of rows)
  unfolding pages_from
  paged rows =
      let f = filled most_records rows in
      record {
        all = all_joined most_records rows;
        most = filled_most (pages_of rows) f;
        full = filled_full (pages_of rows) f;
        alone = λ e. rw e;
        never_else = λ k b e. sym (all_joined most_records rows) ∙ filled_never (pages_of rows) f k b e;
      }

  -- filled pages are the pages of what stands on them
  one_less : (room : ℕ) (a : A) (page : List A) (pages : List (List A)) → Filled (suc room) ((a ∷ page) ∷ pages) → Filled room (page ∷ pages)
  one_less room a page [] f = omega arith
  one_less room a page (next ∷ pages) f = (omega (arith, f.0), f.1, f.2)

  no_room : (a : A) (page : List A) (pages : List (List A)) → Filled 0 ((a ∷ page) ∷ pages) → ⊥
  no_room a page [] f = omega arith
  no_room a page (next ∷ pages) f = omega (arith, f.0)

  -- for such pages behind a first one
  abbrev Only : List (List A) → Type 0
  Only pages = (room : ℕ) (page : List A) → Filled room (page ∷ pages) → pages_from room (page ++ flatten pages) ≡ page ∷ pages

  abbrev OnlyLater : List (List A) → Type 0
  OnlyLater [] = Unit
  OnlyLater (next ∷ pages) = Only pages

  only_first : (pages : List (List A)) → OnlyLater pages → Only pages
  unfolding pages_from flatten
  only_first [] later room [] f = refl
  only_first ([] ∷ pages) later zero [] f = absurd (omega (arith, f.1))
  only_first ((a ∷ page) ∷ pages) later zero [] f = ap (λ (pages : List (List A)). [] ∷ on_first a pages) (later 57 page (one_less 57 a page pages f.2))
  only_first (next ∷ pages) later (suc room) [] f = absurd (omega (arith, f.0))
  only_first pages later zero (a ∷ page) f = absurd (no_room a page pages f)
  only_first pages later (suc room) (a ∷ page) f = ap (on_first a) (only_first pages later room page (one_less room a page pages f))

  filled_only : (pages : List (List A)) → Only pages
  filled_only [] = only_first [] tt
  filled_only (next ∷ pages) = only_first (next ∷ pages) (filled_only pages)

  -- and pages that are filled as said are filled so
  refilled : (page : List A) (pages : List (List A)) → Each (λ (page : List A). length page ≤ most_records) (page ∷ pages)
      → ((k : ℕ) → k < length pages → length (get_or (page ∷ pages) k []) ≡ most_records) → ((k : ℕ) → k < length pages → 1 ≤ length (get_or pages k [])) → Filled most_records (page ∷ pages)
  refilled page [] most full later = most.0
  refilled page (next ∷ pages) most full later =
      (full 0 (omega arith), later 0 (omega arith), refilled next pages most.1 (λ k b. full (suc k) (omega arith)) (λ k b. later (suc k) (omega arith)))

  some : (l : List A) → (l ≡ [] → ⊥) → 1 ≤ length l
  some [] b = absurd (b refl)
  some (a ∷ l) b = omega arith

  pub paged_only : (rows : List A) (pages : List (List A)) → Paged rows pages → pages ≡ pages_of rows
  unfolding flatten
  paged_only rows [] p = absurd (omega (arith, ap length (p.alone (sym p.all))))
  paged_only rows (page ∷ pages) p =
      let later : (k : ℕ) → k < length pages → 1 ≤ length (get_or pages k []) = λ k b.
      some (get_or pages k []) (λ e. omega (arith, b, ap length (p.alone (p.never_else (suc k) (omega arith) e)))) in
      sym (filled_only pages most_records page (refilled page pages p.most (λ k b. p.full k (omega arith)) later)) ∙ ap pages_of p.all

  -- how many there are: five for 256
  filled_many : (room : ℕ) (page : List A) (pages : List (List A)) → room ≤ most_records → Filled room (page ∷ pages)
      → most_records * length pages + room ≤ length (page ++ flatten pages) + most_records
  unfolding flatten
  filled_many room page [] b f = omega arith
  filled_many room page (next ∷ pages) b f =
      omega (arith, f.0, filled_many most_records next pages (omega arith) f.2, length-append page (flatten (next ∷ pages)))

  pages_few : (l : List A) (pages : List (List A)) → Filled most_records pages → flatten pages ≡ l → length l ≤ 256 → length pages ≤ 5
  unfolding flatten
  pages_few l [] f all few = absurd f
  pages_few l (page ∷ pages) f all few = omega (arith, filled_many most_records page pages (omega arith) f, ap length all)

  pub five_pages : (rows : List A) → length rows ≤ 256 → length (pages_of rows) ≤ 5
  five_pages rows few = pages_few rows (pages_of rows) (filled most_records rows) (all_joined most_records rows) few
