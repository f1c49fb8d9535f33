-- A request applied to a storage of 64 places does what the plain object does, with an answer in range that tells the items then held, and leaves 64 places,
-- those past these items as they were. Assumes nothing.
use Rattle.std.proofs.Common.{◌≡◌, ℕ, ◌+◌, ◌-◌, ◌<◌, ◌≤◌, Bool, true, false, cond, T, eqb, ltb, leb, List, length, get_or, take, drop, sym, refl, ap, ◌∙◌, add-one, arith, le→leb, leb→le, length-append, length-drop, length-set, length-take-le, get_or-take, take-take, take-suc-set, take_at, drop-set-lt, drop_at, ltb-true}
use lib.Seq.{length-slice}
use lib.Ieee.Fits.{and_i, and_l, and_r}
use borrow.Author.Tests.{eqb-false}
use Rattle.object.specs.declared.Kind.{Kind}
use Rattle.object.specs.declared.Kind.TheVariants.{Queue, Stack, Counter}
use Rattle.object.specs.declared.Request.{Request}
use Rattle.object.specs.declared.Request.TheVariants.{Put, Take, Add}
use Rattle.object.specs.declared.Answer.{Answer}
use Rattle.object.specs.declared.Answer.TheVariants.{Done, Value, Empty, Full}
use Rattle.object.specs.declared.Object.{Object}
use Rattle.object.specs.Apply.{Applied}
use Rattle.object.specs.Paper.{least_capacity, most_capacity, capacity_allowed, answer_in_range}
use Rattle.object.specs.Plain.{Response, respond, holding, plain_step, plain_put, plain_take_first, plain_take_last, plain_add}
use Rattle.object.specs.Apply.{contents, knows, object_in_range, held_in_range, answered, refused_with, stored, moved_down, put_of, take_first_of, take_last_of, add_of, applied_known, apply_of, TellsHeld, AppliesPlainly}
use Rattle.object.proofs.Choice.{by_test}
use Rattle.object.proofs.Counting.{more_fits}

-- past the items that it holds, an object has the places of ob
abbrev pub PastHeld : Object → Object → Type 0
PastHeld ob after = drop after.held after.items ≡ drop after.held ob.items

-- an answer is in range and tells the items held
abbrev Told : ℕ → Answer → ℕ → Type 0
Told capacity a held = (answer_in_range capacity a ≡ true) × TellsHeld a held

-- r is not refused, is what the plain object responds, with such an answer, and leaves a storage within the capacity and of 64 places, past its items those
-- of ob
record Meets (capacity : ℕ) (ob : Object) (p : Response) (r : Applied) : Type 0 where
  accepted : r.refusal ≡ 0
  plain : p ≡ record { answer = r.answer; after = contents r.object }
  told : Told capacity r.answer r.object.held
  held : r.object.held ≤ capacity
  places : length r.object.items ≡ 64
  past : PastHeld ob r.object

-- on a storage of 64 places, within the capacity, each request that is known meets the plain object
module _ (capacity : ℕ) (ob : Object) (long : length ob.items ≡ 64) (room : capacity ≤ 64) (fits : ob.held ≤ capacity) where
  count : length (take ob.held ob.items) ≡ ob.held
  count = length-take-le ob.held ob.items (omega arith)

  unchanged : (a : Answer) → Told capacity a ob.held → Meets capacity ob (respond a (contents ob)) (answered a ob)
  unchanged a c = record { accepted = refl; plain = refl; told = c; held = fits; places = long; past = refl }

  changed : (a : Answer) {values items : List ℕ} {held : ℕ} → Told capacity a held
      → values ≡ take held items → held ≤ capacity → length items ≡ 64 → drop held items ≡ drop held ob.items
      → Meets capacity ob (respond a (holding (contents ob) values)) (answered a (stored ob items held))
  changed a c e h l k = record {
    accepted = refl;
    plain = ap (λ (vs : List ℕ). respond a (holding (contents ob) vs)) e;
    told = c;
    held = h;
    places = l;
    past = k;
  }

  put_meets : (v : ℕ) → Meets capacity ob (plain_put capacity v (contents ob)) (put_of capacity v ob)
  put_meets v =
      rw (length-append, count) (by_test (ltb ob.held capacity)
      (λ t.
      let h : ob.held < capacity = ltb-true _ _ t in
      rw t (changed (Done (ob.held + 1)) (more_fits capacity ob.held h, refl) (sym (rw add-one (take-suc-set ob.items ob.held v (omega arith)))) (omega arith)
      (simp length-set long) (drop-set-lt (ob.held + 1) ob.items ob.held v (omega arith))))
      (λ t. rw t (unchanged Full (refl, tt))))

  -- the value at place i is given up
  take_meets : (i : ℕ) (values items : List ℕ)
      → (0 < ob.held → (i < ob.held) × (values ≡ take (ob.held - 1) items) × (length items ≡ 64) × (drop (ob.held - 1) items ≡ drop (ob.held - 1) ob.items))
      → Meets capacity ob
      (cond (eqb ob.held 0) (respond Empty (contents ob))
      (respond (Value (get_or (take ob.held ob.items) i 0)) (holding (contents ob) values)))
      (cond (eqb ob.held 0) (answered Empty ob)
      (answered (Value (get_or ob.items i 0)) (stored ob items (ob.held - 1))))
  take_meets i values items f =
      by_test (eqb ob.held 0) (λ t. rw t (unchanged Empty (refl, tt)))
      (λ t.
      let g = f (omega (arith, eqb-false ob.held 0 t)) in
      let below = g.0 in
      rw (t, get_or-take) (changed (Value (get_or ob.items i 0)) (refl, tt) g.1 (omega arith) g.2 g.3))

  take_first_meets : Meets capacity ob (plain_take_first (contents ob)) (take_first_of ob)
  take_first_meets =
      let first = drop 1 (take ob.held ob.items) in
      let n : length first ≡ ob.held - 1 = length-slice 1 ob.held ob.items (omega arith) in
      rw count (take_meets 0 first (moved_down ob.items ob.held)
      (λ h. (h, sym (take_at _ _ _ n), rw (length-append, n, length-drop) (omega arith), drop_at first _ _ n)))

  take_last_meets : Meets capacity ob (plain_take_last (contents ob)) (take_last_of ob)
  take_last_meets =
      rw count (take_meets (ob.held - 1) _ ob.items
      (λ h. (omega arith, take-take (ob.held - 1) ob.held ob.items (omega arith), long, refl)))

  add_meets : (v : ℕ) → Meets capacity ob (plain_add v (contents ob)) (add_of v ob)
  add_meets v = record { accepted = refl; plain = refl; told = (refl, tt); held = fits; places = long; past = refl }

  meets : (kind : Kind) (request : Request) → T (knows kind request)
      → Meets capacity ob (plain_step kind capacity request (contents ob)) (applied_known kind capacity request ob)
  meets Queue (Put v) k = put_meets v
  meets Queue Take k = take_first_meets
  meets Queue (Add v) k = absurd k
  meets Stack (Put v) k = put_meets v
  meets Stack Take k = take_last_meets
  meets Stack (Add v) k = absurd k
  meets Counter (Put v) k = absurd k
  meets Counter Take k = absurd k
  meets Counter (Add v) k = add_meets v

most_places : (kind : Kind) → most_capacity kind ≤ 64
most_places Queue = omega arith
most_places Stack = omega arith
most_places Counter = omega arith

capacity_bound : (kind : Kind) (capacity : ℕ) → T (capacity_allowed kind capacity) → capacity ≤ 64
capacity_bound kind capacity h =
    let below = leb→le capacity (most_capacity kind) (and_r (leb (least_capacity kind) capacity) (leb capacity (most_capacity kind)) h) in
    omega (arith, most_places kind)

-- what the range gives as bounds
pub range_bounds : (kind : Kind) (capacity held : ℕ) → T (held_in_range kind capacity held)
    → (capacity ≤ 64) × (held ≤ capacity)
range_bounds kind capacity held h =
    let c = capacity_allowed kind capacity in
    (capacity_bound kind capacity (and_l c (leb held capacity) h), leb→le held capacity (and_r c (leb held capacity) h))

module _ (kind : Kind) (capacity : ℕ) (ob : Object) (request : Request) (long : length ob.items ≡ 64) where
  abbrev Plainly : Applied → Type 0
  Plainly r = AppliesPlainly kind capacity ob request r × (length r.object.items ≡ 64) × PastHeld ob r.object

  when_known : T (object_in_range kind capacity ob) → T (knows kind request) → Plainly (applied_known kind capacity request ob)
  when_known h k =
      let allowed = capacity_allowed kind capacity in
      let b = range_bounds kind capacity ob.held h in
      let m = meets capacity ob long b.0 b.1 kind request k in
      let after = (applied_known kind capacity request ob).object.held in (
        record {
          accepted = λ _ _. m.accepted;
          plain = λ _ _. m.plain;
          stays =
              λ _.
              and_i allowed (leb after capacity) (and_l allowed (leb ob.held capacity) h)
              (le→leb after capacity m.held);
          in_range = rw m.told.0 tt;
          tells = m.told.1;
        },
        m.places,
        m.past,
      )

  when_refused : (number : ℕ) → (T (object_in_range kind capacity ob) → T (knows kind request) → ⊥)
      → Plainly (refused_with number ob)
  when_refused number out =
      (record { accepted = λ h k. absurd (out h k); plain = λ h k. absurd (out h k); stays = λ h. h; in_range = tt; tells = tt }, long, refl)

  by_tests : (t u : Bool) → object_in_range kind capacity ob ≡ t → knows kind request ≡ u
      → Plainly (cond t (cond u (applied_known kind capacity request ob) (refused_with 9 ob)) (refused_with 14 ob))
  by_tests true true e f = when_known (rw e tt) (rw f tt)
  by_tests true false e f = when_refused 9 (λ h k. rw f at k)
  by_tests false u e f = when_refused 14 (λ h k. rw e at h)

  -- what `apply` returns is the plain object's
  pub applies_plainly : AppliesPlainly kind capacity ob request (apply_of kind capacity ob request)
  applies_plainly = (by_tests (object_in_range kind capacity ob) (knows kind request) refl refl).0

  -- as equals it
  pub plainly_as : (r : Applied) → r ≡ apply_of kind capacity ob request → AppliesPlainly kind capacity ob request r
  plainly_as r e = rw e applies_plainly

  -- and the storage still has its 64 places
  pub places_stay : length (apply_of kind capacity ob request).object.items ≡ 64
  places_stay = (by_tests (object_in_range kind capacity ob) (knows kind request) refl refl).1

  -- those past the items that it then holds are as they were
  pub past_held : PastHeld ob (apply_of kind capacity ob request).object
  past_held = (by_tests (object_in_range kind capacity ob) (knows kind request) refl refl).2

-- the storages hold the same: as many items, the same ones, and the same sum
pub record HoldSame (ob ob' : Object) : Type 0 where
  pub held : ob.held ≡ ob'.held
  pub plain : contents ob ≡ contents ob'

pub record AnswerSame (r r' : Applied) : Type 0 where
  pub answer : r.answer ≡ r'.answer
  pub object : HoldSame r.object r'.object

module _ (kind : Kind) (capacity : ℕ) where
  held_many : (ob : Object) → length ob.items ≡ 64 → T (object_in_range kind capacity ob) → length (contents ob).values ≡ ob.held
  held_many ob long fits =
      let bounds = range_bounds kind capacity ob.held fits in
      count capacity ob long bounds.0 bounds.1

  -- what a request that is known is answered, and what is then held, hangs on what is held alone
  pub same_answered : (ob ob' : Object) (request : Request) → length ob.items ≡ 64 → length ob'.items ≡ 64
      → T (object_in_range kind capacity ob) → T (knows kind request) → HoldSame ob ob'
      → AnswerSame (apply_of kind capacity ob request) (apply_of kind capacity ob' request)
  same_answered ob ob' request long long' fits known same =
      let fits' : T (object_in_range kind capacity ob') = rw (← same.held) fits in
      let r = applies_plainly kind capacity ob request long in
      let r' = applies_plainly kind capacity ob' request long' in
      let responds = sym (r.plain fits known) ∙ ap (plain_step kind capacity request) same.plain ∙ r'.plain fits' known in
      record {
        answer = ap (λ (p : Response). p.answer) responds;
        object = record {
          held =
              sym (held_many (apply_of kind capacity ob request).object (places_stay kind capacity ob request long) (r.stays fits))
              ∙ ap (λ (p : Response). length p.after.values) responds
              ∙ held_many (apply_of kind capacity ob' request).object (places_stay kind capacity ob' request long') (r'.stays fits');
          plain = ap (λ (p : Response). p.after) responds;
        };
      }
