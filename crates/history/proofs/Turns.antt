-- Turns, entry by entry: who combines, which turn is whose, and how many each has served. Assumes Moves and Turns before the entry.
use Prim.Native.Nat.{ℕ, suc, ◌+◌, ◌<◌}
use native.Mathlib.Omega.{arith}
use mathlib.Core.Path.{◌≡◌, refl, sym, ap, subst, ◌∙◌}
use mathlib.Core.Bool.{Bool, true, false, cond, ◌&&◌, ◌||◌, false≢true, and-false}
use mathlib.Core.List.{List, [], ◌∷◌}
use lib.Dec.{eqb}
use borrow.Author.Tests.{eq-eqb, ne_eqb, eqb-true, eqb-false}
use Rattle.object.proofs.Choice.{by_equal}
use Rattle.machine.specs.declared.Event.TheVariants.{TurnBegins, Applies, TurnEnds}
use Rattle.step.specs.Entry.{one_if}
use Rattle.history.specs.Entries.{Entry, thread_id, is, Is, how_many}
use Rattle.history.specs.Terms.{turn_of, combines, served_in}
use Rattle.history.specs.Method.{Seen, Positions, idle, combining, Moves}
use Rattle.history.specs.History.{InTurn, Turns, Ended}
use Rattle.history.proofs.Told.{is_so, is_not, by_event, by_thread, goes}

-- one combiner at most, if one thread at most is in its turn
pub one_combiner : {n h : ℕ} {x : Seen} {p : Positions} {past : List Entry}
    → ((t u : ℕ) → t < n → u < n → x.phase t ≡ combining → x.phase u ≡ combining → t ≡ u) → Turns n h x p past
    → (t u : ℕ) → combines (thread_id t) past ≡ true → combines (thread_id u) past ≡ true → t ≡ u
one_combiner one_turn turns t u p q =
    let i = turns.combiner t p in
    let j = turns.combiner u q in
    one_turn t u i.thread j.thread i.phase j.phase

-- the start: no turn has begun
pub turns_fresh : (n h : ℕ) (x : Seen) (p : Positions) → ((u : ℕ) → u < n → x.phase u ≡ idle) → Turns n h x p []
turns_fresh n h x p still = record {
  combiner = λ u told. absurd (false≢true told);
  in_turn = λ u i. absurd (omega (arith, i.phase, still u i.thread));
  latest = λ u i. absurd (omega (arith, i.phase, still u i.thread));
  served = λ u i. absurd (omega (arith, i.phase, still u i.thread));
  unbegun = λ turn later. omega arith;
  most = λ turn. omega arith;
}

-- thread u is in its turn before and after entry e of thread t
record Stays (n : ℕ) (x : Seen) (t : ℕ) (e : Entry) (u : ℕ) : Type 0 where
  turn : InTurn n x u
  begins : Is TurnBegins e → ⊥
  ends : Is TurnEnds e → ⊥
  serves : Is Applies e → u ≡ t

module _ {n h : ℕ} {x x' : Seen} {p p' : Positions} {t : ℕ} {e : Entry} (past : List Entry) (m : Moves n h x x' p p' t e) where
  -- what the entry adds to the turns
  turns_begun : Is TurnBegins e → how_many TurnBegins (e ∷ past) ≡ suc (how_many TurnBegins past)
  turns_begun z = rw z (omega arith)

  turns_same : (Is TurnBegins e → ⊥) → how_many TurnBegins (e ∷ past) ≡ how_many TurnBegins past
  turns_same other = rw (is_not e TurnBegins other) (omega arith)

  pub turn_begun : Is TurnBegins e → turn_of (thread_id t) (e ∷ past) ≡ how_many TurnBegins past
  turn_begun z = rw (m.thread, z, eq-eqb t t refl)

  -- the same, where the thread's number is only equal to t
  turn_now : (u : ℕ) → u ≡ t → Is TurnBegins e → turn_of (thread_id u) (e ∷ past) ≡ how_many TurnBegins past
  turn_now u same z = ap (λ (v : ℕ). turn_of (thread_id v) (e ∷ past)) same ∙ turn_begun z

  -- what a thread's turn has served, once that turn is known
  by_its_turn : (u : ℕ) {turn : ℕ} → turn_of (thread_id u) (e ∷ past) ≡ turn → served_in turn (e ∷ past) + p'.b ≡ p'.a
      → served_in (turn_of (thread_id u) (e ∷ past)) (e ∷ past) + p'.b ≡ p'.a
  by_its_turn u q = subst (λ (k : ℕ). served_in k (e ∷ past) + p'.b ≡ p'.a) (sym q)

  pub turn_kept : (u : ℕ) → (u ≡ t → Is TurnBegins e → ⊥) → turn_of (thread_id u) (e ∷ past) ≡ turn_of (thread_id u) past
  turn_kept u apart =
      by_equal u t (λ q. rw (is_not e TurnBegins (apart q), and-false))
      (λ q. rw (m.thread, ne_eqb t u (λ same. q (sym same))))

  -- who applies serves one in its thread's turn, and in no other
  served_more : (turn : ℕ) → (Is Applies e → turn_of (thread_id t) past ≡ turn) → served_in turn (e ∷ past) ≡ one_if (is Applies e) + served_in turn past
  served_more turn same =
      rw (by_thread m)
      (by_event e Applies (λ z. rw (z, eq-eqb _ turn (same z))) (λ other. rw (is_not e Applies other)))

  served_same : (turn : ℕ) → (Is Applies e → turn_of (thread_id t) past ≡ turn → ⊥) → served_in turn (e ∷ past) ≡ served_in turn past
  served_same turn apart =
      rw (by_thread m)
      (by_event e Applies (λ z. rw (z, ne_eqb _ turn (apart z)) (omega arith)) (λ other. rw (is_not e Applies other) (omega arith)))

  -- who combines has just begun its turn, or did combine and doesn't end it
  combines_by : {P : Type 0} (u : ℕ) → combines (thread_id u) (e ∷ past) ≡ true → (u ≡ t → Is TurnBegins e → P)
      → (combines (thread_id u) past ≡ true → (u ≡ t → Is TurnEnds e → ⊥) → P) → P
  combines_by {P} u told begins stays = go (eqb t u) (is TurnBegins e) (is TurnEnds e) refl refl refl (rw m.thread at told)
    where
      go : (same first last : Bool) → eqb t u ≡ same → is TurnBegins e ≡ first → is TurnEnds e ≡ last
          → cond (same && first || same && last) first (combines (thread_id u) past) ≡ true → P
      go true true last p q r told = begins (sym (eqb-true t u p)) (eqb-true _ _ q)
      go true false true p q r told = absurd (false≢true told)
      go true false false p q r told = stays told (λ same. eqb-false _ _ r)
      go false first last p q r told = stays told (λ same. absurd (eqb-false t u p (sym same)))

  in_turn : Is Applies e → InTurn n x t
  in_turn q = record { thread = m.below; phase = ((goes m).applies q).0 }

  -- no other is in its turn while t begins one, applies or ends one
  alone : (u : ℕ) → (u ≡ t → ⊥) → InTurn n x u → ((Is TurnBegins e → ⊥) × (Is Applies e → ⊥) × (Is TurnEnds e → ⊥))
  alone u apart i = (
    λ q. m.no_turn q u i.thread i.phase,
    λ q. apart (m.one_turn u t i.thread m.below i.phase ((goes m).applies q).0),
    λ q. apart (m.one_turn u t i.thread m.below i.phase ((goes m).ends q).0),
  )

  -- who is in its turn after the entry has just begun it, or was before
  by_turn : {P : Type 0} (u : ℕ) → InTurn n x' u → (u ≡ t → Is TurnBegins e → P) → (Stays n x t e u → P) → P
  by_turn {P} u i begins stays = by_equal u t mine other
    where
      mine : u ≡ t → P
      mine same =
          by_event e TurnBegins (begins same) λ apart.
          let own = (goes m).into_turn (rw same at i.phase) apart in
          stays (record { turn = record { thread = i.thread; phase = rw same own.0 }; begins = apart; ends = own.1; serves = λ z. same })

      other : (u ≡ t → ⊥) → P
      other apart =
          let before : InTurn n x u = record { thread = i.thread; phase = sym (m.others u apart).phase ∙ i.phase } in
          let no_turn = alone u apart before in
          stays (record { turn = before; begins = no_turn.0; ends = no_turn.2; serves = λ z. absurd (no_turn.1 z) })

  -- a turn that isn't ended goes on
  goes_on : (u : ℕ) → InTurn n x u → (u ≡ t → Is TurnEnds e → ⊥) → InTurn n x' u
  goes_on u i going = by_equal u t
      (λ same. record { thread = i.thread; phase = rw same ((goes m).goes_on (rw same at i.phase) (going same)) })
      (λ apart. record { thread = i.thread; phase = (m.others u apart).phase ∙ i.phase })

  pub ended_kept : (turn : ℕ) → Ended n x past turn → Ended n x' (e ∷ past) turn
  ended_kept turn f = record {
    begun = omega (arith, f.begun);
    over = λ u i.
        by_turn u i (λ same z. omega (arith, turns_begun z, f.begun)) (λ s. omega (arith, turns_same s.begins, f.over u s.turn));
  }

  module _ (w : Turns n h x p past) where
    -- a turn other than the latest serves no more
    unserved : (turn : ℕ) → (InTurn n x t → suc turn ≡ how_many TurnBegins past → ⊥) → served_in turn (e ∷ past) ≡ served_in turn past
    unserved turn apart =
        served_same turn λ z same.
        let i = in_turn z in
        apart i (omega (arith, w.latest t i))

    pub frozen : (turn : ℕ) → Ended n x past turn → served_in turn (e ∷ past) ≡ served_in turn past
    frozen turn f = unserved turn (λ i same. omega (arith, f.over t i))

    -- a turn that ends has served as many as its counter says
    pub turn_ends : Is TurnEnds e
        → Ended n x' (e ∷ past) (turn_of (thread_id t) (e ∷ past)) × (served_in (turn_of (thread_id t) (e ∷ past)) (e ∷ past) ≡ x.counter t)
    turn_ends z =
        let i : InTurn n x t = record { thread = m.below; phase = ((goes m).ends z).0 } in
        subst (λ (turn : ℕ). Ended n x' (e ∷ past) turn × (served_in turn (e ∷ past) ≡ x.counter t)) (sym (turn_kept t (λ _ y. omega arith))) (
          record {
            begun = omega (arith, w.latest t i);
            over = λ u j. by_turn u j (λ same y. absurd (omega arith)) (λ s. absurd (s.ends z));
          },
          omega (arith, w.served t i, served_same (turn_of (thread_id t) past) (λ y. absurd (omega arith)), m.turn_ends z),
        )

    -- who applies has room for one more in its thread's turn
    room : Is Applies e → served_in (turn_of (thread_id t) past) past < h
    room z = omega (arith, w.served t (in_turn z), (m.serving z).2)

    -- and combines
    pub applies_combining : Is Applies e → combines (thread_id t) past ≡ true
    applies_combining z = w.in_turn t (in_turn z)

    pub turns_kept : Turns n h x' p' (e ∷ past)
    turns_kept = record {
      combiner = λ u told.
          combines_by u told (λ same z. record { thread = rw same m.below; phase = rw same ((goes m).turn z).1 })
          (λ was going. goes_on u (w.combiner u was) going);
      in_turn = λ u i.
          by_turn u i (λ same z. rw (same, m.thread, z, eq-eqb t t refl))
          (λ s. rw (is_not e TurnBegins s.begins, is_not e TurnEnds s.ends, and-false) (w.in_turn u s.turn));
      latest = λ u i.
          by_turn u i (λ same z. omega (arith, turn_now u same z, turns_begun z))
          (λ s. omega (arith, turn_kept u (λ _. s.begins), turns_same s.begins, w.latest u s.turn));
      served = λ u i.
          by_turn u i
          (λ same z.
          let none = served_same (how_many TurnBegins past) (λ y. absurd (omega arith)) ∙ w.unbegun (how_many TurnBegins past) (omega arith) in
          by_its_turn u (turn_now u same z) (omega (arith, none, m.turn_at z, m.notes.b (λ y. omega arith), rw z at m.notes.a)))
          (λ s.
          let one = served_more (turn_of (thread_id u) past) (λ z. rw (s.serves z)) in
          by_its_turn u (turn_kept u (λ _. s.begins)) (omega (arith, one, w.served u s.turn, m.notes.b s.ends, m.notes.a)));
      unbegun = λ turn later. omega (arith, w.unbegun turn (omega arith), unserved turn (λ i same. omega arith));
      most = λ turn.
          by_equal (turn_of (thread_id t) past) turn
          (λ same.
          by_event e Applies
          (λ z.
          let one : served_in turn (e ∷ past) ≡ 1 + served_in turn past = served_more turn (λ y. same) ∙ rw (is_so e Applies z) in
          omega (arith, one, rw same at (room z)))
          (λ other. omega (arith, served_same turn (λ y. absurd (other y)), w.most turn)))
          (λ apart. omega (arith, served_same turn (λ y. apart), w.most turn));
    }
