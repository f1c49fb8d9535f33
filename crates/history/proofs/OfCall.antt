-- Which call an entry is of, what an entry of another call leaves as it was, and what no Swap gives no call has got. Assumes nothing.
use Prim.Native.Nat.{ℕ, ◌+◌}
use native.Mathlib.Nat.{zero-add}
use mathlib.Core.Path.{◌≡◌, refl, sym, ap₂, subst, ◌∙◌}
use mathlib.Core.Bool.{Bool, true, false, cond, not, ◌&&◌, ◌||◌, false≢true, not-eq-not, and-false, and-eq-true_iff}
use mathlib.Core.List.{List, [], ◌∷◌}
use lib.ListN.{length}
use lib.Dec.{eqb}
use borrow.Author.Tests.{eq-eqb, eqb-true}
use Rattle.object.proofs.Choice.{either, both_fail}
use Rattle.machine.specs.declared.Event.{Event}
use Rattle.machine.specs.declared.Event.TheVariants.{Blank, Swaps, TurnBegins, Returns}
use Rattle.history.specs.Entries.{Entry, thread_id, happened, is, Is, how_many, remote_in}
use Rattle.history.specs.Terms.{Call, call_of, same, is_of, does, turn_of_call, cost_of, returned, combined, returns, number_of, gives_own, gave_other}
use Rattle.history.proofs.Told.{is_so, is_not}

-- request q of thread t
abbrev pub call : ℕ → ℕ → Call
call t q = record { thread = thread_id t; request = q }

pub same_itself : (c : Call) → same c c ≡ true
same_itself c = rw (eq-eqb c.thread.0 c.thread.0 refl, eq-eqb c.request c.request refl)

pub same_told : (c c' : Call) → same c c' ≡ true → c ≡ c'
same_told c c' e =
    let p = (and-eq-true_iff (eqb c.thread.0 c'.thread.0) (eqb c.request c'.request)).0 e in
    ap₂ call (eqb-true _ _ p.0) (eqb-true _ _ p.1)

pub not_same : (c c' : Call) → (c ≡ c' → ⊥) → same c c' ≡ false
not_same c c' f = (not-eq-not {b = false}).0 (λ e. f (same_told c c' e))

module _ (e : Entry) (past : List Entry) where
  pub blank_of_none : (c : Call) → Is Blank e → is_of c e past ≡ false
  blank_of_none c z = rw (is_so e Blank z)

  pub not_of : (c : Call) → (c ≡ call_of e past → ⊥) → is_of c e past ≡ false
  not_of c f = rw (not_same c (call_of e past) f) (and-false (not (is Blank e)))

  pub of_call : (c : Call) → is_of c e past ≡ true → c ≡ call_of e past
  of_call c z = same_told c (call_of e past) ((and-eq-true_iff (not (is Blank e)) (same c (call_of e past))).0 z).1

  pub is_of_lem : (Is Blank e → ⊥) → is_of (call_of e past) e past ≡ true
  is_of_lem z = rw (is_not e Blank z, same_itself (call_of e past))

  -- an entry that is an event of a call is of its thread's last call, and that event; and it is so
  pub does_told : (event : Event) (c : Call) → does event c e past ≡ true → (c ≡ call_of e past) × Is event e
  does_told event c z =
      let both = (and-eq-true_iff (is_of c e past) (is event e)).0 z in
      (of_call c both.0, eqb-true _ _ both.1)

  pub does_so : (event : Event) → (Is Blank e → ⊥) → Is event e → does event (call_of e past) e past ≡ true
  does_so event q z = ap₂ ◌&&◌ (is_of_lem q) (is_so e event z)

  -- where the last call has not returned, no call that the entry is of has
  pub not_returned : ((Is Blank e → ⊥) → returned (call_of e past) past ≡ false) → (c : Call) → is_of c e past ≡ true → returned c past ≡ false
  not_returned still c z =
      subst (λ (d : Call). returned d past ≡ false) (sym (of_call c z)) (still (λ q. false≢true (sym (blank_of_none c q) ∙ z)))

  -- what an entry of another call leaves
  pub record Left (c : Call) : Type 0 where
    pub cost : cost_of c (e ∷ past) ≡ cost_of c past
    pub returned : returned c (e ∷ past) ≡ returned c past
    pub combined : combined c (e ∷ past) ≡ combined c past
    pub turn : turn_of_call c (e ∷ past) ≡ turn_of_call c past
    pub returns : returns c (e ∷ past) ≡ returns c past
    pub number : (event : Event) → number_of event c (e ∷ past) ≡ number_of event c past

  pub left : (c : Call) → is_of c e past ≡ false → Left c
  left c p = record { cost = rw p (zero-add (cost_of c past)); returned = rw p; combined = rw p; turn = rw p; returns = rw p; number = λ event. rw p }

  -- and what an entry of the call adds
  pub record Added (c : Call) : Type 0 where
    pub cost : cost_of c (e ∷ past) ≡ remote_in e.remote + cost_of c past
    pub returned : returned c (e ∷ past) ≡ (is Returns e || returned c past)
    pub combined : combined c (e ∷ past) ≡ (is TurnBegins e || combined c past)
    pub turn : turn_of_call c (e ∷ past) ≡ cond (is TurnBegins e) (how_many TurnBegins past) (turn_of_call c past)
    pub returns : returns c (e ∷ past) ≡ cond (is Returns e) e.ret (returns c past)
    pub number : (event : Event) → number_of event c (e ∷ past) ≡ cond (is event e) (length past) (number_of event c past)

  pub added : (c : Call) → is_of c e past ≡ true → Added c
  added c p = record { cost = rw p; returned = rw p; combined = rw p; turn = rw p; returns = rw p; number = λ event. rw p }

-- where no Swap gives a node of its own thread, none has given a call the other one
pub never_other : (c : Call) (past : List Entry) → happened gives_own past ≡ false → gave_other c past ≡ false
never_other c [] none = refl
never_other c (e ∷ past) none =
    let (here, before) = both_fail (gives_own e past) (happened gives_own past) none in
    either (λ (gave : Bool). gave ≡ false) (does Swaps c e past) (λ swaps. rw here) (λ other. never_other c past before)
