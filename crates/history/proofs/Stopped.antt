-- A run stopped after j entries, one entry at a time, and the number of an entry that happens once. Assumes what its parameters say.
use Prim.Native.Nat.{ℕ, zero, suc, ◌<◌}
use native.Mathlib.Omega.{arith}
use mathlib.Core.Path.{◌≡◌, refl, sym, ap, subst, ◌∙◌}
use mathlib.Core.Bool.{Bool, true, false, cond, false≢true, and-eq-true_iff}
use mathlib.Core.List.{List, [], ◌∷◌, reverse_aux, reverse}
use lib.ListN.{length, take, length-reverse}
use lib.Seq.{take_all, length-take-le}
use lib.Dec.{eqb}
use borrow.Author.Tests.{eqb-true, eq-eqb}
use Rattle.object.proofs.Choice.{by_equal, by_order, by_test}
use Rattle.machine.specs.declared.ThreadId.{ThreadId}
use Rattle.machine.specs.declared.Event.TheVariants.{CallBegins}
use Rattle.history.specs.Entries.{Entry, thread_id, is, Is, is_by}
use Rattle.history.specs.Terms.{Call, begun_by, call_of, does, number_where}
use Rattle.history.specs.History.{last_of}
use Rattle.history.proofs.OfCall.{call, does_told, does_so}
use Rattle.history.proofs.Told.{is_so}

-- a history with one entry more
pub record Grown (before after : List Entry) : Type 0 where
  pub entry : Entry
  pub is : after ≡ entry ∷ before

grows_from : (entries past : List Entry) (j : ℕ) → j < length entries → Grown (reverse_aux (take j entries) past) (reverse_aux (take (suc j) entries) past)
grows_from [] past j b = absurd (omega arith)
grows_from (e ∷ entries) past zero b = record { entry = e; is = refl }
grows_from (e ∷ entries) past (suc j) b = grows_from entries (e ∷ past) j (omega arith)

module _ (entries : List Entry) where
  -- the history after j entries
  abbrev pub after : ℕ → List Entry
  after j = reverse (take j entries)

  -- what is so once an entry passes a test, and not before: the number of that entry is how long it was not so
  module _ (test : Entry → List Entry → Bool) (So : List Entry → Type 0) (At : ℕ → Type 0)
      (never : So [] → ⊥) (before : (e : Entry) (past : List Entry) → test e past ≡ false → So (e ∷ past) → So past)
      (here : (j : ℕ) (e : Entry) → after (suc j) ≡ e ∷ after j → So (e ∷ after j) → test e (after j) ≡ true → At j) where
    abbrev number : List Entry → ℕ
    number = number_where test

    pub at_number : (j : ℕ) → So (after j) → At (number (after j))
    at_number zero so = absurd (never so)
    at_number (suc j) so =
        by_order j (length entries)
        (λ more.
        let grown = grows_from entries [] j more in
        let e = grown.entry in
        let now = subst So grown.is so in
        by_test (test e (after j))
        (λ yes.
        let is : number (after (suc j)) ≡ j =
        ap number grown.is ∙ ap (λ (b : Bool). cond b (length (after j)) (number (after j))) yes ∙ length-reverse (take j entries) ∙ length-take-le j entries (omega arith) in
        subst At (sym is) (here j e grown.is now yes))
        (λ not_yet.
        let is : number (after (suc j)) ≡ number (after j) =
        ap number grown.is ∙ ap (λ (b : Bool). cond b (length (after j)) (number (after j))) not_yet in
        subst At (sym is) (at_number j (before e (after j) not_yet now))))
        (λ all.
        let same = ap reverse (take_all (suc j) entries (omega arith) ∙ sym (take_all j entries all)) in
        subst (λ (r : List Entry). At (number r)) (sym same) (at_number j (subst So same so)))

-- an entry that begins a call finds as many calls begun as the call's number, and leaves one more
module _ (c : Call) (e : Entry) (past : List Entry) where
  pub begins_call : does CallBegins c e past ≡ true → (begun_by c.thread past ≡ c.request) × (begun_by c.thread (e ∷ past) ≡ suc c.request)
  begins_call z =
      let told = does_told e past CallBegins c z in
      subst (λ (d : Call). (begun_by d.thread past ≡ d.request) × (begun_by d.thread (e ∷ past) ≡ suc d.request)) (sym told.0)
      (rw (is_so e CallBegins told.1, eq-eqb e.thread.0 e.thread.0 refl) (omega arith))

  pub begun_before : does CallBegins c e past ≡ false → c.request < begun_by c.thread (e ∷ past) → c.request < begun_by c.thread past
  begun_before other so =
      by_test (is_by c.thread CallBegins e)
      (λ begins.
      let both = (and-eq-true_iff (eqb e.thread.0 c.thread.0) (is CallBegins e)).0 begins in
      let begun : Is CallBegins e = eqb-true _ _ both.1 in
      let thread : e.thread ≡ c.thread = ap thread_id (eqb-true _ _ both.0) in
      by_equal c.request (begun_by c.thread past)
      (λ last.
      let mine : call_of e past ≡ c =
      ap (λ (u : ThreadId). last_of u.0 (begun_by u (e ∷ past))) thread ∙ rw begins (ap (call c.thread.0) (omega arith)) in
      absurd (false≢true (sym other ∙ subst (λ (d : Call). does CallBegins d e past ≡ true) mine (does_so e past CallBegins (λ z. omega arith) begun))))
      (λ less. omega (arith, rw begins at so)))
      (λ none. omega (arith, rw none at so))
