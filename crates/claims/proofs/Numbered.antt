-- The numbers of the entries that a call began and returned with are their places in the schedule. Assumes, of the
-- second, that no entry is of a call that has returned.
use Prim.Native.Nat.{ℕ, suc, ◌<◌}
use native.Mathlib.Omega.{arith}
use mathlib.Core.Path.{◌≡◌, sym, ap, ◌∙◌}
use mathlib.Core.Bool.{true, false, false≢true, and-eq-true_iff}
use mathlib.Core.List.{List, ◌∷◌, reverse}
use Rattle.bench_file.specs.Layout.{Fields}
use Rattle.object.proofs.Choice.{by_test, both_fail}
use Rattle.machine.specs.declared.Method.{Method}
use Rattle.machine.specs.declared.Event.TheVariants.{Blank, CallBegins, Returns}
use Rattle.history.specs.Entries.{Entry, happened, is, Is}
use Rattle.history.specs.Terms.{Call, begun_by, call_of, is_of, does, returned, began_at, returned_at}
use Rattle.history.proofs.OfCall.{not_returned}
use Rattle.history.proofs.Told.{is_not}
use Rattle.history.proofs.Stopped.{after, at_number, begins_call, begun_before}
use Rattle.claims.specs.Entries.{entries_by, history_by, cut}
use Rattle.claims.specs.Claims.{after_return, BeginsAt, ReturnsAt}
use Rattle.claims.proofs.Cut.{stopped}

module _ (m : Method) (f : Fields) (c : Call) where
  -- the run of the file cut to j is that stopped after j entries
  cut_run : (j : ℕ) → history_by m (cut j f) ≡ after (entries_by m f) j
  cut_run j = ap reverse (stopped m f j)

  begins_here : (j : ℕ) (e : Entry) → after (entries_by m f) (suc j) ≡ e ∷ after (entries_by m f) j
      → c.request < begun_by c.thread (e ∷ after (entries_by m f) j) → does CallBegins c e (after (entries_by m f) j) ≡ true → BeginsAt m f c j
  begins_here j e grown so begins =
      let counts = begins_call c e (after (entries_by m f) j) begins in
      record { not_yet = rw (cut_run j) counts.0; then = rw (cut_run (suc j), grown) counts.1 }

  pub began_there : (j : ℕ) → c.request < begun_by c.thread (after (entries_by m f) j) → BeginsAt m f c (began_at c (after (entries_by m f) j))
  began_there =
      at_number (entries_by m f) (does CallBegins c) (λ past. c.request < begun_by c.thread past) (BeginsAt m f c)
      (λ so. omega arith) (λ e past. begun_before c e past) begins_here

  -- the entry that returns is of a call that had not returned
  open_yet : (e : Entry) (past : List Entry) → happened after_return (e ∷ past) ≡ false → does Returns c e past ≡ true → returned c past ≡ false
  open_yet e past none returns =
      let still : (Is Blank e → ⊥) → returned (call_of e past) past ≡ false = λ q.
      by_test (returned (call_of e past) past) (λ had. absurd (false≢true (sym none ∙ rw (is_not e Blank q, had)))) (λ had_not. had_not) in
      not_returned e past still c ((and-eq-true_iff (is_of c e past) (is Returns e)).0 returns).0

  abbrev HasReturned : List Entry → Type 0
  HasReturned past = (happened after_return past ≡ false) × (returned c past ≡ true)

  returns_here : (j : ℕ) (e : Entry) → after (entries_by m f) (suc j) ≡ e ∷ after (entries_by m f) j → HasReturned (e ∷ after (entries_by m f) j)
      → does Returns c e (after (entries_by m f) j) ≡ true → ReturnsAt m f c j
  returns_here j e grown so returns =
      record { not_yet = rw (cut_run j) (open_yet e (after (entries_by m f) j) so.0 returns); then = rw (cut_run (suc j), grown, returns) }

  pub returned_there : (j : ℕ) → happened after_return (after (entries_by m f) j) ≡ false → returned c (after (entries_by m f) j) ≡ true
      → ReturnsAt m f c (returned_at c (after (entries_by m f) j))
  returned_there j over so =
      at_number (entries_by m f) (does Returns c) HasReturned (ReturnsAt m f c) (λ so. false≢true so.1)
      (λ e past not_now so. ((both_fail (after_return e past) (happened after_return past) so.0).1, rw not_now at so.1)) returns_here j (over, so)
