-- The run of a file by either method, cut to j entries, and what every entry keeps holds after each cut. Assumes fields in range, but for `stopped`.
use Prim.Native.Nat.{ℕ, zero, suc, ◌+◌, ◌≤◌, ◌<◌}
use native.Mathlib.Nat.{min-le_right}
use native.Mathlib.Omega.{arith}
use mathlib.Core.Path.{◌≡◌, refl, ap, ◌∙◌}
use mathlib.Core.Bool.{true, false, not, and-eq-true_iff}
use mathlib.Core.List.{List, [], ◌∷◌, map, reverse_aux, reverse}
use lib.ListN.{length, take, length-take}
use borrow.Author.Tests.{not-true}
use Rattle.bench_file.specs.Layout.{Fields}
use Rattle.object.specs.Each.{Each}
use Rattle.bench_file.specs.Bytes.{InRange}
use Rattle.object.proofs.Each.{each_take}
use Rattle.machine.specs.declared.Method.{Method}
use Rattle.machine.specs.declared.Method.TheVariants.{CcSynch}
use Rattle.machine.specs.declared.ThreadId.{ThreadId}
use Rattle.state.specs.declared.State.{State}
use Rattle.step.specs.ByMethod.{entered_by, null_met_by}
use Rattle.history.specs.Entries.{Entry, thread_id}
use Rattle.claims.specs.Entries.{entry_by, start_by, entries_from, state_after, meets_no_null, entries_by, cut}

entries_cut : (m : Method) (s : State) (j : ℕ) (schedule : List ℕ) → entries_from m s (take j schedule) ≡ take j (entries_from m s schedule)
unfolding entries_from
entries_cut m s zero schedule = refl
entries_cut m s (suc j) [] = refl
entries_cut m s (suc j) (t ∷ schedule) = ap (λ (l : List Entry). entry_by m s (thread_id t) ∷ l) (entries_cut m (entered_by m s (thread_id t)) j schedule)

-- an entry is of the thread that the schedule names
pub entry_thread : (m : Method) (s : State) (t : ThreadId) → (entry_by m s t).thread ≡ t
entry_thread m s t = refl

-- in its place
pub entries_named : (m : Method) (s : State) (schedule : List ℕ) → map (λ (e : Entry). e.thread.0) (entries_from m s schedule) ≡ schedule
unfolding entries_from
entries_named m s [] = refl
entries_named m s (t ∷ schedule) =
    ap (λ (u : ThreadId). u.0 ∷ map (λ (e : Entry). e.thread.0) (entries_from m (entered_by m s (thread_id t)) schedule)) (entry_thread m s (thread_id t))
    ∙ ap (λ (l : List ℕ). t ∷ l) (entries_named m (entered_by m s (thread_id t)) schedule)

pub stopped : (m : Method) (f : Fields) (j : ℕ) → entries_by m (cut j f) ≡ take j (entries_by m f)
stopped m f j = entries_cut m (start_by m f) j f.schedule

pub cut_in_range : (f : Fields) (j : ℕ) → InRange f → InRange (cut j f)
cut_in_range f j fits =
    let shorter : length (take j f.schedule) ≤ length f.schedule = rw length-take (min-le_right j (length f.schedule)) in
    record {
      head = fits.head;
      threads = fits.threads;
      rows = fits.rows;
      entries = omega (arith, fits.entries, shorter);
      schedule = each_take (λ thread. thread < f.head.n) j f.schedule fits.schedule;
    }

-- what is asked of an entry before it is run holds of each entry of a schedule, from a state on
abbrev pub AllOk : Method → (State → ThreadId → Type 0) → State → List ℕ → Type 0
AllOk m Ok s [] = Unit
AllOk m Ok s (t ∷ schedule) = Ok s (thread_id t) × AllOk m Ok (entered_by m s (thread_id t)) schedule

-- that it meets no null, which no entry of CC-Synch does
abbrev pub NoNull : Method → State → ThreadId → Type 0
NoNull m s t = null_met_by m s t ≡ false

pub none_met : (m : Method) (s : State) (schedule : List ℕ) → meets_no_null m s schedule ≡ true → AllOk m (NoNull m) s schedule
unfolding meets_no_null
none_met m s [] none = tt
none_met m s (t ∷ schedule) none =
    let now : ThreadId = thread_id t in
    let both = (and-eq-true_iff (not (null_met_by m s now)) (meets_no_null m (entered_by m s now) schedule)).0 none in
    (not-true (null_met_by m s now) both.0, none_met m (entered_by m s now) schedule both.1)

pub never_met : (s : State) (schedule : List ℕ) → meets_no_null CcSynch s schedule ≡ true
unfolding meets_no_null
never_met s [] = refl
never_met s (t ∷ schedule) = never_met (entered_by CcSynch s (thread_id t)) schedule

-- what holds of a state and of the entries before it, the latest first, is kept by every entry of a thread below n of which what is asked holds, while there are
-- fewer than `most`
abbrev pub Keeps : Method → ℕ → ℕ → (State → ThreadId → Type 0) → (State → List Entry → Type 0) → Type 0
Keeps m n most Ok P =
    (s : State) (past : List Entry) (t : ThreadId) → t.0 < n → length past < most → Ok s t → P s past → P (entered_by m s t) (entry_by m s t ∷ past)

module _ (m : Method) (n most : ℕ) (Ok : State → ThreadId → Type 0) (P : State → List Entry → Type 0) (keeps : Keeps m n most Ok P) where
  along : (s : State) (past : List Entry) (schedule : List ℕ) → Each (λ t. t < n) schedule → length past + length schedule ≤ most
      → AllOk m Ok s schedule → P s past → P (state_after m s schedule) (reverse_aux (entries_from m s schedule) past)
  unfolding entries_from state_after
  along s past [] each few ok p = p
  along s past (t ∷ schedule) each few ok p =
      let now : ThreadId = thread_id t in
      along (entered_by m s now) (entry_by m s now ∷ past) schedule each.1 (omega arith) ok.1 (keeps s past now each.0 (omega arith) ok.0 p)

-- so it holds after every cut of a file's run
pub after_cut : (m : Method) (f : Fields) (j : ℕ) (Ok : State → ThreadId → Type 0) (P : State → List Entry → Type 0) → InRange f
    → Keeps m f.head.n 32768 Ok P → AllOk m Ok (start_by m f) (take j f.schedule) → P (start_by m f) []
    → P (state_after m (start_by m f) (take j f.schedule)) (reverse (take j (entries_by m f)))
after_cut m f j Ok P fits keeps ok p =
    let fits' = cut_in_range f j fits in
    rw (← stopped m f j)
    (along m f.head.n 32768 Ok P keeps (start_by m f) [] (take j f.schedule) fits'.schedule (omega (arith, fits'.entries)) ok p)
