-- What holds after every cut of a file's run by either method: the file's head and requests, the counts, and whatever else every entry keeps. Assumes fields in
-- range and what the module's parameters say.
use Prim.Native.Nat.{ℕ, ◌-◌, ◌≤◌, ◌<◌}
use native.Mathlib.Omega.{arith}
use mathlib.Core.Path.{◌≡◌, refl, ◌∙◌}
use mathlib.Core.List.{List, [], ◌∷◌, reverse}
use lib.ListN.{length, take}
use Rattle.bench_file.specs.Layout.{Fields}
use Rattle.bench_file.specs.Bytes.{InRange}
use Rattle.machine.specs.declared.Method.{Method}
use Rattle.machine.specs.declared.ThreadId.{ThreadId}
use Rattle.state.specs.declared.State.{State}
use Rattle.step.specs.Entry.{named, request}
use Rattle.history.specs.Entries.{Entry}
use Rattle.claims.specs.Entries.{entry_by, start_by, state_after, entries_by}
use Rattle.step.specs.ByMethod.{entered_by}
use Rattle.claims.specs.Claims.{asked_by}
use Rattle.claims.proofs.Counted.{Counted, counted_next}
use Rattle.claims.proofs.Cut.{AllOk, after_cut}
use Rattle.claims.proofs.Start.{requests_start}

-- what no entry changes
pub record Fixed (s s' : State) : Type 0 where
  pub method : s'.method ≡ s.method
  pub n : s'.n ≡ s.n
  pub h : s'.h ≡ s.h
  pub kind : s'.kind ≡ s.kind
  pub capacity : s'.capacity ≡ s.capacity
  pub requests : s'.requests ≡ s.requests

pub fixed : (m : Method) (s : State) (t : ThreadId) → Fixed s (entered_by m s t)
fixed m s t = record { method = refl; n = refl; h = refl; kind = refl; capacity = refl; requests = refl }

-- a state of a file's run and the entries before it, the latest first: of the file's head and requests, and counted
pub record Going (m : Method) (f : Fields) (s : State) (past : List Entry) : Type 0 where
  pub method : s.method ≡ m
  pub n : s.n ≡ f.head.n
  pub h : s.h ≡ f.head.h
  pub kind : s.kind ≡ f.head.object
  pub capacity : s.capacity ≡ f.head.capacity
  pub requests : s.requests ≡ (start_by m f).requests
  pub counted : Counted s past
  pub short : length past ≤ 32768

-- the request of the call that a thread has begun last is the file's
pub request_going : {m : Method} (f : Fields) (s : State) (past : List Entry) (t : ThreadId) → InRange f → Going m f s past → (named s t).begun ≤ 16
    → request s t ≡ asked_by f (record { thread = t; request = (named s t).begun - 1 })
request_going {m} f s past t fits going few = rw going.requests (requests_start m f fits t.0 ((named s t).begun - 1) (omega arith))

pub going_start : (m : Method) (f : Fields) → Going m f (start_by m f) []
going_start m f =
    record { method = refl; n = refl; h = refl; kind = refl; capacity = refl; requests = refl; counted = record { counts = refl; few = tt }; short = omega arith }

-- one more entry
pub going_next : (m : Method) (f : Fields) (s : State) (past : List Entry) (t : ThreadId) → length past < 32768 → Going m f s past
    → Going m f (entered_by m s t) (entry_by m s t ∷ past)
going_next m f s past t short going =
    let same = fixed m s t in
    record {
      method = same.method ∙ going.method;
      n = same.n ∙ going.n;
      h = same.h ∙ going.h;
      kind = same.kind ∙ going.kind;
      capacity = same.capacity ∙ going.capacity;
      requests = same.requests ∙ going.requests;
      counted = counted_next m s past t going.counted;
      short = omega arith;
    }

-- what every entry keeps of which what is asked holds
module _ (m : Method) (f : Fields) (fits : InRange f) (Ok : State → ThreadId → Type 0) (P : State → List Entry → Type 0) (start : P (start_by m f) [])
    (keeps : (s : State) (past : List Entry) (t : ThreadId) → t.0 < s.n → length past < 32768 → Ok s t → Going m f s past → P s past
    → P (entered_by m s t) (entry_by m s t ∷ past)) where
  abbrev pub Both : State → List Entry → Type 0
  Both s past = Going m f s past × P s past

  pub goes_on : (s : State) (past : List Entry) (t : ThreadId) → t.0 < f.head.n → length past < 32768 → Ok s t → Both s past
      → Both (entered_by m s t) (entry_by m s t ∷ past)
  goes_on s past t below short ok now =
      (going_next m f s past t short now.0, keeps s past t (omega (arith, now.0.n)) short ok now.0 now.1)

  -- holds after j entries, if what is asked holds of these
  pub run_keeps : (j : ℕ) → AllOk m Ok (start_by m f) (take j f.schedule)
      → Both (state_after m (start_by m f) (take j f.schedule)) (reverse (take j (entries_by m f)))
  run_keeps j ok = after_cut m f j Ok Both fits goes_on ok (going_start m f, start)
