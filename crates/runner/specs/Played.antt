-- What a run in place leaves: its counts, what is kept of each call, and Swap order; from the entries of the file's run.
use Rattle.std.specs.Prelude.{ℕ, zero, suc, ◌+◌, ◌*◌, ◌≡◌, cond, List, [], ◌∷◌, map, reverse, replicate, ltb, Result, Ok, Err}
use Rattle.refusal.specs.declared.Refusal.{Refusal}
use Rattle.refusal.specs.Numbers.{number}
use Rattle.object.specs.declared.Kind.TheVariants.{Queue}
use Rattle.bench_file.specs.Layout.{Fields, requests_of, Judgement, accepted, refused_by, judge_of}
use Rattle.bench_file.specs.Bytes.{InRange}
use Rattle.machine.specs.declared.Method.TheVariants.{CcSynch}
use Rattle.machine.specs.Sizes.{most_calls}
use Rattle.state.specs.declared.Counts.{Counts}
use Rattle.state.specs.declared.State.{State}
use Rattle.history.specs.Entries.{Entry}
use Rattle.history.specs.Terms.{swap_order, record_length, counts_of}
use Rattle.claims.specs.Entries.{filled, start_of, entries_from, meets_no_null}
use Rattle.claims.specs.Result.{counted}
use Rattle.runner.specs.declared.Played as declared
use Rattle.kept.specs.declared.Kept.{Kept}
use Rattle.kept.specs.Kept.{place_of, call_at, kept_of, unkept}

-- the fields of an accepted file; of a refused one none
abbrev pub fields_of : Judgement → Fields
fields_of (accepted f) = f
fields_of (refused_by number) = record { head = record { version = 1; object = Queue; n = 0; h = 0; capacity = 0; method = CcSynch }; rows = []; schedule = [] }

abbrev pub fields_in : List ℕ → Fields
fields_in bytes = fields_of (judge_of bytes)

-- the schedule and the fresh machine of a file whose fields are in range
pub record Startable (schedule : List ℕ) (s : State) : Type 0 where
  pub file : Fields
  pub fits : InRange file
  pub entries : schedule ≡ file.schedule
  pub start : s ≡ start_of file

-- the values of so many places, from a first place on
unfoldable pub tabled : {A : Type 0} → (ℕ → A) → ℕ → ℕ → List A
tabled value from zero = []
tabled value from (suc k) = value from ∷ tabled value (from + 1) k

-- a run: refusal 0 with its five counts, what is kept of each call, by its place, and the places in Swap order; or a refusal's number, with all counts 0 and nothing
-- kept
pub record Played : Type 0 where
  pub refusal : ℕ
  pub counts : Counts
  pub kept : List Kept
  pub order : List ℕ

-- what a run leaves
abbrev pub played_by : List Entry → Played
played_by history = record {
  refusal = 0;
  counts = counts_of history;
  kept = tabled (λ p. kept_of history (call_at p)) 0 most_calls;
  order = filled most_calls 0 (map place_of (swap_order history));
}

-- nothing is kept of a refusal
abbrev pub unplayed : ℕ → Played
unplayed number = record { refusal = number; counts = counted 0 0 0 0 0; kept = replicate most_calls unkept; order = replicate most_calls 0 }

-- the answer of a run in place, by its number
abbrev pub as_played : Result declared.Played Refusal → Played
as_played (Ok p) = record { refusal = 0; counts = p.counts; kept = p.kept; order = p.order }
as_played (Err refusal) = unplayed (number refusal)

-- after all entries of a schedule from a state, and of a file, by the method; 14 if one of them meets null
abbrev pub played_from : State → List ℕ → Played
played_from s schedule = cond (meets_no_null s.method s schedule) (played_by (reverse (entries_from s.method s schedule))) (unplayed 14)

abbrev pub played_of : Fields → Played
played_of f = played_from (start_of f) f.schedule

-- a file's run with so many bytes lent for its records: those of a record for each request in the file, performed or not, else 13
abbrev pub played_in : ℕ → Judgement → Played
played_in lent (accepted f) = cond (ltb lent (record_length * requests_of f)) (unplayed 13) (played_of f)
played_in lent (refused_by number) = unplayed number
