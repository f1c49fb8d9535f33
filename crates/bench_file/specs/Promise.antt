-- What `judge` promises of its answer, beside the papers' number and counts for each of the answer's cases.
use Rattle.std.specs.Prelude.{ℕ, ◌≡◌, ◌↔◌, List, length, Result, Ok, Err}
use Rattle.bench_file.specs.declared.Judged.{Judged}
use Rattle.bench_file.specs.Layout.{Fields, requests_of, Judgement, accepted, refused_by, judge_of}
use Rattle.bench_file.specs.Bytes.{Tabled, InRange, bytes_of}

-- the answer for a judgement, by its number: head, requests in all and entries of the fields, or the refusal's number
abbrev pub judged_as : Judgement → Result Judged ℕ
judged_as (accepted f) = Ok (record { head = f.head; requests = requests_of f; entries = length f.schedule })
judged_as (refused_by refusal) = Err refusal

-- the refusal's number, 0 for none; a refusal has all counts 0
abbrev pub judged_refusal : Result Judged ℕ → ℕ
judged_refusal (Ok judged) = 0
judged_refusal (Err refusal) = refusal

abbrev pub judged_requests : Result Judged ℕ → ℕ
judged_requests (Ok judged) = judged.requests
judged_requests (Err refusal) = 0

abbrev pub judged_entries : Result Judged ℕ → ℕ
judged_entries (Ok judged) = judged.entries
judged_entries (Err refusal) = 0

pub record Judges (bytes : List ℕ) (r : Result Judged ℕ) : Type 0 where
  -- the answer is what the front-to-back reading gives
  pub answer : r ≡ judged_as (judge_of bytes)
  -- accepted with given fields exactly if they are in range and the file is their bytes
  pub exactly : (f : Fields) → (judge_of bytes ≡ accepted f) ↔ (InRange f × (bytes_of f ≡ bytes))
  -- its counts are the requests and the entries of the fields; a refusal has its number, and all counts 0
  pub counts : (f : Fields) → judge_of bytes ≡ accepted f → (judged_requests r ≡ requests_of f) × (judged_entries r ≡ length f.schedule)
  pub refused : (refusal : ℕ) → judge_of bytes ≡ refused_by refusal → (judged_refusal r ≡ refusal) × (judged_requests r ≡ 0) × (judged_entries r ≡ 0)
  -- a refusal's number is 1 to 12 or 15, so that 0 means accepted
  pub numbers : (judged_refusal r ≡ 0 → ⊥) → Tabled (judged_refusal r)
  pub zero : judged_refusal r ≡ 0 → (f : Fields) × (judge_of bytes ≡ accepted f)
