-- What running a file gives, with so many bytes lent for its records: the result, and the bytes of the buffer. Document 01, 'The record of a call', and request
-- No. 6.
use Rattle.std.specs.Prelude.{ℕ, zero, suc, ◌*◌, cond, List, [], ◌∷◌, ◌++◌, length, take, drop, ltb}
use Rattle.bench_file.specs.Layout.{requests_of, Judgement, accepted, refused_by}
use Rattle.bench_file.specs.Bytes.{each_bytes}
use Rattle.machine.specs.Sizes.{most_calls}
use Rattle.history.specs.Terms.{record_length}
use Rattle.claims.specs.Result.{Result, refused_result, result_as}

-- a run needs the bytes of a record for each request in the file, performed or not, else it is refused with 13, whatever it would do; with enough lent it is 14 if
-- an entry meets null
abbrev pub result_in : ℕ → Judgement → Result
result_in lent (accepted f) = cond (ltb lent (record_length * requests_of f)) (refused_result 13) (result_as (accepted f))
result_in lent (refused_by number) = result_as (refused_by number)

-- so many bytes are enough for the records of every file
abbrev pub enough_for_records : ℕ
enough_for_records = record_length * most_calls

-- the buffer after it: the records one after the other from its first byte on, and its later bytes as they were
abbrev pub written : List ℕ → List (List ℕ) → List ℕ
written old records = let bytes = each_bytes (λ (record_bytes : List ℕ). record_bytes) records in bytes ++ drop (length bytes) old

-- so many records, read from a buffer one after the other
unfoldable pub records_laid : ℕ → List ℕ → List (List ℕ)
records_laid zero bytes = []
records_laid (suc count) bytes = take record_length bytes ∷ records_laid count (drop record_length bytes)
