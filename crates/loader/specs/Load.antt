-- What a file loads as, by what it is judged to be; and the requests of its bytes, five bytes each.
use Rattle.std.specs.Prelude.{ℕ, zero, suc, List, [], ◌∷◌, length, get_or, take, drop, Result, Ok, Err}
use Rattle.object.specs.declared.Request.{Request}
use Rattle.object.specs.Paper.{request_of}
use Rattle.bench_file.specs.Reading.{little_endian}
use Rattle.bench_file.specs.Layout.{requests_of, Judgement, accepted, refused_by}
use Rattle.claims.specs.Entries.{start_by}
use Rattle.loader.specs.declared.Loaded.{Loaded}

-- how many requests and entries an accepted file has, and its fresh machine; or the refusal's number
abbrev pub loaded_as : Judgement → Result Loaded ℕ
loaded_as (accepted f) = Ok (record { requests = requests_of f; entries = length f.schedule; state = start_by f.head.method f })
loaded_as (refused_by number) = Err number

-- the request whose code and value the bytes begin with, and so many requests, one after the other
abbrev pub request_in : List ℕ → Request
request_in bytes = request_of (get_or bytes 0 0) (little_endian (take 4 (drop 1 bytes)))

abbrev pub requests_in : ℕ → List ℕ → List Request
requests_in zero bytes = []
requests_in (suc count) bytes = request_in bytes ∷ requests_in count (drop 5 bytes)
