-- What the listing service promises: its answer and every byte of the lent buffer.
use Rattle.std.specs.Prelude.{ℕ, ◌+◌, ◌*◌, ◌≤◌, ◌≡◌, List, length, drop}
use Rattle.bench_file.specs.Layout.{judge_of}
use Rattle.machine.specs.Sizes.{most_calls}
use Rattle.cells.specs.Promise.{Printed, Gives}
use Rattle.listing.specs.Listing.{listing_of}

-- how long a head line, of a version with one digit, and a record's line are at most
abbrev pub head_most : ℕ
head_most = 129

abbrev pub line_most : ℕ
line_most = 114

-- so many bytes hold every listing: a head line, and a line for each call
abbrev pub enough_bytes : ℕ
enough_bytes = head_most + most_calls * line_most

-- the listing of a file
pub record Lists (bytes old new : List ℕ) (r : Printed) : Type 0 where
  -- the listing stands in the buffer, or 13
  pub gives : Gives (listing_of (judge_of bytes)) old new r
  -- so many bytes are never too few
  pub enough : enough_bytes ≤ length old → r.refusal ≡ 0
  -- the length is within the buffer, and every byte behind it is as it was; a refusal has length 0
  pub inside : r.length ≤ length old
  pub untouched : drop r.length new ≡ drop r.length old
