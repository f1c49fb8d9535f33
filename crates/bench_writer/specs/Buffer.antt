-- Bytes into a lent buffer: what a service writes, and the buffer before and after it.
use Rattle.std.specs.Prelude.{ℕ, ◌≡◌, List, [], ◌++◌, length, drop}
use Rattle.bench_writer.specs.Writer.{Written}
use Rattle.bench_writer.specs.Writer.{Writing}

-- these bytes, and no refusal
abbrev pub writing : List ℕ → Writing
writing bytes = record { refusal = 0; bytes = bytes }

-- a refusal writes none
abbrev pub refused_writing : ℕ → Writing
refused_writing refusal = record { refusal = refusal; bytes = [] }

-- what a service answers that is to write this, and the lent buffer before and after it
pub record Fills (w : Writing) (answer : Written) (before after : List ℕ) : Type 0 where
  -- the refusal, 0 for none, and the length written
  pub refusal : answer.refusal ≡ w.refusal
  pub count : answer.length ≡ length w.bytes
  -- what is written stands from the first byte on, later bytes are as they were
  pub buffer : after ≡ w.bytes ++ drop (length w.bytes) before
