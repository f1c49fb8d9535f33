-- A text that is laid and then given is given as promised; and what that says of a buffer that is long enough. Assumes nothing.
use Prim.Native.Nat.{ℕ, ◌≤◌}
use native.Mathlib.Omega.{arith}
use mathlib.Core.Path.{◌≡◌, refl, ap, ◌∙◌}
use mathlib.Core.List.{List, []}
use lib.ListN.{length, take, drop}
use lib.Seq.{take_at, drop_at}
use borrow.Author.Tests.{le-leb, lt-leb}
use Rattle.std.specs.Prelude.{Result, Ok, Err}
use Rattle.std.specs.Result.{result_unwrap_or}
use Rattle.refusal.specs.declared.Refusal.{Refusal}
use Rattle.object.proofs.Choice.{by_order}
use Rattle.cells.specs.Laid.{Laid}
use Rattle.cells.specs.Promise.{Printed, refused_as, as_printed, Gives}
use Rattle.cells.proofs.Laid.{front}

-- a refusal has length 0
pub given_length : (r : Result ℕ Refusal) → result_unwrap_or r 0 ≡ (as_printed r).length
given_length (Ok count) = refl
given_length (Err refusal) = refl

-- a text that was laid in one of its own, and fits, is given as its bytes
pub given : {room : ℕ} {empty words new bytes : List ℕ} → empty ≡ [] → Laid room empty words new → length words ≤ room → bytes ≡ new
    → {out after : List ℕ} {r : Printed} → Gives bytes out after r → Gives words out after r
given none l room is g = rw (is, front none l room) at g

module _ {words old new : List ℕ} {r : Printed} (g : Gives words old new r) where
  -- what is given lies within the buffer
  pub inside : r.length ≤ length old
  inside =
      rw g.answer
      (by_order (length old) (length words)
      (λ h. rw (lt-leb (length words) (length old) h) (omega arith))
      (λ h. rw (le-leb (length words) (length old) h) h))

  -- and every byte behind it is as it was
  pub untouched : drop r.length new ≡ drop r.length old
  untouched =
      rw (g.answer, g.buffer)
      (by_order (length old) (length words)
      (λ h. rw (lt-leb (length words) (length old) h))
      (λ h. rw (le-leb (length words) (length old) h) (drop_at words (drop (length words) old) (length words) refl)))

  -- a buffer that is long enough is not refused
  pub not_refused : length words ≤ length old → r ≡ record { refusal = 0; length = length words }
  not_refused room = g.answer ∙ rw (le-leb (length words) (length old) room)

  -- and one that is not refused was long enough, and holds the whole text
  module _ (done : r.refusal ≡ 0) where
    pub long_enough : length words ≤ length old
    long_enough =
        by_order (length old) (length words)
        (λ h. let short : r ≡ refused_as 13 = g.answer ∙ rw (lt-leb (length words) (length old) h) in absurd (omega (arith, done, ap (λ (a : Printed). a.refusal) short)))
        (λ h. h)

    pub stands : take r.length new ≡ words
    stands =
        rw (not_refused long_enough, g.buffer, le-leb (length words) (length old) long_enough)
        (take_at words (drop (length words) old) (length words) refl)
