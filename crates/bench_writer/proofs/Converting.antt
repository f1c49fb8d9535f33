-- What is written for a file in a wanted version: its bytes from the file's, accepted with the same fields, and converted back the file. Assumes nothing.
use Prim.Native.Nat.{ℕ, ◌+◌, ◌≤◌, ◌<◌}
use native.Mathlib.Omega.{arith}
use Rattle.std.specs.Prelude.{Ok, Err}
use mathlib.Core.Path.{◌≡◌, refl, sym, ap, ◌∙◌}
use mathlib.Core.Bool.{Bool, true, false, cond}
use mathlib.Core.List.{List, ◌++◌, append_assoc}
use lib.ListN.{length, take, drop, length-append}
use lib.Seq.{drop_at}
use borrow.Author.Tests.{leb-true, le-leb, lt-leb}
use Rattle.object.specs.Each.{Each}
use Rattle.object.proofs.Within.{within_range}
use Rattle.machine.specs.declared.Method.TheVariants.{CcSynch}
use Rattle.machine.specs.Methods.{method_number}
use Rattle.bench_file.specs.declared.Head.{Head}
use Rattle.bench_file.specs.declared.Judged.{Judged}
use Rattle.bench_file.specs.Layout.{Fields, head_length, version_known, Judgement, accepted, refused_by, judge_of}
use Rattle.bench_file.specs.Bytes.{low_first, each_bytes, row_bytes, head_bytes, bytes_of, Byte, InRange, head_in, in_version}
use Rattle.bench_file.specs.Promise.{judged_as}
use Rattle.bench_file.proofs.Judging.{accepted_fields, refused_number}
use Rattle.bench_file.proofs.Methods.{number_of_method}
use Rattle.bench_file.proofs.Numbered.{refused_tabled}
use Rattle.bench_file.proofs.RoundTrip.{accepted_in_range, writes_back, reads_back}
use Rattle.bench_file.proofs.Size.{head_length_lem, length_bytes}
use Rattle.bench_file.proofs.Twin.{in_version_lem}
use Rattle.bench_writer.specs.Writer.{Written}
use Rattle.bench_writer.specs.Buffer.{writing, refused_writing, Fills}
use Rattle.bench_writer.specs.Writer.{Writing, fitted, most_method}
use Rattle.bench_writer.specs.Convert.{allows_method, converted_as, convert_of, as_second, as_first, head_converted, Converts}
use Rattle.bench_writer.proofs.Filling.{fitted_whole, fitted_came, filled, filled_as}
use Rattle.bench_writer.proofs.Methods.{method_most, method_first}

pub head_long : (head : Head) → length (head_bytes head) ≡ head_length head.version
head_long head = head_length_lem head.version _ _ _ _ _

-- the code's three ways: a method that the version does not allow, a buffer that is too short, or all of it
module _ (wanted room : ℕ) (head : Head) (rest : List ℕ) where
  pub laid_length : length (head_bytes (head_in wanted head) ++ rest) ≡ head_length wanted + length rest
  laid_length = length-append (head_bytes (head_in wanted head)) rest ∙ ap (λ (long : ℕ). long + length rest) (head_long (head_in wanted head))

  pub head_refused : most_method wanted < method_number head.method → head_converted wanted room head rest ≡ refused_writing 16
  head_refused h = rw (lt-leb _ _ h)

  pub head_short : method_number head.method ≤ most_method wanted → room < head_length wanted + length rest → head_converted wanted room head rest ≡ refused_writing 13
  head_short allowed h = rw (le-leb _ _ allowed, laid_length, lt-leb _ _ h)

  pub head_whole : method_number head.method ≤ most_method wanted → head_length wanted + length rest ≤ room
      → head_converted wanted room head rest ≡ writing (head_bytes (head_in wanted head) ++ rest)
  head_whole allowed h = rw (le-leb _ _ allowed) (fitted_whole room (head_bytes (head_in wanted head) ++ rest) (rw laid_length h))

-- what stands behind the head of a file
abbrev behind : Fields → List ℕ
behind f = each_bytes row_bytes f.rows ++ low_first 2 (length f.schedule) ++ f.schedule

head_then : (f : Fields) → bytes_of f ≡ head_bytes f.head ++ behind f
unfolding bytes_of
head_then f =
    let head = head_bytes f.head in
    let rows = each_bytes row_bytes f.rows in
    let low = low_first 2 (length f.schedule) in
    append_assoc (head ++ rows) low f.schedule ∙ append_assoc head rows (low ++ f.schedule) ∙ ap (λ (l : List ℕ). head ++ l) (sym (append_assoc rows low f.schedule))

-- an accepted file goes through to a version that its method allows, into a buffer that has room for it there
goes_through : (bytes : List ℕ) (f : Fields) (wanted room : ℕ) → judge_of bytes ≡ accepted f → (1 ≤ wanted) × (wanted ≤ 2) → (wanted ≡ 1 → f.head.method ≡ CcSynch)
    → (there : List ℕ) → bytes_of (in_version wanted f) ≡ there → length there ≤ room → convert_of bytes wanted room ≡ writing there
unfolding convert_of
goes_through bytes f wanted room e known first there is h =
    let allowed : allows_method wanted f.head.method ≡ true = le-leb _ _ (method_most wanted f.head.method first) in
    rw ((within_range 1 wanted 2).1 known, e, allowed, is) (fitted_whole room there h)

-- an accepted file
module _ (bytes : List ℕ) (f : Fields) (p : Each Byte bytes) (e : judge_of bytes ≡ accepted f) where
  in_range : InRange f
  in_range = accepted_in_range bytes f p e

  laid : bytes ≡ head_bytes f.head ++ behind f
  laid = sym (writes_back bytes f p e) ∙ head_then f

  -- it has its head
  head_inside : head_length f.head.version ≤ length bytes
  head_inside = omega (arith, ap length laid ∙ length-append (head_bytes f.head) (behind f), head_long f.head)

  -- in the wanted version it is a head of that version, and what stands behind the file's
  by_head : (wanted room : ℕ) → converted_as wanted room (accepted f) ≡ head_converted wanted room f.head (drop (head_length f.head.version) bytes)
  by_head wanted room =
      let rest : drop (head_length f.head.version) bytes ≡ behind f = rw laid (drop_at (head_bytes f.head) (behind f) _ (head_long f.head)) in
      rw (rest, head_then (in_version wanted f))

  -- a file of the same fields in any version, converted to the version of this one, is this one
  restores : (version : ℕ) (other : List ℕ) → judge_of other ≡ accepted (in_version version f) → (room : ℕ) → length bytes ≤ room
      → convert_of other f.head.version room ≡ writing bytes
  restores version other o room h =
      goes_through other (in_version version f) f.head.version room o in_range.head.version in_range.head.method bytes (writes_back bytes f p e) h

  -- in the other version it is these bytes, one more or one less
  as_second_lem : f.head.version ≡ 1 → (bytes_of (in_version 2 f) ≡ as_second bytes) × (length (as_second bytes) ≡ length bytes + 1)
  unfolding low_first
  as_second_lem one =
      let is : bytes_of (in_version 2 f) ≡ as_second bytes = rw (laid, head_then (in_version 2 f), one, in_range.head.method one) in
      (is, omega (arith, ap length is, ap length (writes_back bytes f p e), length_bytes (in_version 2 f), length_bytes f, ap head_length one))

  as_first_lem : f.head.version ≡ 2 → (bytes_of (in_version 1 f) ≡ as_first bytes) × (length (as_first bytes) + 1 ≡ length bytes)
  unfolding low_first
  as_first_lem two =
      let is : bytes_of (in_version 1 f) ≡ as_first bytes = rw (laid, head_then (in_version 1 f), two) in
      (is, omega (arith, ap length is, ap length (writes_back bytes f p e), length_bytes (in_version 1 f), length_bytes f, ap head_length two))

-- what is written, by whether the wanted version is known and by the judge's answer
module _ (bytes : List ℕ) (wanted room : ℕ) where
  pub unknown_version : version_known wanted ≡ false → convert_of bytes wanted room ≡ refused_writing 3
  unfolding convert_of
  unknown_version e = rw e

  module _ (known : version_known wanted ≡ true) where
    pub own_refusal : {refusal : ℕ} → Err refusal ≡ judged_as (judge_of bytes) → convert_of bytes wanted room ≡ refused_writing refusal
    unfolding convert_of
    own_refusal e = rw (known, refused_number (judge_of bytes) e)

    with_head : (f : Fields) {head : Head} → Each Byte bytes → judge_of bytes ≡ accepted f → f.head ≡ head
        → (head_length head.version ≤ length bytes) × (convert_of bytes wanted room ≡ head_converted wanted room head (drop (head_length head.version) bytes))
    unfolding convert_of
    with_head f p judged is = rw (known, judged, ← is) (head_inside bytes f p judged, by_head bytes f p judged wanted room)

    pub own_head : {j : Judged} → Each Byte bytes → Ok j ≡ judged_as (judge_of bytes)
        → (head_length j.head.version ≤ length bytes) × (convert_of bytes wanted room ≡ head_converted wanted room j.head (drop (head_length j.head.version) bytes))
    own_head p e = let (f, judged, is) = accepted_fields (judge_of bytes) e in with_head f p judged is

-- what is written, where it is not refused
record Converted (bytes : List ℕ) (wanted : ℕ) (w : Writing) : Type 0 where
  fields : Fields
  judged : judge_of bytes ≡ accepted fields
  fits : InRange (in_version wanted fields)
  is : w ≡ writing (bytes_of (in_version wanted fields))

-- a choice that ends in no refusal has chosen what is written
chosen : (choice : Bool) (w : Writing) (refusal : ℕ) → (refusal ≡ 0 → ⊥) → (cond choice w (refused_writing refusal)).refusal ≡ 0
    → (choice ≡ true) × (w.refusal ≡ 0)
chosen true w refusal some e = (refl, e)
chosen false w refusal some e = absurd (some e)

module _ (bytes : List ℕ) (wanted room : ℕ) (p : Each Byte bytes) where
  judged_came : (j : Judgement) → judge_of bytes ≡ j → (1 ≤ wanted) × (wanted ≤ 2) → (converted_as wanted room j).refusal ≡ 0 → Converted bytes wanted (converted_as wanted room j)
  judged_came (accepted f) e known z =
      let (allowed, fits) = chosen (allows_method wanted f.head.method) (fitted room (bytes_of (in_version wanted f))) 16 (λ w. omega arith) z in
      let first : wanted ≡ 1 → f.head.method ≡ CcSynch = λ one. sym (number_of_method f.head.method) ∙ method_first wanted (method_number f.head.method) (leb-true _ _ allowed) one in
      record {
        fields = f;
        judged = e;
        fits = in_version_lem wanted f (in_range bytes f p e) known first;
        is = rw allowed (fitted_came room (bytes_of (in_version wanted f)) fits);
      }
  judged_came (refused_by refusal) e known z = absurd (omega (arith, refused_tabled bytes refusal e))

  converted : (convert_of bytes wanted room).refusal ≡ 0 → Converted bytes wanted (convert_of bytes wanted room)
  unfolding convert_of
  converted z =
      let (known, r) = chosen (version_known wanted) (converted_as wanted room (judge_of bytes)) 3 (λ w. omega arith) z in
      rw known (judged_came (judge_of bytes) refl ((within_range 1 wanted 2).0 known) r)

  -- what is written is accepted, with the fields of the file in the wanted version
  pub accepted_there : (convert_of bytes wanted room).refusal ≡ 0
      → (f : Fields) × (judge_of bytes ≡ accepted f) × (judge_of (convert_of bytes wanted room).bytes ≡ accepted (in_version wanted f))
  accepted_there z =
      let c = converted z in
      (c.fields, c.judged, rw c.is (reads_back (in_version wanted c.fields) c.fits))

-- the fields of an accepted file are these alone
one_judgement : (j : Judgement) {f g : Fields} → j ≡ accepted f → j ≡ accepted g → f ≡ g
one_judgement j e d = cc

-- the whole promise, from what is written and the buffer after it
module _ (bytes : List ℕ) (wanted : ℕ) (answer : Written) (before after : List ℕ) (p : Each Byte bytes) (fills : Fills (convert_of bytes wanted (length before)) answer before after) where
  same_fields : answer.refusal ≡ 0 → (f : Fields) × (judge_of bytes ≡ accepted f) × (judge_of (take answer.length after) ≡ accepted (in_version wanted f))
  same_fields z = rw (filled fills) (accepted_there bytes wanted (length before) p (sym fills.refusal ∙ z))

  pub converts : Converts bytes wanted answer before after
  converts = record {
    fills = fills;
    same_fields = same_fields;
    back = λ z f e room fits.
        let (g, judged, there) = same_fields z in
        restores bytes f p e wanted _ (rw (one_judgement (judge_of bytes) e judged) there) room fits;
    copied = λ f e own room. filled_as fills (rw (← own) (restores bytes f p e f.head.version bytes e (length before) room));
    raised = λ f e one two room.
        let (is, long) = as_second_lem bytes f p e one in
        filled_as fills (rw two (goes_through bytes f 2 (length before) e (omega arith) (λ z. absurd (omega arith)) (as_second bytes) is (omega (arith, long))));
    lowered = λ f e two method one room.
        let (is, long) = as_first_lem bytes f p e two in
        filled_as fills (rw one (goes_through bytes f 1 (length before) e (omega arith) (λ z. method) (as_first bytes) is (omega (arith, long))));
  }
