-- Refused, too short a buffer, or the whole file. Assumes nothing.
use Rattle.std.proofs.Common.{◌≡◌, [], length, refl, ◌∙◌, arith}
use native.Mathlib.Nat.{zero-add}
use Rattle.refusal.proofs.Numbers.{passed_on}
use Rattle.object.specs.Each.{Each}
use Rattle.bench_file.specs.Reading.{read}
use Rattle.bench_file.specs.Bytes.{Byte}
use Rattle.bench_file.specs.Cursor.{forgotten}
use Rattle.bench_file.specs.Layout.{Fields}
use Rattle.bench_writer.specs.Writer.{Given, as_given, given_reader}
use Rattle.bench_writer.proofs.Forgotten.{forgotten_refused, forgotten_read}
use Rattle.bench_writer.proofs.Writing.{Takes, takes, given_tabled, write_refused, write_short, write_whole, writes}
use Rattle.bench_writer.proofs.write.Goals as goal

-- what no rule refuses is taken, with its fields
taken : (g : Given) → Each Byte g.requests → read tt [] ≡ forgotten (given_reader g g.requests) → (f : Fields) × Takes g f
taken g p e = let (f, rest, h) = forgotten_read (given_reader g g.requests) e in (f, takes g f rest p h)

pub returns-in_err-judge : goal.returns-in_err-judge
returns-in_err-judge c =
    let g = as_given c.args.given in
    let refused = forgotten_refused (given_reader g g.requests) c.in_err-judge.ensures.outcome in
    rw (passed_on c.from_residual.result c.from_residual.ensures) (writes g _ _ _ (λ z. absurd (omega (arith, given_tabled g refused, z))) (write_refused g _ _ refused) refl refl refl)

pub length-length-requires : goal.length-length-requires
length-length-requires c =
    let (f, t) = taken (as_given c.args.given) c.in_ok-judge.ensures.bytes c.in_ok-judge.ensures.outcome in
    omega arith

pub returns-then-out-length : goal.returns-then-out-length
returns-then-out-length c =
    let g = as_given c.args.given in
    let (f, t) = taken g c.in_ok-judge.ensures.bytes c.in_ok-judge.ensures.outcome in
    writes g _ _ _ (λ _. t.row) (write_short g f (length c.args.out.now) t (omega (arith, c.length-length.ensures))) refl refl refl

pub put_file-requires : goal.put_file-requires
put_file-requires c =
    let (f, t) = taken (as_given c.args.given) c.in_ok-judge.ensures.bytes c.in_ok-judge.ensures.outcome in
    (t.object, t.method, t.entries, omega arith, omega (arith, c.length-length.ensures))

pub returns : goal.returns
returns c =
    let g = as_given c.args.given in
    let (f, t) = taken g c.in_ok-judge.ensures.bytes c.in_ok-judge.ensures.outcome in
    writes g _ _ _ (λ _. t.row) (write_whole g f (length c.args.out.now) t (omega (arith, c.length-length.ensures)))
    refl (omega (arith, c.length-length.ensures)) (c.put_file.ensures ∙ rw zero-add)
