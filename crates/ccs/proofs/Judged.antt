-- What is told of a judgement is what judging the bytes gives. Assumes nothing.
use mathlib.Core.Path.{ap, subst}
use mathlib.Core.List.{List}
use Prim.Native.Nat.{ℕ}
use Rattle.std.specs.Prelude.{Result}
use Rattle.bench_file.specs.declared.Judged.{Judged}
use Rattle.bench_file.specs.Promise.{judged_refusal, Judges}
use Rattle.ccs.specs.Numbers.{judged_numbers, JudgedIn}

pub judged_in : (bytes : List ℕ) (judged : Result Judged ℕ) → Judges bytes judged → JudgedIn bytes (judged_numbers judged) (judged_refusal judged)
judged_in bytes judged judges = record {
  refusal = ap judged_refusal judges.answer;
  told = ap judged_numbers judges.answer;
  judges = subst (Judges bytes) judges.answer judges;
}
