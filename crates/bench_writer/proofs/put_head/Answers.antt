-- Nine bytes, and from version 2 on the method's behind them. Assumes nothing.
use Rattle.std.proofs.Common.{ℕ, ◌/◌, ◌%◌, List, [], ◌∷◌, refl, eq-eqb, ne_eqb}
use Rattle.bench_file.specs.Bytes.{low_first}
use Rattle.bench_writer.proofs.Pasted.{pasted_behind}
use Rattle.bench_writer.proofs.put_head.Goals as goal

pub returns-then-head-eq1 : goal.returns-then-head-eq1
unfolding low_first
returns-then-head-eq1 c = rw (eq-eqb _ _ c.if-head-eq1.true, ← c.from-object.ensures) (rw c.to_le_bytes.ensures at c.put.ensures)

pub returns : goal.returns
unfolding low_first
returns c =
    let a = c.args in
    let head = a.head in
    let nine : List ℕ = 0x43 ∷ 0x43 ∷ 0x53 ∷ head.version % 256 ∷ head.version / 256 % 256 ∷ c.from-object.result ∷ head.n ∷ head.h ∷ head.capacity ∷ [] in
    rw (ne_eqb _ _ c.if-head-eq1.false, ← c.from-object.ensures, ← c.from-method.ensures)
    (pasted_behind a.out.now nine (c.from-method.result ∷ []) 9 (rw c.to_le_bytes.ensures at c.put.ensures) refl c.put-2.ensures)
