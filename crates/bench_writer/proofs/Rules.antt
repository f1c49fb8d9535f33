-- Rules in a row: where they let a reading pass they are all kept, and where their refusals are of the table so are those that they give. Assumes nothing.
use Prim.Native.Nat.{ℕ}
use mathlib.Core.Path.{◌≡◌, refl, ◌∙◌}
use mathlib.Core.Bool.{Bool, true}
use mathlib.Core.List.{List, [], ◌∷◌}
use Rattle.bench_file.specs.Reading.{read, rule, rules}
use Rattle.object.specs.Each.{Each}
use Rattle.bench_file.specs.Bytes.{Tabled}
use Rattle.bench_file.proofs.Reading.{rule_kept}
use Rattle.bench_file.proofs.Codec.{came, rule_back}
use Rattle.bench_file.proofs.Numbered.{Numbered, done_numbered, rule_numbered, after_numbered}

pub rules_kept : (rows : List (ℕ × Bool)) (bs : List ℕ) {u : Unit} {rest : List ℕ} → rules rows bs ≡ read u rest → Each (λ r. r.1 ≡ true) rows × (bs ≡ rest)
rules_kept [] bs e = (tt, cc)
rules_kept (r ∷ rows) bs e =
    let (u, mid, f, n) = came (rule r.0 r.1 bs) (λ _. rules rows) e in
    let (t, q) = rule_back r.0 r.1 bs u mid f in
    let (ts, m) = rules_kept rows mid n in
    ((t, ts), q ∙ m)

pub rules_numbered : (rows : List (ℕ × Bool)) → Each (λ r. Tabled r.0) rows → Numbered (rules rows)
rules_numbered [] h = done_numbered tt
rules_numbered (r ∷ rows) h = after_numbered (rule_numbered r.0 r.1 h.0) (λ u. rules_numbered rows h.1)

pub rules_pass : (rows : List (ℕ × Bool)) (bs : List ℕ) → Each (λ r. r.1 ≡ true) rows → rules rows bs ≡ read tt bs
rules_pass [] bs t = refl
rules_pass (r ∷ rows) bs t = rule_kept r.0 bs (λ _. rules rows) t.0 ∙ rules_pass rows bs t.1
