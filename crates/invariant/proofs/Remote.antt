-- Every line keeps Remote; what a call has cost when it returns. Assumes Control and Remote before the line, n at most 16, and full copies.
use Prim.Native.Nat.{ℕ, ◌+◌, ◌≤◌, ◌<◌}
use native.Mathlib.Omega.{arith}
use mathlib.Core.Path.{◌≡◌, refl, sym, subst}
use mathlib.Core.Bool.{Bool, true, false, cond}
use mathlib.Core.List.{List}
use lib.Dec.{T, eqb}
use lib.ListN.{length}
use Rattle.object.specs.declared.Request.{Request}
use Rattle.object.specs.declared.Answer.{Answer}
use Rattle.object.proofs.Choice.{by_equal, by_order}
use Rattle.machine.specs.declared.Thread.{Thread}
use Rattle.machine.specs.Sizes.{most_locations}
use Rattle.cc_lines.specs.Lines.{Line, number}
use Rattle.machine.specs.Lines.{stands_at}
use Rattle.cc_lines.proofs.Numbers.{by_line}
use Rattle.invariant.specs.Stages.{Stage, stage_of, is_thread}
use Rattle.invariant.specs.Ledger.{Ledger, upd}
use Rattle.invariant.specs.View.{View, Does}
use Rattle.invariant.specs.Control.{holding, Control}
use Rattle.invariant.specs.Remote.{fetch, limit, linked_tmp, Spent, Remote}
use Rattle.invariant.proofs.Upd.{upd_same, upd_other}
use Rattle.invariant.proofs.Noted.{at_kept}
use Rattle.invariant.proofs.Copies.{fetch_most, kept}
use Rattle.invariant.proofs.Clear.{made, noted_by, Entering, Standing, standing, Hit, limit_grows, hit_counts, clear_tmp, fits, missed}
use Rattle.invariant.proofs.OwnLine.{after_line, pays, released_written, own_line}

if_both : {j k : ℕ} (b : Bool) → (T b → j ≤ k) → cond b j 0 ≤ cond b k 0
if_both true f = f tt
if_both false f = omega arith

module _ {n h : ℕ} {v v' : View} {g : Ledger} {t : ℕ} {l : Line} {request : Request} {answer : Answer} {copies : List ℕ}
    (en : Entering n h v v' g t l request answer copies) where
  module _ {u : ℕ} (below : u < n) (apart : u ≡ t → ⊥) where
    -- a node that the line does not write costs another thread no more than before
    other_kept : (m : ℕ) → (Hit en m → ⊥) → fetch (after_line n v t copies l).copies u m ≤ fetch copies u m
    other_kept m clear = kept n t en.does.below en.small (made v t l) copies en.len (fits en) u m below (λ _. missed en m clear)

    -- where its limit grows, a fetch more is within it; where not, its node is not written
    other_line : (cost : ℕ) (s : Stage) → T (is_thread s) → Standing n h v g u s
        → Spent s g copies u (v.thread u) cost → Spent s (noted_by n v t g l) (after_line n v t copies l).copies u (v.thread u) cost
    other_line cost s z stand x q =
        let i = g.at u in
        let served = (v.thread u).served in
        let m = holding s (v.thread u) in
        let tmp = if_both (linked_tmp s) (λ q. other_kept (v.thread u).tmp.0 (clear_tmp en apart s q stand)) in
        rw (at_kept n t _ g l u stand.below (λ e _. apart e))
        (by_order (limit s g i served) (limit s (noted_by n v t g l) i served)
        (λ more. omega (arith, x q, tmp, fetch_most (after_line n v t copies l).copies u m))
        (λ low. omega (arith, x q, tmp, limit_grows en apart s stand served, other_kept m (λ hit. hit_counts en apart s z stand served hit low))))

module _ {n h : ℕ} {v v' : View} {g : Ledger} {t : ℕ} {request : Request} {answer : Answer} {copies : List ℕ} {cost : ℕ → ℕ}
    (small : n ≤ 16) (len : length copies ≡ most_locations) (control : Control n h v g) (remote : Remote n v g copies cost) where
  entering : {l : Line} → Does n h v v' t l request answer → Entering n h v v' g t l request answer copies
  entering d = record { small = small; len = len; control = control; does = d }

  spent_at : {l : Line} → Does n h v v' t l request answer → Spent (stage_of (stands_at (number l))) g copies t (v.thread t) (cost t)
  spent_at d = subst (λ (i : ℕ). Spent (stage_of i) g copies t (v.thread t) (cost t)) d.stands (remote.spent t d.below)

  pub remote_kept : {l : Line} → Does n h v v' t l request answer
      → Remote n v' (noted_by n v t g l) (after_line n v t copies l).copies (upd cost t (cond (eqb (number l) 1) 0 (cost t) + (after_line n v t copies l).remote))
  remote_kept {l} d =
      let after = after_line n v t copies l in
      let g' = noted_by n v t g l in
      record {
        spent = λ u k.
            by_equal u t
            (λ e.
            rw (e, upd_same)
            (subst (λ (th : Thread). Spent (stage_of th.line) g' after.copies t th (cond (eqb (number l) 1) 0 (cost t) + after.remote))
            (sym d.mine) (own_line (cost t) l (entering d) (spent_at d))))
            (λ apart.
            rw (upd_other cost t _ u apart)
            (subst (λ (th : Thread). Spent (stage_of th.line) g' after.copies u th (cost u))
            (sym (d.others u apart))
            (other_line (entering d) k apart (cost u) (stage_of (v.thread u).line) (control.lines u k) (standing control u k) (remote.spent u k))));
      }

  -- a call that returns at line 11 has made at most 6, and one that returns at line 21 at most one for each that it served, and 5
  pub returns_11 : {l : Line} → Does n h v v' t l request answer → number l ≡ 11 → cost t + (after_line n v t copies l).remote ≤ 6
  returns_11 {l} d q =
      by_line (λ (l : Line). Does n h v v' t l request answer → cost t + (after_line n v t copies l).remote ≤ 6) l q
      (λ d. omega (arith, spent_at d tt, pays (entering d) _ (refl, tt), released_written (entering d) refl)) d

  pub returns_21 : {l : Line} → Does n h v v' t l request answer → number l ≡ 21 → cost t + (after_line n v t copies l).remote ≤ (v.thread t).served + 5
  returns_21 {l} d q =
      by_line (λ (l : Line). Does n h v v' t l request answer → cost t + (after_line n v t copies l).remote ≤ (v.thread t).served + 5) l q
      (λ d. omega (arith, spent_at d tt, pays (entering d) _ (refl, tt))) d

-- idle threads have no call open
pub remote_fresh : {n : ℕ} {v : View} {g : Ledger} {copies : List ℕ} {cost : ℕ → ℕ} → ((u : ℕ) → u < n → (v.thread u).line ≡ 0) → Remote n v g copies cost
remote_fresh idle = record { spent = λ u k. rw (idle u k) absurd }
