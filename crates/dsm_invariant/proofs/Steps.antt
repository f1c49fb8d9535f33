-- Every line keeps Control. Assumes Control before it, n at most 16 and h above 0.
use Prim.Native.Nat.{ℕ, ◌≤◌, ◌<◌}
use native.Mathlib.Omega.{arith}
use mathlib.Core.Path.{refl}
use mathlib.Core.Bool.{Bool}
use Rattle.object.specs.declared.Request.{Request}
use Rattle.object.specs.declared.Answer.{Answer}
use Rattle.machine.specs.Fields.{is_null}
use Rattle.dsm_lines.specs.Lines.{Line, L0, L1, L2, L3, L4, L5, L6, L7, L8, L9, L10, L11, L12, L13, L14, L15, L16, L17, L18, L19, L20, L21, L22, L23, L24, L25, L26, L27, L28}
use Rattle.invariant.specs.View.{View}
use Rattle.dsm_invariant.specs.Ledger.{Ledger, noted}
use Rattle.dsm_invariant.specs.View.{Does}
use Rattle.dsm_invariant.specs.Control.{Control}
use Rattle.dsm_invariant.proofs.Places.{known, mine_old}
use Rattle.dsm_invariant.proofs.Frame.{kept}
use Rattle.dsm_invariant.proofs.Ways.{prepares, fills, moves, forks, returns}
use Rattle.dsm_invariant.proofs.Lines.{begins_call, chooses_node, finds_predecessor, links, spins, answers, begins_turn, takes_back}
use Rattle.dsm_invariant.proofs.Swap.{swap}
use Rattle.dsm_invariant.proofs.Turn.{applies, completes, releases, goes_on, advances, leaves_empty, passes}

-- thread t of n runs a line; h bounds the requests of a turn
module _ (n h : ℕ) (small : n ≤ 16) (some : 0 < h) (v v' : View) (g : Ledger) (t : ℕ) (request : Request) (answer : Answer) (c : Control n h v g) where
  -- tmpNode has no next
  abbrev ends : Bool
  ends = is_null (v.node (v.thread t).tmp.0).next

  -- the invariant is kept, by line
  pub control_kept : (l : Line) → Does n h v v' t l request answer → Control n h v' (noted v t g l)
  control_kept L0 run =
      prepares c run refl _ refl (λ z. z) (λ m e. kept c run refl m) (c.old t run.below)
      (rw (kept c run refl (v.thread t).my.0) (c.facts t run.below))
  control_kept L1 run = begins_call c run
  control_kept L2 run = chooses_node c run
  control_kept L3 run = let f = known c run in let o = mine_old c run in fills c run refl 4 refl (λ z. z) tt refl (search o) (search (arith, f))
  control_kept L4 run = let f = known c run in let o = mine_old c run in fills c run refl 5 refl (λ z. z) tt refl (search o) (search (arith, f))
  control_kept L5 run = let f = known c run in let o = mine_old c run in fills c run refl 6 refl (λ z. z) tt refl (search o) (search (arith, f))
  control_kept L6 run = let f = known c run in let o = mine_old c run in fills c run refl 7 refl (λ z. z) tt refl (search o) (search (arith, f))
  control_kept L7 run = swap c run
  control_kept L8 run = finds_predecessor c small run
  control_kept L9 run = links c run
  control_kept L10 run = spins c run
  control_kept L11 run = answers c run
  control_kept L12 run = returns c run refl 0 refl tt refl refl (omega (arith, (known c run).1.gate, c.order))
  control_kept L13 run = begins_turn c some run
  control_kept L14 run = moves c run refl 15 refl tt refl tt (λ x i. (i, (known c run).1))
  control_kept L15 run = let f = (known c run).1 in moves c run refl 16 refl tt refl tt (λ x i. (i, search (arith, f)))
  control_kept L16 run = applies c run
  control_kept L17 run = completes c run
  control_kept L18 run = releases c run
  control_kept L19 run = goes_on c run
  control_kept L20 run = moves c run refl 22 refl tt refl tt (λ x i. (i, (known c run).1))
  control_kept L21 run = advances c run
  control_kept L22 run = let f = (known c run).1 in forks c run refl ends 23 26 refl tt refl tt tt (λ e x i. (i, f)) (λ e x i. (i, f))
  control_kept L23 run = leaves_empty c small run
  control_kept L24 run = returns c run refl 0 refl tt refl refl (omega (arith, (known c run).1.past, c.order))
  control_kept L25 run = let f = (known c run).1 in forks c run refl ends 25 26 refl tt refl tt tt (λ e x i. (i, f)) (λ e x i. (i, f))
  control_kept L26 run = passes c run
  control_kept L27 run = takes_back c run
  control_kept L28 run = returns c run refl 0 refl tt refl refl (omega (arith, (known c run).1.past, c.order))
