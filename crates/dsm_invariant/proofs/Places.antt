-- Positions of the queue, the threads that hold them and the nodes that they have, as the invariant has them. Assumes Control.
use Prim.Native.Nat.{ℕ, suc, ◌-◌, ◌*◌, ◌≤◌, ◌<◌}
use native.Mathlib.Omega.{arith}
use mathlib.Core.Path.{◌≡◌, refl, sym, ◌∙◌, ap, ap₂, subst}
use mathlib.Core.Bool.{true, false, not}
use lib.Dec.{T, T_not}
use borrow.Author.Tests.{eqb-false}
use Rattle.object.specs.declared.Request.{Request}
use Rattle.object.specs.declared.Answer.{Answer}
use Rattle.machine.specs.declared.Node.{Node}
use Rattle.machine.specs.declared.Thread.{Thread}
use Rattle.machine.specs.Fields.{is_null}
use Rattle.machine.specs.Lines.{stands_at}
use Rattle.dsm_lines.specs.Lines.{Line, number}
use Rattle.invariant.specs.View.{View}
use Rattle.dsm_invariant.specs.Stages.{Stage, Out, idle, o2, o3, o4, o5, o6, o7, out, wait, combine, leave, nowhere, stage_of, queued}
use Rattle.dsm_invariant.specs.Ledger.{Ledger, node_number, node_at}
use Rattle.dsm_invariant.specs.View.{Does}
use Rattle.dsm_invariant.specs.Control.{Link, none, right, In, Old, former, preparing, out_row, Knows, CombineRow, CombineFacts, Control, InQueue}
use Rattle.object.proofs.Choice.{by_equal, by_order}
use Rattle.dsm_invariant.proofs.Basics.{implied, thread_told, toggle_told, number_range, toggled_other}

-- where the thread of a line stands
abbrev pub from : Line → Stage
from l = stage_of (stands_at (number l))

-- what the facts of a stage tell of a thread's node, and of the toggle of its earlier Swaps
module _ (n h : ℕ) (g : Ledger) (u : ℕ) (th : Thread) (x : Node) where
  in_queue_lem : (s : Stage) → T (queued s) → Knows n h g u s th x → In g u th.toggle th.my.0 x
  in_queue_lem (out o) q f = absurd q
  in_queue_lem (wait w) q f = f.0
  in_queue_lem (combine w) q f = f.0
  in_queue_lem (leave w) q f = f.0
  in_queue_lem nowhere q f = absurd q

  chosen_home : (s : Stage) → T (preparing s) → Knows n h g u s th x → th.my.0 ≡ node_number u th.toggle
  chosen_home (out o) q f = f.chosen q
  chosen_home (wait w) q f = absurd q
  chosen_home (combine w) q f = absurd q
  chosen_home (leave w) q f = absurd q
  chosen_home nowhere q f = absurd q

pub former_queued : (s : Stage) (toggle : ℕ) → T (queued s) → former s toggle ≡ 1 - toggle
former_queued (out o) toggle q = absurd q
former_queued (wait w) toggle q = refl
former_queued (combine w) toggle q = refl
former_queued (leave w) toggle q = refl
former_queued nowhere toggle q = absurd q

former_chosen : (o : Out) (toggle : ℕ) → T (out_row o).chosen → former (out o) toggle ≡ 1 - toggle
former_chosen idle toggle q = absurd q
former_chosen o2 toggle q = absurd q
former_chosen o3 toggle q = refl
former_chosen o4 toggle q = refl
former_chosen o5 toggle q = refl
former_chosen o6 toggle q = refl
former_chosen o7 toggle q = refl

former_preparing : (s : Stage) (toggle : ℕ) → T (preparing s) → former s toggle ≡ 1 - toggle
former_preparing (out o) toggle q = former_chosen o toggle q
former_preparing (wait w) toggle q = absurd q
former_preparing (combine w) toggle q = absurd q
former_preparing (leave w) toggle q = absurd q
former_preparing nowhere toggle q = absurd q

preparing_out : (k : ℕ) → T (preparing (stage_of k)) → T (queued (stage_of k)) → ⊥
preparing_out k q = T_not (queued (stage_of k)) (implied preparing (λ s. not (queued s)) refl k q)

-- a position's next that is not null is right
pub linked : {g : Ledger} (i : ℕ) {m : ℕ} → (m ≡ 255 → ⊥) → Link g i m → (suc i < g.s) × (g.joined (suc i) ≡ true) × (m ≡ node_at g (suc i))
linked i some (none e) = absurd (some e)
linked i some (right low joined e) = (low, joined, e)

module _ {n h : ℕ} {v : View} {g : Ledger} (c : Control n h v g) where
  -- what a thread whose next line is known knows
  pub facts_at : (u k : ℕ) → u < n → (v.thread u).line ≡ k → Knows n h g u (stage_of k) (v.thread u) (v.node (v.thread u).my.0)
  facts_at u k b e = subst (λ j. Knows n h g u (stage_of j) (v.thread u) (v.node (v.thread u).my.0)) e (c.facts u b)

  pub queued_in : (u : ℕ) → u < n → InQueue v u
      → In g u (v.thread u).toggle (v.thread u).my.0 (v.node (v.thread u).my.0)
  queued_in u k q = in_queue_lem n h g u (v.thread u) _ (stage_of (v.thread u).line) q (c.facts u k)

  -- two queued threads at one position are one
  pub alone : (u w : ℕ) → u < n → w < n → InQueue v u → InQueue v w → g.at u ≡ g.at w → u ≡ w
  alone u w k j q p e = sym (queued_in u k q).who ∙ ap g.who e ∙ (queued_in w j p).who

  -- a queued thread's node is its position's
  pub placed : (u : ℕ) → u < n → InQueue v u → (v.thread u).my.0 ≡ node_at g (g.at u)
  placed u k q = let f = queued_in u k q in f.home ∙ sym (ap₂ node_number f.who f.bit)

  -- a node of the thread's present toggle is no position's, from the last applied on, but that of its open call
  present_apart : (u i : ℕ) → u < n → (InQueue v u → i ≡ g.at u → ⊥)
      → former (stage_of (v.thread u).line) (v.thread u).toggle ≡ 1 - (v.thread u).toggle
      → i < g.s → g.a ≤ suc i → node_number u (v.thread u).toggle ≡ node_at g i → ⊥
  present_apart u i k apart other lo hi e =
      let old = c.old u k in
      let bit = (c.real i lo).bit in
      let who = thread_told u (g.who i) old.toggled bit e in
      toggled_other old.toggled (toggle_told u (g.who i) old.toggled bit e ∙ old.bit i lo hi (sym who) apart ∙ other)

  -- of the positions from the last applied on, a queued thread's node is that of its own alone
  pub only_at : (u i : ℕ) → u < n → InQueue v u → i < g.s → g.a ≤ suc i → (v.thread u).my.0 ≡ node_at g i → g.at u ≡ i
  only_at u i k q lo hi e =
      by_equal i (g.at u) sym
      (λ apart. absurd (present_apart u i k (λ _. apart) (former_queued (stage_of (v.thread u).line) _ q) lo hi (sym (queued_in u k q).home ∙ e)))

  -- a node that is prepared is the thread's own, and of none of them
  pub prepared_home : (u : ℕ) → u < n → T (preparing (stage_of (v.thread u).line)) → (v.thread u).my.0 ≡ node_number u (v.thread u).toggle
  prepared_home u k q = chosen_home n h g u (v.thread u) _ (stage_of (v.thread u).line) q (c.facts u k)

  pub prepared_apart : (u i : ℕ) → u < n → T (preparing (stage_of (v.thread u).line)) → i < g.s → g.a ≤ suc i → (v.thread u).my.0 ≡ node_at g i → ⊥
  prepared_apart u i k q lo hi e =
      let s = stage_of (v.thread u).line in
      present_apart u i k (λ p. absurd (preparing_out (v.thread u).line q p)) (former_preparing s _ q) lo hi (sym (prepared_home u k q) ∙ e)

  -- positions from the last applied on have nodes of their own
  places_apart_from : (i j : ℕ) → g.a ≤ i → i < g.s → g.a ≤ suc j → j < g.s → node_at g i ≡ node_at g j → i ≡ j
  places_apart_from i j ai is aj js e =
      let f = c.seat i ai is in
      sym f.at ∙ only_at (g.who i) j f.who f.queued js aj (placed (g.who i) f.who f.queued ∙ ap (node_at g) f.at ∙ e)

  pub places_apart : (i j : ℕ) → g.a ≤ suc i → i < g.s → g.a ≤ suc j → j < g.s → node_at g i ≡ node_at g j → i ≡ j
  places_apart i j ai is aj js e =
      by_order i g.a
      (λ x. by_order j g.a (λ y. omega arith) (λ y. sym (places_apart_from j i y js ai is (sym e))))
      (λ x. places_apart_from i j x is aj js e)

  -- a position's node is one of the 2n, and not null
  pub place_range : (i : ℕ) → i < g.s → node_at g i < 2 * n
  place_range i k = let f = c.real i k in number_range n _ f.who f.bit

  pub place_exists : (i : ℕ) → n ≤ 16 → i < g.s → node_at g i ≡ 255 → ⊥
  place_exists i small k e = omega (arith, place_range i k)

-- what a combiner knows of tmpNode, the node of position k
module _ {n h : ℕ} {v : View} {g : Ledger} (c : Control n h v g) {row : CombineRow} {i tmp served : ℕ} (f : CombineFacts row h g i tmp served) where
  pub tmp_place : tmp < 2 * n
  tmp_place = rw f.serving (place_range c g.k f.below)

  -- its next, where it is not null, is the node of the position after it
  pub next_right : is_null (v.node tmp).next ≡ false → (suc g.k < g.s) × (g.joined (suc g.k) ≡ true) × ((v.node tmp).next.0 ≡ node_at g (suc g.k))
  next_right e = linked {g = g} g.k (eqb-false _ 255 e) (rw f.serving (c.link g.k f.below c.order.one))

-- the thread of a line when it runs it
module _ {n h : ℕ} {v v' : View} {g : Ledger} {t : ℕ} {l : Line} {request : Request} {answer : Answer} (c : Control n h v g)
    (run : Does n h v v' t l request answer) where
  pub known : Knows n h g t (from l) (v.thread t) (v.node (v.thread t).my.0)
  known = facts_at c t _ run.below run.stands

  pub inside : T (queued (from l)) → InQueue v t
  inside q = rw run.stands q

  pub mine_in : T (queued (from l)) → In g t (v.thread t).toggle (v.thread t).my.0 (v.node (v.thread t).my.0)
  mine_in q = queued_in c t run.below (inside q)

  pub mine_old : Old g t (from l) (v.thread t).toggle
  mine_old = subst (λ k. Old g t (stage_of k) (v.thread t).toggle) run.stands (c.old t run.below)
