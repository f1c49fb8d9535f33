-- What a thread's line writes: Tail, the node that it holds, or as combiner the node at position r, which the ledger notes;
-- so what another thread's nodes cost it after the line. Assumes Control, n at most 16, and full copies.
use Prim.Native.Nat.{ℕ, suc, ◌+◌, ◌≤◌, ◌<◌}
use native.Mathlib.Omega.{arith}
use mathlib.Core.Path.{◌≡◌, refl, sym, ◌∙◌, ap, subst}
use mathlib.Core.Bool.{true, false, false≢true}
use mathlib.Core.List.{List}
use lib.Dec.{T, ltb, eqb}
use lib.ListN.{length}
use borrow.Author.Tests.{lt-ltb, le-ltb, eq-eqb, ne_eqb}
use Rattle.object.specs.declared.Request.{Request}
use Rattle.object.specs.declared.Answer.{Answer}
use Rattle.object.specs.Each.{Each}
use Rattle.object.proofs.Choice.{by_equal, by_order}
use Rattle.object.proofs.Each.{each_map}
use Rattle.machine.specs.declared.NodeId.{NodeId}
use Rattle.machine.specs.declared.Field.{Field}
use Rattle.machine.specs.declared.Field.TheVariants.{Req, Ret, Wait, Completed, Next}
use Rattle.machine.specs.Accesses.{Access, read, write}
use Rattle.machine.specs.Sizes.{most_locations}
use Rattle.cc_lines.specs.Lines.{Line, L0, L1, L2, L3, L4, L5, L6, L7, L8, L9, L10, L11, L12, L13, L14, L15, L16, L17, L18, L19, L20, L21, accesses_by, number}
use Rattle.copies.specs.Remote.{place, ends}
use Rattle.step.specs.Entry.{one_if}
use Rattle.machine.specs.Lines.{stands_at}
use Rattle.invariant.specs.Stages.{Stage, Out, Wait as Waiting, Combine, o2, o3, o4, w6, w7, w9, w10, w11, c13, c15, c16, c17, c18, c20, out, wait, combine, l19, l21, dummy, stage_of, queued, is_thread}
use Rattle.invariant.specs.Ledger.{Ledger, noted}
use Rattle.invariant.specs.View.{View, Does}
use Rattle.invariant.specs.Control.{holding, slot, slot_of_thread, held, wait_row, StageFacts, Control}
use Rattle.invariant.specs.Remote.{written, limit, linked_tmp}
use Rattle.invariant.proofs.Noted.{notes}
use Rattle.invariant.proofs.Slots.{in_queue_lem}
use Rattle.invariant.proofs.Seats.{holds, now, stage_at, node_bound, owner, whose}
use Rattle.invariant.proofs.Copies.{Of, Fits, Misses}

-- the accesses of thread t's line
abbrev pub made : View → ℕ → Line → List Access
made v t l = accesses_by (v.thread t) l

-- the ledger after thread t's line
abbrev pub noted_by : ℕ → View → ℕ → Ledger → Line → Ledger
noted_by n v t g l = noted n t (v.thread t).own.0 g l

-- an entry: thread t of n, at most 16, runs line l, with these copies before it
pub record Entering (n h : ℕ) (v v' : View) (g : Ledger) (t : ℕ) (l : Line) (request : Request) (answer : Answer) (copies : List ℕ) : Type 0 where
  pub small : n ≤ 16
  pub len : length copies ≡ most_locations
  pub control : Control n h v g
  pub does : Does n h v v' t l request answer

-- thread u is at stage s
pub record Standing (n h : ℕ) (v : View) (g : Ledger) (u : ℕ) (s : Stage) : Type 0 where
  pub below : u < n
  pub stage : (slot n v u).stage ≡ s
  pub node : held (slot n v u) ≡ holding s (v.thread u)
  pub facts : StageFacts h g u s (slot_of_thread (v.thread u)) (v.node (holding s (v.thread u)))

pub standing : {n h : ℕ} {v : View} {g : Ledger} → Control n h v g → (u : ℕ) → u < n → Standing n h v g u (stage_of (v.thread u).line)
standing {n} {h} {v} {g} c u k = record { below = k; stage = stage_at c u _ k refl; node = holds c u _ k refl; facts = now c u _ k refl }

-- position i was below a count and still is when the count has grown; it had the turn and still has it
passed_grows : (i a a' : ℕ) → a ≤ a' → one_if (ltb i a) ≤ one_if (ltb i a')
passed_grows i a a' k = by_order i a (λ p. rw (lt-ltb i a p, lt-ltb i a' (omega arith)) (omega arith)) (λ p. rw (le-ltb i a p) (omega arith))

turn_grows : (i b b' : ℕ) → (i ≡ b → b' ≡ b) → one_if (eqb i b) ≤ one_if (eqb i b')
turn_grows i b b' e = by_equal i b (λ q. rw (e q) (omega arith)) (λ q. rw (ne_eqb i b q) (omega arith))

-- position i is not below a count that is there, and is below it when the count has grown by one; the sum i + 0 is as `combine_row` states it
comes_past : (i a : ℕ) → a ≡ i + 0 → (one_if (ltb i a) ≡ 0) × (one_if (ltb i (suc a)) ≡ 1)
comes_past i a e = (rw (le-ltb i a (omega arith)), rw (lt-ltb i (suc a) (omega arith)))

-- the ledger notes that the line writes the node of position r: one of the counts passes it, or the turn comes to it
abbrev Counted : ℕ → View → ℕ → Ledger → Line → Type 0
Counted n v t g l = written g g.r < written (noted_by n v t g l) g.r

module _ {n h : ℕ} {v v' : View} {g : Ledger} {t : ℕ} {l : Line} {request : Request} {answer : Answer} {copies : List ℕ} (en : Entering n h v v' g t l request answer copies) where
  -- a node that the line writes: the one that the thread holds, whose next isn't written yet if it is queued; or in the turn the one at position r, which is noted
  pub data Hit (m : ℕ) : Type 0 where
    own : m ≡ held (slot n v t) → (T (queued (slot n v t).stage) → g.linked (g.at t) ≡ false) → Hit m
    served : m ≡ g.node g.r → g.who g.b ≡ t → Counted n v t g l → Hit m

  -- an access of the line
  pub record Touch (a : Access) : Type 0 where
    pub fits : Fits a
    pub hits : ends a ≡ true → (m : ℕ) → Of m a → Hit m

  swapped_in : g.r ≤ g.s
  swapped_in = omega (arith, en.control.order)

  -- thread t's own stage
  pub mine : (s : Stage) → stage_of (stands_at (number l)) ≡ s → Standing n h v g t s
  mine s e = subst (λ (s : Stage). Standing n h v g t s) (ap stage_of en.does.stands ∙ e) (standing en.control t en.does.below)

  -- another thread u
  module _ {u : ℕ} {s : Stage} (stand : Standing n h v g u s) (apart : u ≡ t → ⊥) where
    turn_apart : T (queued s) → g.at u ≡ g.b → g.who g.b ≡ t → ⊥
    turn_apart q a w = apart (sym (in_queue_lem h g u s _ _ q stand.facts).who ∙ ap g.who a ∙ w)

    -- the line writes the node that it holds only as combiner, if that is at position r
    hit_held : Hit (holding s (v.thread u)) → (T (queued s) → g.at u ≡ g.r → g.who g.b ≡ t → Counted n v t g l → ⊥) → ⊥
    hit_held (own i j) far = apart (en.control.apart u t (omega (arith, stand.below)) (omega (arith, en.does.below)) (stand.node ∙ i))
    hit_held (served i w more) far =
        let u≤n : u ≤ n = omega (arith, stand.below) in
        let is = stand.node ∙ i in
        let seated = rw (owner en.control u g.r u≤n (omega arith) swapped_in is, stand.stage) at (en.control.seat g.r (omega arith) swapped_in).queued in
        far seated (whose en.control u g.r u≤n (omega arith) swapped_in is) w more

    -- line 20 does not take the turn from it
    turn_stays : T (queued s) → g.at u ≡ g.b → (noted_by n v t g l).b ≡ g.b
    turn_stays q e =
        (notes n t _ g l).b ∙ by_equal (number l) 20
        (λ z. let m = (mine (combine c20) (ap (λ (k : ℕ). stage_of (stands_at k)) z)).facts in absurd (turn_apart q e (ap g.who (sym m.1.0.turn) ∙ m.0.who)))
        (λ z. rw (ne_eqb (number l) 20 z))

    written_grows : T (queued s) → written g (g.at u) ≤ written (noted_by n v t g l) (g.at u)
    written_grows q =
        let i = g.at u in
        let o = notes n t (v.thread t).own.0 g l in
        let g' = noted_by n v t g l in
        omega (
          arith,
          passed_grows i g.a g'.a (omega (arith, o.a)),
          passed_grows i g.d g'.d (omega (arith, o.d)),
          passed_grows i g.r g'.r (omega (arith, o.r)),
          turn_grows i g.b g'.b (turn_stays q),
        )

  module _ {u : ℕ} (apart : u ≡ t → ⊥) where
    -- its limit stays, or grows
    pub limit_grows : (s : Stage) → Standing n h v g u s → (k : ℕ) → limit s g (g.at u) k ≤ limit s (noted_by n v t g l) (g.at u) k
    limit_grows (out o) stand k = omega arith
    limit_grows (wait w) stand k = omega (arith, written_grows stand apart tt)
    limit_grows (combine c) stand k = omega arith
    limit_grows l19 stand k = omega arith
    limit_grows l21 stand k = omega arith
    limit_grows dummy stand k = omega arith

    -- where the line writes its node it grows
    pub hit_counts : (s : Stage) → T (is_thread s) → Standing n h v g u s → (k : ℕ) → Hit (holding s (v.thread u))
        → limit s (noted_by n v t g l) (g.at u) k ≤ limit s g (g.at u) k → ⊥
    hit_counts (out o) z stand k hit low = hit_held stand apart hit (λ q e w more. q)
    hit_counts (wait w) z stand k hit low =
        hit_held stand apart hit (λ q e w more. omega (arith, subst (λ (i : ℕ). written g i < written (noted_by n v t g l) i) (sym e) more))
    hit_counts (combine c) z stand k hit low = hit_held stand apart hit (λ q e w more. turn_apart stand apart tt stand.facts.1.0.turn w)
    hit_counts l19 z stand k hit low = hit_held stand apart hit (λ q e w more. turn_apart stand apart tt stand.facts.1.0.turn w)
    hit_counts l21 z stand k hit low = hit_held stand apart hit (λ q e w more. omega (arith, stand.facts.1.past, en.control.order))
    hit_counts dummy z stand k hit low = absurd z

    -- the linked node that it serves itself is not written
    pub clear_tmp : (s : Stage) → T (linked_tmp s) → Standing n h v g u s → Hit (v.thread u).tmp.0 → ⊥
    clear_tmp (combine c) q stand (own i j) =
        let mine : held (slot n v t) ≡ g.node g.r = sym i ∙ stand.facts.1.1.serving in
        let t≤n : t ≤ n = omega (arith, en.does.below) in
        let seated = rw (owner en.control t g.r t≤n (omega arith) swapped_in mine) at (en.control.seat g.r (omega arith) swapped_in).queued in
        false≢true (sym (j seated) ∙ ap g.linked (whose en.control t g.r t≤n (omega arith) swapped_in mine) ∙ stand.facts.1.1.linked q)
    clear_tmp (combine c) q stand (served i w more) = turn_apart stand apart tt stand.facts.1.0.turn w
    clear_tmp (out o) q stand hit = q
    clear_tmp (wait w) q stand hit = q
    clear_tmp l19 q stand hit = q
    clear_tmp l21 q stand hit = q
    clear_tmp dummy q stand hit = q

  look : (m : NodeId) → m.0 ≤ n → (f : Field) → Touch (read m f)
  look m i f = record { fits = omega (arith, en.small); hits = λ e. absurd (false≢true e) }

  change : (m : NodeId) → m.0 ≤ n → (f : Field) → Hit m.0 → Touch (write m f)
  change m i f hit = record { fits = omega (arith, en.small); hits = λ _ k e. let at = ap place e in subst Hit (omega arith) hit }

  within : {m : ℕ} → held (slot n v t) ≡ m → m ≤ n
  within i = rw (← i) (en.control.nodes t (omega (arith, en.does.below)))

  look_cur : (s : Stage) → stage_of (stands_at (number l)) ≡ s → holding s (v.thread t) ≡ (v.thread t).cur.0 → (f : Field) → Touch (read (v.thread t).cur f)
  look_cur s e q f = look (v.thread t).cur (within ((mine s e).node ∙ q)) f

  change_own : (o : Out) → stage_of (stands_at (number l)) ≡ out o → (f : Field) → Touch (write (v.thread t).own f)
  change_own o e f =
      let m = mine (out o) e in
      change (v.thread t).own (within m.node) f (own (sym m.node) (λ q. absurd (rw m.stage at q)))

  change_cur : (w : Waiting) → stage_of (stands_at (number l)) ≡ wait w → (wait_row w).linked ≡ false → (f : Field) → Touch (write (v.thread t).cur f)
  change_cur w e free f =
      let m = mine (wait w) e in
      change (v.thread t).cur (within m.node) f (own (sym m.node) (λ q. m.facts.1.linked ∙ free))

  module _ (w : Combine) (e : stage_of (stands_at (number l)) ≡ combine w) where
    tmp_within : (v.thread t).tmp.0 ≤ n
    tmp_within = rw (mine (combine w) e).facts.1.1.serving (node_bound en.control g.r (omega arith) swapped_in)

    look_tmp : (f : Field) → Touch (read (v.thread t).tmp f)
    look_tmp = look (v.thread t).tmp tmp_within

    change_tmp : (f : Field) → Counted n v t g l → Touch (write (v.thread t).tmp f)
    change_tmp f more =
        let m = (mine (combine w) e).facts in
        change (v.thread t).tmp tmp_within f (served m.1.1.serving (ap g.who (sym m.1.0.turn) ∙ m.0.who) more)

module _ {n h : ℕ} {v v' : View} {g : Ledger} {t : ℕ} {request : Request} {answer : Answer} {copies : List ℕ} where
  -- the accesses of thread t's line
  touches : (l : Line) (en : Entering n h v v' g t l request answer copies) → Each (Touch en) (made v t l)
  touches L0 en = tt
  touches L1 en = tt
  touches L2 en = (change_own en o2 refl Next, tt)
  touches L3 en = (change_own en o3 refl Wait, tt)
  touches L4 en = (change_own en o4 refl Completed, tt)
  touches L5 en = (record { fits = omega arith; hits = λ _ m e. let at = ap place e in absurd (omega arith) }, tt)
  touches L6 en = (change_cur en w6 refl refl Req, tt)
  touches L7 en = (change_cur en w7 refl refl Next, tt)
  touches L8 en = tt
  touches L9 en = (look_cur en (wait w9) refl refl Wait, tt)
  touches L10 en = (look_cur en (wait w10) refl refl Completed, tt)
  touches L11 en = (look_cur en (wait w11) refl refl Ret, tt)
  touches L12 en = tt
  touches L13 en = (look_tmp en c13 refl Next, tt)
  touches L14 en = tt
  touches L15 en = (look_tmp en c15 refl Next, tt)
  touches L16 en = (look_tmp en c16 refl Req, (change_tmp en c16 refl Ret (omega (arith, comes_past g.r g.a (mine en (combine c16) refl).facts.1.1.applied)), tt))
  touches L17 en = (change_tmp en c17 refl Completed (omega (arith, comes_past g.r g.d (mine en (combine c17) refl).facts.1.1.completed)), tt)
  touches L18 en = (change_tmp en c18 refl Wait (omega (arith, comes_past g.r g.r (omega arith))), tt)
  touches L19 en = tt
  touches L20 en =
      let f = (mine en (combine c20) refl).facts.1.1 in
      (change_tmp en c20 refl Wait (rw (ne_eqb g.r g.b (λ e. omega (arith, f.past tt)), eq-eqb g.r g.a (omega (arith, f.applied))) (omega arith)), tt)
  touches L21 en = (look_cur en l21 refl refl Ret, tt)

  module _ {l : Line} (en : Entering n h v v' g t l request answer copies) where
    pub fits : Each Fits (made v t l)
    fits = each_map {P = Touch en} (λ a b. b.fits) (made v t l) (touches l en)

    pub missed : (m : ℕ) → (Hit en m → ⊥) → Each (Misses m) (made v t l)
    missed m clear = each_map {P = Touch en} (λ a b r e. clear (b.hits r m e)) (made v t l) (touches l en)
