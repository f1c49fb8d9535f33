-- Requests, answers and the object: the data invariant holds at the start and is kept by every line, no line uses an empty req or ret, and none but one that
-- meets null is 14. Assumes the control invariant, and that a call begins only with a request that its thread has left and the object knows.
use Prim.Native.Nat.{ℕ, suc, ◌+◌, ◌-◌, ◌≤◌, ◌<◌}
use native.Mathlib.Nat.{add-zero}
use native.Mathlib.Omega.{arith}
use mathlib.Core.Path.{◌≡◌, refl, sym, ap, ◌∙◌}
use mathlib.Core.Bool.{true, false, or-false}
use mathlib.Core.List.{List, []}
use lib.ListN.{length, get_or}
use lib.Seq.{get_or_at}
use lib.Dec.{T, leb, eqb}
use borrow.Author.Tests.{lt-leb, le-ltb, eqb-true, eqb-false}
use Rattle.std.specs.Prelude.{Some}
use Rattle.object.specs.declared.Kind.{Kind}
use Rattle.object.specs.declared.Request.{Request}
use Rattle.object.specs.declared.Request.TheVariants.{Put}
use Rattle.object.specs.declared.Answer.{Answer}
use Rattle.object.specs.declared.Answer.TheVariants.{Empty}
use Rattle.object.specs.declared.Object.{Object}
use Rattle.object.specs.Paper.{capacity_allowed}
use Rattle.object.specs.Apply.{knows, fresh_object}
use Rattle.object.proofs.Choice.{by_equal, either, unless}
use Rattle.machine.specs.declared.Node.{Node}
use Rattle.machine.specs.declared.Thread.{Thread}
use Rattle.machine.specs.Effect.{Effect}
use Rattle.machine.specs.declared.Event.TheVariants.{Swaps, Applies}
use Rattle.machine.specs.Fields.{is_empty_req, is_empty_ret}
use Rattle.machine.specs.Events.{same_event}
use Rattle.machine.specs.Lines.{stands_at}
use Rattle.dsm_lines.specs.Lines.{Line, number, pointed, L0, L1, L2, L3, L4, L5, L6, L7, L8, L9, L10, L11, L12, L13, L14, L15, L16, L17, L18, L19, L20, L21, L22, L23, L24, L25, L26, L27, L28}
use Rattle.dsm_synch.specs.Effect.{meets_null, uses_empty, takes_out}
use Rattle.dsm_lines.proofs.Numbers.{number_most}
use Rattle.step.specs.Entry.{one_if}
use Rattle.invariant.specs.View.{View}
use Rattle.invariant.specs.Serving.{open_request, grown, Fed}
use Rattle.invariant.proofs.Serving.{grown_length, grown_below, fed_fresh, fits_fresh, fits_kept, fed_grown, fed_applied, ret_next}
use Rattle.invariant.proofs.Upd.{upd_same}
use Rattle.dsm_invariant.specs.Stages.{stage_of, queued}
use Rattle.dsm_invariant.specs.Ledger.{Ledger, node_at, fresh_ledger, noted}
use Rattle.dsm_invariant.specs.View.{first, goal, event_at, does, Does}
use Rattle.dsm_invariant.specs.Control.{asked, Control, InQueue}
use Rattle.dsm_invariant.specs.Data.{applied_by, calling, CallData, Data}
use Rattle.dsm_invariant.proofs.Basics.{thread_told, implied}
use Rattle.dsm_invariant.proofs.Places.{from, placed, only_at}
use Rattle.dsm_invariant.proofs.Frame.{field_same}
use Rattle.dsm_invariant.proofs.Threads.{chosen, last_line, by_last, pointed_at, points, at_below, my_home, room, serving, last as last_served}
use Rattle.dsm_invariant.proofs.Events.{told}
use Rattle.dsm_invariant.proofs.Notes.{notes, at_kept}

-- a call whose request is written has its node, and one in the queue has its request written
asked_chosen : (k : ℕ) → T (asked (stage_of k)) → T (chosen (stage_of k))
asked_chosen = implied asked chosen refl

queued_asked : (k : ℕ) → T (queued (stage_of k)) → T (asked (stage_of k))
queued_asked = implied queued asked refl

queued_calling : (k : ℕ) → T (queued (stage_of k)) → T (calling (stage_of k))
queued_calling = implied queued calling refl

-- a call goes on, with its node once its request is written
record Stays (th th' : Thread) : Type 0 where
  begun : th'.begun ≡ th.begun
  my : T (asked (stage_of th'.line)) → th'.my ≡ th.my
  calling : T (calling (stage_of th'.line)) → T (calling (stage_of th.line))
  asked : T (asked (stage_of th'.line)) → T (asked (stage_of th.line))
  queued : T (queued (stage_of th'.line)) → T (queued (stage_of th.line))

stays_same : (th : Thread) → Stays th th
stays_same th = record { begun = refl; my = λ _. refl; calling = λ q. q; asked = λ q. q; queued = λ q. q }

module _ {n h : ℕ} {v : View} {g : Ledger} (c : Control n h v g) {requests : ℕ → ℕ → Request} {kind : Kind} {capacity : ℕ}
    {jobs : List Request} {answers : List Answer} {ob : Object} (now : Data n requests kind capacity v g jobs answers ob) where
  -- the node of a position that is not applied asks the request at it, which the object knows
  seated_asks : (i : ℕ) → g.a ≤ i → i < g.s → ((v.node (node_at g i)).req ≡ Some (get_or jobs i (Put 0))) × (knows kind (get_or jobs i (Put 0)) ≡ true)
  seated_asks i low high =
      let s = c.seat i low high in
      let u = g.who i in
      let stage = (v.thread u).line in
      let f = now.call u s.who in
      let job = ap (λ (j : ℕ). get_or jobs j (Put 0)) (sym s.at) ∙ f.job s.queued in
      let node = ap (node_at g) (sym s.at) ∙ sym (placed c u s.who s.queued) in (
        ap (λ (m : ℕ). (v.node m).req) node ∙ f.asked (queued_asked stage s.queued) ∙ ap Some (sym job),
        ap (knows kind) job ∙ f.known (queued_calling stage s.queued),
      )

  -- a thread that is to run a line
  module _ {t : ℕ} (l : Line) (below : t < n) (stands : (v.thread t).line ≡ stands_at (number l)) where
    -- line 16 points to the node of the first position that is not applied
    serves : number l ≡ 16 → ((pointed (v.thread t) l).0 ≡ node_at g g.a) × (g.a < g.s)
    serves q = let s = serving c l below stands q in (points (v.thread t) l ∙ rw q s.0, s.1)

    pub served_asks : number l ≡ 16 → (first v t l).req ≡ Some (get_or jobs g.a (Put 0))
    served_asks q = let s = serves q in ap (λ (m : ℕ). (v.node m).req) s.0 ∙ (seated_asks g.a (omega arith) s.1).0

    -- a call's last line points to its thread's node, whose request is applied, and finds its answer there
    pub answer_there : last_line (number l) ≡ true → (first v t l).ret ≡ Some (get_or answers (g.at t) Empty)
    answer_there last =
        by_last (number l) last
        (λ q. returns q refl tt)
        (λ q. returns q refl tt)
        (λ q. returns q refl tt)
      where
        returns : {k : ℕ} → number l ≡ k → pointed_at (v.thread t) k ≡ (v.thread t).my.0
            → T (queued (stage_of (stands_at k))) → (first v t l).ret ≡ Some (get_or answers (g.at t) Empty)
        returns {k} q home queue =
            ap (λ (m : ℕ). (v.node m).ret) (points (v.thread t) l ∙ rw q home) ∙ (now.call t below).replied (rw (stands, q) queue) (last_served c l below stands last)

    -- so no line uses an empty one
    uses_none : uses_empty (first v t l) (number l) ≡ false
    uses_none =
        rw (
          unless (eqb (number l) 16) (is_empty_req (first v t l).req) (λ e. rw (served_asks (eqb-true (number l) 16 e))),
          unless (last_line (number l)) (is_empty_ret (first v t l).ret) (λ e. rw (answer_there e)),
        )

    -- a line is 14 only where it meets null: at line 15 the served counter is below h
    pub no_line_out : (number l ≡ 1 → (v.thread t).begun < (v.thread t).count)
        → takes_out (v.thread t) (first v t l) h (number l) ≡ meets_null (v.thread t) (first v t l) (number l)
    no_line_out begins =
        let th = v.thread t in
        rw (
          le-ltb 28 (number l) (number_most l),
          unless (eqb (number l) 1) (leb th.count th.begun) (λ e. lt-leb _ _ (begins (eqb-true _ 1 e))),
          unless (eqb (number l) 15) (leb h th.served) (λ e. lt-leb h th.served (room c l below stands (eqb-true (number l) 15 e))),
          uses_none,
        ) (simp or-false)

  -- the nodes of two threads whose requests are written, or will be, are two
  homes_apart : (u w : ℕ) → u < n → w < n → T (chosen (stage_of (v.thread u).line)) → T (chosen (stage_of (v.thread w).line))
      → (v.thread u).my.0 ≡ (v.thread w).my.0 → u ≡ w
  homes_apart u w ku kw p q e = thread_told u w (c.old u ku).toggled (c.old w kw).toggled (sym (my_home c u ku p) ∙ e ∙ my_home c w kw q)

  -- thread t runs line l with the request of its call and the object's answer
  abbrev pub Runs : View → ℕ → Line → Type 0
  Runs v' t l = Does n h v v' t l (open_request requests v t) (applied_by v t l kind capacity ob).answer

  module _ {v' : View} {t : ℕ} {l : Line} (d : Runs v' t l) where
    abbrev request : Request
    request = open_request requests v t

    abbrev answer : Answer
    answer = (applied_by v t l kind capacity ob).answer

    abbrev effect : Effect
    effect = does v t l h request answer

    -- the ledger and the lists afterwards
    abbrev g' : Ledger
    g' = noted v t g l

    abbrev jobs' : List Request
    jobs' = grown (same_event (event_at v t l) Swaps) jobs request

    abbrev answers' : List Answer
    answers' = grown (same_event (event_at v t l) Applies) answers answer

    abbrev After : Type 0
    After = Data n requests kind capacity v' g' jobs' answers' (applied_by v t l kind capacity ob).object

    abbrev CallAfter : ℕ → Type 0
    CallAfter u = CallData kind jobs' answers' (open_request requests v' u) (g'.at u) g'.a (stage_of (v'.thread u).line) (v'.node (v'.thread u).my.0)

    swaps_after : length jobs' ≡ g'.s
    swaps_after = rw (grown_length (same_event (event_at v t l) Swaps) jobs request, (told v t l).swaps, (notes v t g l).s, now.swaps)

    -- what is applied is the request after those applied, and the object knows it
    next_known : same_event (event_at v t l) Applies ≡ true
        → (g.a < length jobs) × (knows kind (get_or jobs g.a (Put 0)) ≡ true) × ((first v t l).req ≡ Some (get_or jobs g.a (Put 0)))
    next_known e =
        let q = eqb-true (number l) 16 (sym (told v t l).applies ∙ e) in
        let s = serves l d.below d.stands q in
        (omega (arith, now.swaps), (seated_asks g.a (omega arith) s.1).1, served_asks l d.below d.stands q)

    fed_after : Fed kind capacity jobs' answers' g'.a (applied_by v t l kind capacity ob).object
    fed_after =
        let applies = same_event (event_at v t l) Applies in
        let enough : g.a + one_if applies ≤ length jobs = either (λ (k : ℕ). g.a + k ≤ length jobs) applies (λ e. omega (arith, (next_known e).0)) (λ _. omega (arith, now.swaps, c.order)) in
        rw ((notes v t g l).a, ← (told v t l).applies)
        (fed_grown (fed_applied now.fed (event_at v t l) now.fits next_known) (same_event (event_at v t l) Swaps) enough request)

    -- the call of a thread u that goes on, by what its node then has
    call_after : (u : ℕ) → u < n → Stays (v.thread u) (v'.thread u) → (u ≡ t → number l ≡ 7 → ⊥)
        → (T (asked (stage_of (v.thread u).line)) → (v'.node (v.thread u).my.0).req ≡ (v.node (v.thread u).my.0).req)
        → (InQueue v u → g.at u < g'.a → (v'.node (v.thread u).my.0).ret ≡ Some (get_or answers' (g.at u) Empty))
        → CallAfter u
    call_after u below s apart req ret =
        let f = now.call u below in
        rw (s.begun, at_kept v t g l u apart) (record {
          known = λ q. f.known (s.calling q);
          asked = λ q. rw (s.my q) (req (s.asked q) ∙ f.asked (s.asked q));
          job =
              λ q.
              grown_below (same_event (event_at v t l) Swaps) jobs request (g.at u) (Put 0) (omega (arith, now.swaps, at_below c u below (s.queued q)))
              ∙ f.job (s.queued q);
          replied = λ q i. rw (s.my (queued_asked (v'.thread u).line q)) (ret (s.queued q) i);
        })

    -- every thread's call, by what the nodes then have and by the thread's own
    data_after : ((u : ℕ) → u < n → (u ≡ t → ⊥) → T (asked (stage_of (v.thread u).line)) → (v'.node (v.thread u).my.0).req ≡ (v.node (v.thread u).my.0).req)
        → ((u : ℕ) → u < n → InQueue v u → g.at u < g'.a → (v'.node (v.thread u).my.0).ret ≡ Some (get_or answers' (g.at u) Empty))
        → CallAfter t → After
    data_after req ret own = record {
      swaps = swaps_after;
      call = λ u below. by_equal u t
          (λ e. rw e own)
          (λ e. call_after u below (rw (d.others u e) (stays_same (v.thread u))) (λ i. absurd (e i)) (req u below e) (ret u below));
      fed = fed_after;
      fits = fits_kept kind capacity now.fits (event_at v t l) (first v t l).req;
    }

    -- a line that applies nothing and leaves ret leaves the answers
    ret_kept : eqb (number l) 16 ≡ false → effect.node.ret ≡ (v.node (goal v t l)).ret
        → (u : ℕ) → u < n → InQueue v u → g.at u < g'.a → (v'.node (v.thread u).my.0).ret ≡ Some (get_or answers' (g.at u) Empty)
    ret_kept other e u below q i =
        let none = (told v t l).applies ∙ other in
        let same : g'.a ≡ g.a = (notes v t g l).a ∙ rw (other, add-zero) in
        rw none (field_same c d (λ (x : Node). x.ret) e _ ∙ (now.call u below).replied q (omega arith))

    -- where it leaves req too, and is no Swap, and its thread's call goes on
    quiet : eqb (number l) 7 ≡ false → eqb (number l) 16 ≡ false
        → effect.node.req ≡ (v.node (goal v t l)).req
        → effect.node.ret ≡ (v.node (goal v t l)).ret
        → Stays (v.thread t) effect.thread
        → After
    quiet no_swap none req ret stays =
        let left : (m : ℕ) → (v'.node m).req ≡ (v.node m).req = field_same c d (λ (x : Node). x.req) req in
        data_after (λ u below e q. left _) (ret_kept none ret)
        (call_after t d.below (rw d.mine stays) (λ _ q. eqb-false (number l) 7 no_swap q) (λ _. left _) (ret_kept none ret t d.below))

    -- before line 6 the request is not written; in the queue it is
    prepares : T (calling (from l)) → effect.thread.begun ≡ (v.thread t).begun
        → (T (asked (stage_of effect.thread.line)) → ⊥)
        → Stays (v.thread t) effect.thread
    prepares begun same before = record {
      begun = same;
      my = λ q. absurd (before q);
      calling = λ _. rw d.stands begun;
      asked = λ q. absurd (before q);
      queued = λ q. absurd (before (queued_asked effect.thread.line q));
    }

    in_queue_lem : T (queued (from l)) → effect.thread.begun ≡ (v.thread t).begun
        → effect.thread.my ≡ (v.thread t).my
        → Stays (v.thread t) effect.thread
    in_queue_lem q same home =
        let stood : InQueue v t = rw d.stands q in
        record {
          begun = same;
          my = λ _. home;
          calling = λ _. queued_calling (v.thread t).line stood;
          asked = λ _. queued_asked (v.thread t).line stood;
          queued = λ _. stood;
        }

  -- line 1 begins a call, whose request the object knows
  begin : {v' : View} {t : ℕ} (d : Runs v' t L1) → knows kind (requests t (v.thread t).begun) ≡ true → After d
  begin {t} d knows_it =
      let next : (v.thread t).begun + 1 - 1 ≡ (v.thread t).begun = omega arith in
      data_after d (λ u below e q. field_same c d (λ (x : Node). x.req) refl _) (ret_kept d refl refl)
      (rw (d.mine, next) (record { known = λ _. knows_it; asked = absurd; job = absurd; replied = absurd }))

  -- line 6 writes the request into its thread's node, which no other thread has
  ask : {v' : View} {t : ℕ} (d : Runs v' t L6) → After d
  ask {t} d =
      let stood : T (calling (stage_of (v.thread t).line)) = rw d.stands tt in
      data_after d
      (λ u below e q. ap (λ (x : Node). x.req)
      (d.elsewhere _ (λ m. e (homes_apart u t below d.below (asked_chosen (v.thread u).line q) (rw d.stands tt) m))))
      (ret_kept d refl refl)
      (rw (d.mine, d.there) (record { known = λ _. (now.call t d.below).known stood; asked = λ _. refl; job = absurd; replied = absurd }))

  -- line 7 puts it at the last position
  swap : {v' : View} {t : ℕ} (d : Runs v' t L7) → After d
  swap {t} d =
      let f = now.call t d.below in
      let left = field_same c d (λ (x : Node). x.req) refl in
      data_after d (λ u below e q. left _) (ret_kept d refl refl)
      (rw (d.mine, upd_same g.at t g.s) (record {
        known = λ _. f.known (rw d.stands tt);
        asked = λ _. left _ ∙ f.asked (rw d.stands tt);
        job = λ _. get_or_at jobs (open_request requests v t) [] (Put 0) g.s now.swaps;
        replied = λ _ i. absurd (omega (arith, c.order));
      }))

  -- line 16 answers the request of the first position that is not applied, whose node no other thread in the queue has
  ret_served : {v' : View} {t : ℕ} (d : Runs v' t L16) (u : ℕ) → u < n → InQueue v u → g.at u < suc g.a
      → (v'.node (v.thread u).my.0).ret ≡ Some (get_or (answers' d) (g.at u) Empty)
  ret_served {v'} d u below q =
      let s = serves L16 d.below d.stands refl in
      ret_next now.fed _ (g.at u)
      (λ e. ap (λ (x : Node). x.ret) (ap v'.node (placed c u below q ∙ ap (node_at g) e ∙ sym s.0) ∙ d.there))
      (λ e. ap (λ (x : Node). x.ret) (d.elsewhere _ (λ m. e (only_at c u g.a below q s.1 (omega arith) (m ∙ s.0)))))
      ((now.call u below).replied q)

  serve : {v' : View} {t : ℕ} (d : Runs v' t L16) → After d
  serve {t} d =
      let left = field_same c d (λ (x : Node). x.req) refl in
      data_after d (λ u below e q. left _) (ret_served d)
      (call_after d t d.below (rw d.mine (in_queue_lem d tt refl refl)) (λ _ q. omega arith) (λ _. left _) (ret_served d t d.below))

  -- every line keeps the data invariant
  pub data_kept : {v' : View} {t : ℕ} (l : Line) (d : Runs v' t l) → (number l ≡ 1 → knows kind (requests t (v.thread t).begun) ≡ true)
      → Data n requests kind capacity v' (noted v t g l) (grown (same_event (event_at v t l) Swaps) jobs (open_request requests v t))
      (grown (same_event (event_at v t l) Applies) answers (applied_by v t l kind capacity ob).answer) (applied_by v t l kind capacity ob).object
  data_kept L0 d begins = quiet d refl refl refl refl (stays_same _)
  data_kept L1 d begins = begin d (begins refl)
  data_kept L2 d begins = quiet d refl refl refl refl (prepares d tt refl (λ q. q))
  data_kept L3 d begins = quiet d refl refl refl refl (prepares d tt refl (λ q. q))
  data_kept L4 d begins = quiet d refl refl refl refl (prepares d tt refl (λ q. q))
  data_kept L5 d begins = quiet d refl refl refl refl (prepares d tt refl (λ q. q))
  data_kept L6 d begins = ask d
  data_kept L7 d begins = swap d
  data_kept L8 d begins = quiet d refl refl refl refl (in_queue_lem d tt refl refl)
  data_kept L9 d begins = quiet d refl refl refl refl (in_queue_lem d tt refl refl)
  data_kept L10 d begins = quiet d refl refl refl refl (in_queue_lem d tt refl refl)
  data_kept L11 d begins = quiet d refl refl refl refl (in_queue_lem d tt refl refl)
  data_kept L12 d begins = quiet d refl refl refl refl (in_queue_lem d tt refl refl)
  data_kept L13 d begins = quiet d refl refl refl refl (in_queue_lem d tt refl refl)
  data_kept L14 d begins = quiet d refl refl refl refl (in_queue_lem d tt refl refl)
  data_kept L15 d begins = quiet d refl refl refl refl (in_queue_lem d tt refl refl)
  data_kept L16 d begins = serve d
  data_kept L17 d begins = quiet d refl refl refl refl (in_queue_lem d tt refl refl)
  data_kept L18 d begins = quiet d refl refl refl refl (in_queue_lem d tt refl refl)
  data_kept L19 d begins = quiet d refl refl refl refl (in_queue_lem d tt refl refl)
  data_kept L20 d begins = quiet d refl refl refl refl (in_queue_lem d tt refl refl)
  data_kept L21 d begins = quiet d refl refl refl refl (in_queue_lem d tt refl refl)
  data_kept L22 d begins = quiet d refl refl refl refl (in_queue_lem d tt refl refl)
  data_kept L23 d begins = quiet d refl refl refl refl (in_queue_lem d tt refl refl)
  data_kept L24 d begins = quiet d refl refl refl refl (in_queue_lem d tt refl refl)
  data_kept L25 d begins = quiet d refl refl refl refl (in_queue_lem d tt refl refl)
  data_kept L26 d begins = quiet d refl refl refl refl (in_queue_lem d tt refl refl)
  data_kept L27 d begins = quiet d refl refl refl refl (in_queue_lem d tt refl refl)
  data_kept L28 d begins = quiet d refl refl refl refl (in_queue_lem d tt refl refl)

-- the fresh machine: no Swap is done, and no thread has begun a call
pub data_fresh : (n : ℕ) (requests : ℕ → ℕ → Request) (kind : Kind) (capacity : ℕ) (v : View) → capacity_allowed kind capacity ≡ true
    → ((u : ℕ) → u < n → (v.thread u).line ≡ 0) → Data n requests kind capacity v fresh_ledger [] [] fresh_object
data_fresh n requests kind capacity v allowed rest = record {
  swaps = refl;
  call = λ u below. rw (rest u below) (record { known = absurd; asked = absurd; job = absurd; replied = absurd });
  fed = fed_fresh kind capacity;
  fits = fits_fresh kind capacity allowed;
}
