-- Requests, answers and the object: the data invariant holds at the start and is kept by every line, and no line uses an empty req or ret or takes a number out.
-- Assumes the control invariant; to be kept also that the object and the req that it's applied to are in range.
use Prim.Native.Nat.{ℕ, suc, ◌≤◌, ◌<◌}
use native.Mathlib.Omega.{arith}
use mathlib.Core.Path.{◌≡◌, refl, sym, ap, ◌∙◌}
use mathlib.Core.Bool.{true, false, ◌||◌}
use mathlib.Core.List.{List, [], ◌∷◌, ◌++◌}
use lib.ListN.{length, get_or, length-append, get_or-append}
use lib.Seq.{get_or_at}
use lib.Dec.{T, leb, eqb}
use borrow.Author.Tests.{lt-leb, le-ltb, ne_eqb, eqb-true}
use Rattle.std.specs.Prelude.{Some}
use Rattle.object.specs.declared.Kind.{Kind}
use Rattle.object.specs.declared.Request.{Request}
use Rattle.object.specs.declared.Request.TheVariants.{Put}
use Rattle.object.specs.declared.Answer.{Answer}
use Rattle.object.specs.declared.Answer.TheVariants.{Empty}
use Rattle.object.specs.declared.Object.{Object}
use Rattle.object.specs.Apply.{fresh_object, object_in_range}
use Rattle.machine.specs.declared.Node.{Node}
use Rattle.machine.specs.declared.Thread.{Thread}
use Rattle.machine.specs.declared.Event.TheVariants.{Swaps, Applies}
use Rattle.machine.specs.Fields.{is_null, is_empty_req, is_empty_ret}
use Rattle.machine.specs.Events.{same_event}
use Rattle.cc_lines.specs.Lines.{Line, row_of, L0, L1, L2, L3, L4, L5, L6, L7, L8, L9, L10, L11, L12, L13, L14, L15, L16, L17, L18, L19, L20, L21, number}
use Rattle.cc_synch.specs.Effect.{uses_empty, takes_out}
use Rattle.state.specs.Range.{req_in_range}
use Rattle.machine.specs.Lines.{stands_at}
use Rattle.cc_lines.proofs.Numbers.{number_most, by_last}
use Rattle.invariant.specs.Stages.{stage_of, queued}
use Rattle.invariant.specs.Ledger.{Ledger, fresh_ledger, upd, noted}
use Rattle.invariant.specs.View.{View, goal, does, Does}
use Rattle.invariant.specs.Control.{Control}
use Rattle.invariant.specs.Serving.{open_request, grown}
use Rattle.invariant.specs.Data.{applied_by, CallData, Data}
use Rattle.invariant.proofs.Serving.{field_left, fed_fresh, fed_more, fed_next, ret_next}
use Rattle.object.proofs.Choice.{by_equal, unless}
use Rattle.invariant.proofs.Upd.{upd_same, upd_other}
use Rattle.invariant.proofs.Seats.{node_bound, known}
use Rattle.invariant.proofs.Threads.{InQueue, Linked, node_cur, at_below, curs_apart, serving, last_points}

-- a thread stays in the queue, with its call and its node
record Stays (th th' : Thread) : Type 0 where
  queued : T (queued (stage_of th.line))
  announced : (th'.line ≡ 6 → ⊥) → th.line ≡ 6 → ⊥
  cur : th'.cur ≡ th.cur
  begun : th'.begun ≡ th.begun

-- the nodes and the threads after thread t's line, by what it does to its own
module _ {n h : ℕ} {v v' : View} {t : ℕ} {l : Line} {request : Request} {answer : Answer} (d : Does n h v v' t l request answer) where
  -- a field that the line leaves at its node, it leaves everywhere
  field_kept : {A : Type 0} (field : Node → A) → field (does v t l h request answer).node ≡ field (v.node (goal v t l))
      → (m : ℕ) → field (v'.node m) ≡ field (v.node m)
  field_kept field e = field_left field (goal v t l) d.there d.elsewhere e

  stays_others : (u : ℕ) → (u ≡ t → ⊥) → InQueue v' u → Stays (v.thread u) (v'.thread u)
  stays_others u other = rw (d.others u other) (λ q. record { queued = q; announced = λ a. a; cur = refl; begun = refl })

  -- from line 7 on the thread itself stays, if the line leaves its call and its node
  stays_itself : T (queued (stage_of (stands_at (number l)))) → (stands_at (number l) ≡ 6 → ⊥)
      → (does v t l h request answer).thread.cur ≡ (v.thread t).cur → (does v t l h request answer).thread.begun ≡ (v.thread t).begun
      → Stays (v.thread t) (does v t l h request answer).thread
  stays_itself q past cur begun = record { queued = rw d.stands q; announced = λ _. rw d.stands past; cur = cur; begun = begun }

  stays_all : (T (queued (stage_of (does v t l h request answer).thread.line)) → Stays (v.thread t) (does v t l h request answer).thread)
      → (u : ℕ) → InQueue v' u → Stays (v.thread u) (v'.thread u)
  stays_all mine u = by_equal u t (λ e. rw (e, d.mine) mine) (stays_others u)

module _ {n h : ℕ} {v : View} {g : Ledger} (c : Control n h v g) {requests : ℕ → ℕ → Request} {kind : Kind} {capacity : ℕ}
    {jobs : List Request} {answers : List Answer} {ob : Object} (now : Data n requests kind capacity v g jobs answers ob) where
  -- the node of a linked position asks the request at it
  linked_asks : {i u : ℕ} → Linked n v g i u → (v.node (g.node i)).req ≡ Some (get_or jobs i (Put 0))
  linked_asks w =
      let f = now.call _ w.below w.queued in
      rw (← w.node, ← w.at) (f.asked w.announced ∙ ap Some (sym f.job))

  module _ {v' : View} {t : ℕ} {l : Line} {request : Request} {answer : Answer} (d : Does n h v v' t l request answer) where
    -- so does the node that line 16 points to
    pub served_asks : number l ≡ 16 → (v.node (goal v t l)).req ≡ Some (get_or jobs g.a (Put 0))
    served_asks q = let s = serving c d q in rw s.node (linked_asks s.who)

    -- and a call's last line finds its answer
    pub answer_there : (eqb (number l) 11 || eqb (number l) 21) ≡ true → (v.node (goal v t l)).ret ≡ Some (get_or answers (g.at t) Empty)
    answer_there last =
        let p = last_points c d last in
        rw p.0 ((now.call t d.below (by_last (number l) last (λ q. rw (d.stands, q) tt) (λ q. rw (d.stands, q) tt))).replied p.1)

    -- so no line uses an empty one
    uses_none : uses_empty (v.node (goal v t l)) (number l) ≡ false
    uses_none =
        rw (
          unless (eqb (number l) 16) (is_empty_req (v.node (goal v t l)).req) (λ e. rw (served_asks (eqb-true (number l) 16 e))),
          unless (eqb (number l) 11 || eqb (number l) 21) (is_empty_ret (v.node (goal v t l)).ret) (λ e. rw (answer_there e)),
        )

  -- at line 14 the served counter is below h, and at line 19 tmpNodeNext is a node
  pub no_line_out : n ≤ 16 → {v' : View} {t : ℕ} {request : Request} {answer : Answer} (l : Line) → Does n h v v' t l request answer
      → (number l ≡ 1 → (v.thread t).begun < (v.thread t).count)
      → takes_out (v.thread t) (v.node (goal v t l)) h (number l) ≡ false
  no_line_out small {t} l d begins =
      let th = v.thread t in
      rw (
        le-ltb 21 (number l) (number_most l),
        unless (eqb (number l) 1) (leb th.count th.begun) (λ e. lt-leb _ _ (begins (eqb-true _ 1 e))),
        unless (eqb (number l) 14) (leb h th.served) (λ e. lt-leb _ _ ((known c d (eqb-true (number l) 14 e)).1.1.room tt)),
        unless (eqb (number l) 19) (is_null th.tmpnext) (λ e. ne_eqb th.tmpnext.0 255 (λ i.
            omega (arith, (known c d (eqb-true (number l) 19 e)).1.1.next, node_bound c g.r (omega arith) (omega (arith, c.order))))),
        uses_none d,
      ) refl

  -- an open call after a line, of a thread that stays
  module _ (v' : View) (u : ℕ) (below : u < n) (s : Stays (v.thread u) (v'.thread u)) (jobs' : List Request)
      (job : get_or jobs' (g.at u) (Put 0) ≡ get_or jobs (g.at u) (Put 0))
      (req : (v'.node (v.thread u).cur.0).req ≡ (v.node (v.thread u).cur.0).req) where
    call_after : (answers' : List Answer) (a : ℕ) → (g.at u < a → (v'.node (v.thread u).cur.0).ret ≡ Some (get_or answers' (g.at u) Empty))
        → CallData jobs' answers' (open_request requests v' u) (g.at u) a (v'.thread u).line (v'.node (v'.thread u).cur.0)
    call_after answers' a ret =
        let f = now.call u below s.queued in
        rw (s.cur, s.begun) (record { job = job ∙ f.job; asked = λ k. req ∙ f.asked (s.announced k); replied = ret })

    -- where nothing is applied
    call_kept : (v'.node (v.thread u).cur.0).ret ≡ (v.node (v.thread u).cur.0).ret
        → CallData jobs' answers (open_request requests v' u) (g.at u) g.a (v'.thread u).line (v'.node (v'.thread u).cur.0)
    call_kept ret = call_after answers g.a (λ i. ret ∙ (now.call u below s.queued).replied i)

  -- a line that writes neither req nor ret, after which its thread is out of the queue or stays in it
  quiet : {v' : View} {t : ℕ} {l : Line} {request : Request} {answer : Answer} → Does n h v v' t l request answer
      → (does v t l h request answer).node.req ≡ (v.node (goal v t l)).req
      → (does v t l h request answer).node.ret ≡ (v.node (goal v t l)).ret
      → {g' : Ledger} → g'.s ≡ g.s → g'.a ≡ g.a → g'.at ≡ g.at
      → (T (queued (stage_of (does v t l h request answer).thread.line)) → Stays (v.thread t) (does v t l h request answer).thread)
      → Data n requests kind capacity v' g' jobs answers ob
  quiet {v'} d req ret s a at mine =
      rw (s, a, at) (record {
        swaps = now.swaps;
        call = λ u below q. call_kept v' u below (stays_all d mine u q) jobs refl (field_kept d (λ (x : Node). x.req) req _) (field_kept d (λ (x : Node). x.ret) ret _);
        fed = now.fed;
      })

  -- line 5 puts the call's request at the last position
  swap : {v' : View} {t : ℕ} {answer : Answer} → Does n h v v' t L5 (open_request requests v t) answer
      → Data n requests kind capacity v' (noted n t (v.thread t).own.0 g L5) (jobs ++ open_request requests v t ∷ []) answers ob
  swap {v'} {t} d =
      let request = open_request requests v t in
      let mine = d.below in
      let swaps = now.swaps in
      let order = c.order.applied in
      record {
        swaps = rw length-append (omega arith);
        call = λ u below. rw (upd_other (upd g.at t g.s) n (suc g.s) u (λ e. omega arith)) (by_equal u t
            (λ e. rw (e, d.mine, upd_same) (λ q. record {
              job = get_or_at jobs request [] (Put 0) g.s swaps;
              asked = λ past. absurd (past refl);
              replied = λ i. absurd (omega arith);
            }))
            (λ other q. rw (upd_other g.at t g.s u other) (
            let st = stays_others d u other q in
            call_kept v' u below st (jobs ++ request ∷ [])
            (get_or-append jobs (request ∷ []) (Put 0) (g.at u) (omega (arith, at_below c u below st.queued)))
            (field_kept d (λ (x : Node). x.req) refl _) (field_kept d (λ (x : Node). x.ret) refl _)
            )));
        fed = fed_more now.fed (omega arith) request;
      }

  -- line 6 writes it into the node, which no other thread in the queue has
  ask : {v' : View} {t : ℕ} {answer : Answer} → Does n h v v' t L6 (open_request requests v t) answer → Data n requests kind capacity v' g jobs answers ob
  ask {v'} {t} d =
      let stood : InQueue v t = rw d.stands tt in
      let f = now.call t d.below stood in
      record {
        swaps = now.swaps;
        call = λ u below. by_equal u t
            (λ e. rw (e, d.mine, d.there) (λ q. record { job = f.job; asked = λ _. refl; replied = f.replied }))
            (λ other q.
            let st = stays_others d u other q in
            let same = d.elsewhere (v.thread u).cur.0 (λ e. other (curs_apart c u t below d.below st.queued stood e)) in
            call_kept v' u below st jobs refl (ap (λ (x : Node). x.req) same) (ap (λ (x : Node). x.ret) same));
        fed = now.fed;
      }

  -- line 16 answers the request after those applied, as the plain object does
  serve : {v' : View} {t : ℕ} {request : Request} → Does n h v v' t L16 request (applied_by kind capacity ob v t L16).answer
      → object_in_range kind capacity ob ≡ true → length ob.items ≡ 64 → req_in_range kind (v.node (goal v t L16)).req ≡ true
      → Data n requests kind capacity v' (noted n t (v.thread t).own.0 g L16) jobs (answers ++ (applied_by kind capacity ob v t L16).answer ∷ [])
      (applied_by kind capacity ob v t L16).object
  serve {v'} {t} d range long known =
      let s = serving c d refl in
      let w = s.who in
      let asks = served_asks d refl in
      record {
        swaps = now.swaps;
        call = λ u below q.
            let st = stays_all d (λ _. stays_itself d tt (omega arith) refl refl) u q in
            call_after v' u below st jobs refl (field_kept d (λ (x : Node). x.req) refl _) _ _
            (ret_next now.fed _ (g.at u)
            (λ e. rw (node_cur c u below st.queued ∙ ap g.node e ∙ sym s.node, d.there))
            (λ e. ap (λ (x : Node). x.ret) (d.elsewhere (v.thread u).cur.0 (λ m.
            e (ap g.at (curs_apart c u _ below w.below st.queued w.queued (m ∙ s.node ∙ sym w.node)) ∙ w.at))))
            (now.call u below st.queued).replied);
        fed = fed_next now.fed (omega (arith, now.swaps, at_below c _ w.below w.queued, w.at)) (record { range = range; places = long }) (rw asks at known) asks;
      }

  -- every line keeps the data invariant
  pub data_kept : {v' : View} {t : ℕ} (l : Line) → Does n h v v' t l (open_request requests v t) (applied_by kind capacity ob v t l).answer
      → object_in_range kind capacity ob ≡ true → length ob.items ≡ 64 → req_in_range kind (v.node (goal v t l)).req ≡ true
      → Data n requests kind capacity v' (noted n t (v.thread t).own.0 g l) (grown (same_event (row_of l).event Swaps) jobs (open_request requests v t))
      (grown (same_event (row_of l).event Applies) answers (applied_by kind capacity ob v t l).answer) (applied_by kind capacity ob v t l).object
  data_kept L0 d range long known = quiet d refl refl refl refl refl (λ q. absurd (rw d.stands at q))
  data_kept L1 d range long known = quiet d refl refl refl refl refl (λ q. absurd q)
  data_kept L2 d range long known = quiet d refl refl refl refl refl (λ q. absurd q)
  data_kept L3 d range long known = quiet d refl refl refl refl refl (λ q. absurd q)
  data_kept L4 d range long known = quiet d refl refl refl refl refl (λ q. absurd q)
  data_kept L5 d range long known = swap d
  data_kept L6 d range long known = ask d
  data_kept L7 d range long known = quiet d refl refl refl refl refl (λ q. stays_itself d tt (omega arith) refl refl)
  data_kept L8 d range long known = quiet d refl refl refl refl refl (λ q. stays_itself d tt (omega arith) refl refl)
  data_kept L9 d range long known = quiet d refl refl refl refl refl (λ q. stays_itself d tt (omega arith) refl refl)
  data_kept L10 d range long known = quiet d refl refl refl refl refl (λ q. stays_itself d tt (omega arith) refl refl)
  data_kept L11 d range long known = quiet d refl refl refl refl refl (λ q. absurd q)
  data_kept L12 d range long known = quiet d refl refl refl refl refl (λ q. stays_itself d tt (omega arith) refl refl)
  data_kept L13 d range long known = quiet d refl refl refl refl refl (λ q. stays_itself d tt (omega arith) refl refl)
  data_kept L14 d range long known = quiet d refl refl refl refl refl (λ q. stays_itself d tt (omega arith) refl refl)
  data_kept L15 d range long known = quiet d refl refl refl refl refl (λ q. stays_itself d tt (omega arith) refl refl)
  data_kept L16 d range long known = serve d range long known
  data_kept L17 d range long known = quiet d refl refl refl refl refl (λ q. stays_itself d tt (omega arith) refl refl)
  data_kept L18 d range long known = quiet d refl refl refl refl refl (λ q. stays_itself d tt (omega arith) refl refl)
  data_kept L19 d range long known = quiet d refl refl refl refl refl (λ q. stays_itself d tt (omega arith) refl refl)
  data_kept L20 d range long known = quiet d refl refl refl refl refl (λ q. stays_itself d tt (omega arith) refl refl)
  data_kept L21 d range long known = quiet d refl refl refl refl refl (λ q. absurd q)

-- the fresh machine: no Swap is done, and no thread is in the queue
pub data_fresh : (n : ℕ) (requests : ℕ → ℕ → Request) (kind : Kind) (capacity : ℕ) (v : View) → ((u : ℕ) → u < n → (v.thread u).line ≡ 0)
    → Data n requests kind capacity v (fresh_ledger n) [] [] fresh_object
data_fresh n requests kind capacity v idle = record { swaps = refl; call = λ u below q. absurd (rw (idle u below) at q); fed = fed_fresh kind capacity }
