-- What only the other method uses: no line changes it (`others_keep`), and a step without it gives what the step gives, without it (`step_without`), so that it is
-- neither judged nor looked at. Assumes nothing.
use Rattle.std.proofs.Common.{◌≡◌, ℕ, zero, suc, ◌+◌, ◌-◌, ◌*◌, Bool, true, false, cond, not, ◌&&◌, leb, List, [], ◌∷◌, map, get_or, take, set, sym, refl, ap, ◌∙◌, ap₂}
use lib.ListN.{get_or-map}
use Rattle.object.specs.declared.Kind.{Kind}
use Rattle.object.specs.declared.Request.{Request}
use Rattle.object.specs.declared.Answer.{Answer}
use Rattle.object.specs.Each.{every}
use Rattle.machine.specs.declared.Method.{Method}
use Rattle.machine.specs.declared.Method.TheVariants.{CcSynch, DsmSynch}
use Rattle.machine.specs.declared.ThreadId.{ThreadId}
use Rattle.machine.specs.declared.NodeId.{NodeId}
use Rattle.machine.specs.declared.Node.{Node}
use Rattle.machine.specs.declared.Thread.{Thread}
use Rattle.machine.specs.declared.Event.{Event}
use Rattle.machine.specs.Effect.{Effect}
use Rattle.machine.specs.Accesses.{Access, pointed}
use Rattle.machine.specs.Lines.{line_run}
use Rattle.machine.specs.Methods.{last_node}
use Rattle.cc_lines.specs.Lines as CcLines
use Rattle.cc_lines.proofs.Numbers as CcNumbers
use Rattle.cc_synch.specs.Effect as CcEffect
use Rattle.dsm_lines.specs.Lines as DsmLines
use Rattle.dsm_lines.proofs.Numbers as DsmNumbers
use Rattle.dsm_synch.specs.Effect as DsmEffect
use Rattle.copies.specs.Remote.{referred_by}
use Rattle.copies.proofs.References.{copies_stay}
use Rattle.state.specs.declared.State.{State}
use Rattle.state.specs.Range.{thread_in_range, rows_in_range, in_range_by}
use Rattle.step.specs.Entry.{zero_thread, zero_node, zero_request, applied_at, named, line, request}
use Rattle.step.specs.ByMethod.{line_points, line_writes, line_accesses, line_event, line_done, line_misses, points_to_by, node_by, behind_by, written_by, event_by, applied_by, effect_by, accesses_by, references_by, entered_by, misses_by}
use Rattle.step.specs.Step.{Stepped, refused, goes_through_by, outcome_by, step_by}
use Rattle.step.specs.Past.{of_the_other, used_thread, used_copies, used_state}
use Rattle.step.proofs.Alike.{owner_decides}

-- no line changes what only the other method uses
pub others_keep : (m : Method) (t : ℕ) (th : Thread) (x y : Node) (tail : NodeId) (h : ℕ) (request : Request) (answer : Answer) (k : ℕ)
    → of_the_other m (line_done m t th x y tail h request answer k).thread ≡ of_the_other m th
others_keep CcSynch t th x y tail h request answer k =
    CcNumbers.agree (λ l. of_the_other CcSynch (CcEffect.executed th x tail h request answer l).thread) (λ l. of_the_other CcSynch th) refl refl (CcLines.line_of k)
others_keep DsmSynch t th x y tail h request answer k =
    DsmNumbers.agree (λ l. of_the_other DsmSynch (DsmEffect.executed t th x y tail h request answer l).thread) (λ l. of_the_other DsmSynch th) refl refl
    (DsmLines.line_of k)

-- an effect without it
abbrev used_effect : Method → Effect → Effect
used_effect m e = record { refusal = e.refusal; thread = used_thread m e.thread; node = e.node; tail = e.tail }

-- a line does and is the same without it
used_line : (m : Method) (th : Thread) → line_run (used_thread m th) ≡ line_run th
used_line CcSynch th = refl
used_line DsmSynch th = refl

used_begun : (m : Method) (th : Thread) → (used_thread m th).begun ≡ th.begun
used_begun CcSynch th = refl
used_begun DsmSynch th = refl

used_count : (m : Method) (th : Thread) → (used_thread m th).count ≡ th.count
used_count CcSynch th = refl
used_count DsmSynch th = refl

used_zero : (m : Method) → used_thread m zero_thread ≡ zero_thread
used_zero CcSynch = refl
used_zero DsmSynch = refl

used_range : (m : Method) (last h : ℕ) (th : Thread) → thread_in_range m last h (used_thread m th) ≡ thread_in_range m last h th
used_range CcSynch last h th = refl
used_range DsmSynch last h th = refl

used_points : (m : Method) (th : Thread) (k : ℕ) → line_points m (used_thread m th) k ≡ line_points m th k
used_points CcSynch th k =
    CcNumbers.agree (λ l. pointed (CcLines.row_of l).node (used_thread CcSynch th)) (λ l. pointed (CcLines.row_of l).node th) refl refl (CcLines.line_of k)
used_points DsmSynch th k = DsmNumbers.agree (DsmLines.pointed (used_thread DsmSynch th)) (DsmLines.pointed th) refl refl (DsmLines.line_of k)

used_writes : (m : Method) (th : Thread) (x : Node) (k : ℕ) → line_writes m (used_thread m th) x k ≡ line_writes m th x k
used_writes CcSynch th x k = used_points CcSynch th k
used_writes DsmSynch th x k = DsmNumbers.agree (DsmLines.target (used_thread DsmSynch th) x) (DsmLines.target th x) refl refl (DsmLines.line_of k)

used_accesses : (m : Method) (th : Thread) (x : Node) (k : ℕ) → line_accesses m (used_thread m th) x k ≡ line_accesses m th x k
used_accesses CcSynch th x k = CcNumbers.agree (CcLines.accesses_by (used_thread CcSynch th)) (CcLines.accesses_by th) refl refl (CcLines.line_of k)
used_accesses DsmSynch th x k = DsmNumbers.agree (DsmLines.accesses (used_thread DsmSynch th) x) (DsmLines.accesses th x) refl refl (DsmLines.line_of k)

used_event : (m : Method) (th : Thread) (x : Node) (tail : NodeId) (k : ℕ) → line_event m (used_thread m th) x tail k ≡ line_event m th x tail k
used_event CcSynch th x tail k = refl
used_event DsmSynch th x tail k = refl

used_misses : (m : Method) (th : Thread) (x : Node) (k : ℕ) → line_misses m (used_thread m th) x k ≡ line_misses m th x k
used_misses CcSynch th x k = refl
used_misses DsmSynch th x k = rw (used_accesses DsmSynch th x k)

used_done : (m : Method) (t : ℕ) (th : Thread) (x y : Node) (tail : NodeId) (h : ℕ) (request : Request) (answer : Answer) (k : ℕ)
    → line_done m t (used_thread m th) x y tail h request answer k ≡ used_effect m (line_done m t th x y tail h request answer k)
used_done CcSynch t th x y tail h request answer k =
    CcNumbers.agree (CcEffect.executed (used_thread CcSynch th) x tail h request answer) (λ l. used_effect CcSynch (CcEffect.executed th x tail h request answer l))
    refl refl (CcLines.line_of k)
used_done DsmSynch t th x y tail h request answer k =
    DsmNumbers.agree (DsmEffect.executed t (used_thread DsmSynch th) x y tail h request answer)
    (λ l. used_effect DsmSynch (DsmEffect.executed t th x y tail h request answer l)) refl refl (DsmLines.line_of k)

-- and makes the same references
used_referred : (m : Method) (n t : ℕ) (copies : List ℕ) (accesses : List Access)
    → referred_by m n t (used_copies m copies) accesses
    ≡ record { remote = (referred_by m n t copies accesses).remote; copies = used_copies m (referred_by m n t copies accesses).copies }
used_referred CcSynch n t copies accesses = refl
used_referred DsmSynch n t copies accesses =
    let none = used_copies DsmSynch copies in
    ap₂ (λ (remote : ℕ) (left : List ℕ). record { remote = remote; copies = left }) (owner_decides n t accesses none copies) (copies_stay n t none accesses)

-- lists of threads without it
map_set : {A B : Type 0} (f : A → B) (l : List A) (i : ℕ) (a : A) → set (map f l) i (f a) ≡ map f (set l i a)
map_set f [] i a = refl
map_set f (x ∷ l) zero a = refl
map_set f (x ∷ l) (suc i) a = ap (λ rest. f x ∷ rest) (map_set f l i a)

every_map : {A : Type 0} (p : A → Bool) (f : A → A) → ((a : A) → p (f a) ≡ p a) → (n : ℕ) (l : List A) → every p (take n (map f l)) ≡ every p (take n l)
every_map p f e zero l = refl
every_map p f e (suc n) [] = refl
every_map p f e (suc n) (x ∷ l) = ap₂ ◌&&◌ (e x) (every_map p f e n l)

rows_map : (m : Method) (kind : Kind) (requests : List Request) (i n : ℕ) (ths : List Thread)
    → rows_in_range kind requests i (take n (map (used_thread m) ths)) ≡ rows_in_range kind requests i (take n ths)
rows_map m kind requests i zero ths = refl
rows_map m kind requests i (suc n) [] = refl
rows_map m kind requests i (suc n) (th ∷ ths) = rw (used_count m th, rows_map m kind requests (i + 1) n ths)

-- a state without it is in range exactly if the state is
pub range_without : (m : Method) (s : State) → in_range_by m (used_state m s) ≡ in_range_by m s
range_without m s =
    rw (
      every_map (thread_in_range m (last_node m s.n) s.h) (used_thread m) (used_range m (last_node m s.n) s.h) s.n s.threads,
      rows_map m s.kind s.requests 0 s.n s.threads,
    ) refl

module _ (m : Method) (s : State) (t : ThreadId) where
  abbrev u : State
  u = used_state m s

  named_without : named u t ≡ used_thread m (named s t)
  named_without = ap (λ d. get_or (map (used_thread m) s.threads) t.0 d) (sym (used_zero m)) ∙ get_or-map (used_thread m) s.threads t.0 zero_thread

  line_without : line u t ≡ line s t
  line_without = ap line_run named_without ∙ used_line m (named s t)

  points_without : points_to_by m u t ≡ points_to_by m s t
  points_without = ap₂ (line_points m) named_without line_without ∙ used_points m (named s t) (line s t)

  node_without : node_by m u t ≡ node_by m s t
  node_without = ap (λ (p : NodeId). get_or s.nodes p.0 zero_node) points_without

  behind_without : behind_by m u t ≡ behind_by m s t
  behind_without = ap (λ (x : Node). get_or s.nodes x.next.0 zero_node) node_without

  written_without : written_by m u t ≡ written_by m s t
  written_without = rw (node_without, line_without, named_without) (used_writes m (named s t) (node_by m s t) (line s t))

  event_without : event_by m u t ≡ event_by m s t
  event_without = rw (node_without, line_without, named_without) (used_event m (named s t) (node_by m s t) s.tail (line s t))

  request_without : request u t ≡ request s t
  request_without =
      ap (λ (begun : ℕ). get_or s.requests (16 * t.0 + (begun - 1)) zero_request) (ap (λ (th : Thread). th.begun) named_without ∙ used_begun m (named s t))

  applied_without : applied_by m u t ≡ applied_by m s t
  applied_without = ap₂ (λ (event : Event) (x : Node). applied_at event s.kind s.capacity s.object x.req) event_without node_without

  effect_without : effect_by m u t ≡ used_effect m (effect_by m s t)
  effect_without =
      rw (behind_without, applied_without, request_without, node_without, line_without, named_without)
      (used_done m t.0 (named s t) (node_by m s t) (behind_by m s t) s.tail s.h (request s t) (applied_by m s t).answer (line s t))

  accesses_without : accesses_by m u t ≡ accesses_by m s t
  accesses_without = rw (node_without, line_without, named_without) (used_accesses m (named s t) (node_by m s t) (line s t))

  misses_without : misses_by m u t ≡ misses_by m s t
  misses_without = rw (node_without, line_without, named_without) (used_misses m (named s t) (node_by m s t) (line s t))

  references_without : references_by m u t ≡ record { remote = (references_by m s t).remote; copies = used_copies m (references_by m s t).copies }
  references_without =
      ap (referred_by m s.n t.0 (used_copies m s.copies)) accesses_without ∙ used_referred m s.n t.0 s.copies (accesses_by m s t)

  entered_without : entered_by m u t ≡ used_state m (entered_by m s t)
  entered_without =
      rw (
        written_without,
        effect_without,
        applied_without,
        references_without,
        event_without,
        map_set (used_thread m) s.threads t.0 (effect_by m s t).thread,
      ) refl

  through_without : goes_through_by m u t ≡ goes_through_by m s t
  through_without =
      ap₂ (λ (misses fits : Bool). not misses && fits) misses_without (ap (in_range_by m) entered_without ∙ range_without m (entered_by m s t))

-- an outcome without it
abbrev pub used_stepped : Method → Stepped → Stepped
used_stepped m r = record { refusal = r.refusal; state = used_state m r.state }

either_without : (m : Method) (b : Bool) (p q : Stepped) → used_stepped m (cond b p q) ≡ cond b (used_stepped m p) (used_stepped m q)
either_without m true p q = refl
either_without m false p q = refl

-- the step of a state without it is the step of the state, without it
pub step_without : (m : Method) (s : State) (t : ThreadId) → step_by m (used_state m s) t ≡ used_stepped m (step_by m s t)
step_without m s t =
    rw (
      range_without m s,
      through_without m s t,
      entered_without m s t,
      either_without m (in_range_by m s) (cond (leb s.n t.0) (refused 11 s) (outcome_by m s t)) (refused 14 s),
      either_without m (leb s.n t.0) (refused 11 s) (outcome_by m s t),
      either_without m (goes_through_by m s t) (record { refusal = 0; state = entered_by m s t }) (refused 14 s),
    ) refl
