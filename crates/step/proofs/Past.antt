-- What lies past n, the method's last node, a thread's count or the items held, and what only the other method uses, is not changed by a single step (`past_kept`)
-- and not judged by it (`same_refusal`), nor does the rest hang on it (`agree_next`). Assumes states of full arrays.
use Rattle.std.proofs.Common.{◌≡◌, ℕ, ◌+◌, ◌-◌, ◌*◌, ◌/◌, ◌^◌, ◌<◌, Bool, true, false, cond, not, ◌&&◌, leb, List, [], ◌∷◌, length, get_or, take, drop, set, sym, refl, ap, ◌∙◌, ap₂, zero-add, arith, get_or-drop, drop-set-lt, leb-false}
use lib.ListN.{length-map, length-replicate, get_or-map}
use lib.Seq.{map-set_same, set_out}
use Rattle.object.specs.Plain.{Plain}
use Rattle.object.specs.Each.{Each}
use Rattle.object.proofs.Each.{each_map}
use Rattle.object.proofs.Plainly.{PastHeld, past_held, HoldSame, AnswerSame}
use Rattle.machine.specs.declared.Method.{Method}
use Rattle.machine.specs.declared.Method.TheVariants.{CcSynch, DsmSynch}
use Rattle.machine.specs.declared.ThreadId.{ThreadId}
use Rattle.machine.specs.declared.NodeId.{NodeId}
use Rattle.machine.specs.declared.Node.{Node}
use Rattle.machine.specs.declared.Thread.{Thread}
use Rattle.machine.specs.declared.Event.{Event}
use Rattle.machine.specs.declared.Event.TheVariants.{Applies}
use Rattle.machine.specs.Effect.{Effect}
use Rattle.machine.specs.Accesses.{Access, read, write, swap, cas, located}
use Rattle.machine.specs.Events.{same_event}
use Rattle.machine.specs.Lines.{line_run}
use Rattle.machine.specs.Methods.{last_node}
use Rattle.machine.specs.Sizes.{locations_of, most_locations}
use Rattle.copies.specs.Remote.{place, has_copy_of, word_after, copies_after, Referred, referred, referred_by}
use Rattle.copies.proofs.References.{copies_stay}
use Rattle.copies.proofs.Valid.{read_past, write_past}
use Rattle.state.specs.declared.Counts.{Counts}
use Rattle.state.specs.declared.State.{State}
use Rattle.state.specs.Range.{counts_in_range, in_range_by}
use Rattle.state.specs.Shape.{Shaped}
use Rattle.state.proofs.RangeFacts.{NodeOrNull, there, nowhere, state_fits}
use Rattle.step.specs.Entry.{zero_thread, zero_node, zero_request, more_of, plus, named, line, request, row, target}
use Rattle.step.specs.ByMethod.{line_points, line_writes, line_accesses, line_event, line_out, points_to_by, node_by, behind_by, written_by, event_by, applied_by, effect_by, accesses_by, references_by, counts_after_by, entered_by, out_by}
use Rattle.step.specs.Step.{Stepped, refused, goes_through_by, outcome_by, step_by, step_of}
use Rattle.step.specs.Past.{copies_from, CopiesKept, of_the_other, PastKept, SameCopies, AgreeWithin, used_thread, used_copies, used_state, Agree}
use Rattle.step.proofs.Outcome.{applied_keeps, thread_fits, points_in_range, written_in_range, target_in_range, node_fits, leaves, goes_through_exactly}
use Rattle.step.proofs.Soundness.{either_state}
use Rattle.step.proofs.Alike.{same_at, same_set, same_rows, NearBy, near_of, same_node_at, same_node_set, same_referred_by, same_served, same_done}
use Rattle.step.proofs.Used.{others_keep, step_without}

-- what each of a list of accesses keeps of the copies, the list keeps
after_all : (P : List ℕ → Type 0) (n t : ℕ) (copies : List ℕ) (accesses : List Access)
    → Each (λ a. (copies : List ℕ) → P copies → P (copies_after n t a copies)) accesses → P copies → P (referred n t copies accesses).copies
after_all P n t copies [] each p = p
after_all P n t copies (a ∷ accesses) each p = after_all P n t (copies_after n t a copies) accesses each.1 (each.0 copies p)

module _ (n t : ℕ) (below : t < n) where
  -- an access of a thread below n keeps the copies of the threads from n on
  word_kept : (a : Access) (word : ℕ) → word_after n t a word / 2 ^ n ≡ word / 2 ^ n
  word_kept (read m f) word = read_past word t n below
  word_kept (write m f) word = write_past n word t
  word_kept swap word = write_past n word t
  word_kept cas word = write_past n word t

  threads_kept : (a : Access) (copies : List ℕ) → copies_from n (copies_after n t a copies) ≡ copies_from n copies
  threads_kept a copies = map-set_same (λ word. word / 2 ^ n) copies (place (located a)) _ 0 (word_kept a (get_or copies (place (located a)) 0))

-- an entry that goes through
abbrev passed : Method → State → ThreadId → Stepped
passed m s t = record { refusal = 0; state = entered_by m s t }

-- the accesses of a line of CC-Synch go to Tail or to nodes up to n
near_by : (m : Method) (s : State) (t : ThreadId) → Shaped s → in_range_by m s ≡ true → t.0 < s.n → NearBy m s.n (accesses_by m s t)
near_by CcSynch s t shaped range below =
    let up_to_lem = target_in_range s t shaped range below in
    near_of s.n (target s t) (target s t) up_to_lem up_to_lem (row s t)
near_by DsmSynch s t shaped range below = tt

-- and so keep what lies past; DSM-Synch keeps all copies
copies_kept : (m : Method) (n t : ℕ) (copies : List ℕ) (accesses : List Access) → t < n → NearBy m n accesses
    → CopiesKept m n copies (referred_by m n t copies accesses).copies
copies_kept CcSynch n t copies accesses below near = (
  after_all (λ left. copies_from n left ≡ copies_from n copies) n t copies accesses
      (each_map (λ a q left e. threads_kept n t below a left ∙ e) accesses near) refl,
  after_all (λ left. drop (locations_of (n + 1)) left ≡ drop (locations_of (n + 1)) copies) n t copies accesses
      (each_map (λ a q left e. drop-set-lt (locations_of (n + 1)) left (place (located a)) _ q ∙ e) accesses near) refl,
)
copies_kept DsmSynch n t copies accesses below near = copies_stay n t copies accesses

-- a state keeps what it has
kept_same : (m : Method) (n : ℕ) (copies : List ℕ) → CopiesKept m n copies copies
kept_same CcSynch n copies = (refl, refl)
kept_same DsmSynch n copies = refl

module _ (m : Method) (s : State) (t : ThreadId) (shaped : Shaped s) where
  -- past the last node nothing is written: a line writes a node in use, or none
  nodes_kept : {i : ℕ} (x : Node) → NodeOrNull (last_node m s.n) i → drop (last_node m s.n + 1) (set s.nodes i x) ≡ drop (last_node m s.n + 1) s.nodes
  nodes_kept {i} x (there h) = drop-set-lt (last_node m s.n + 1) s.nodes i x (omega arith)
  nodes_kept {i} x (nowhere e) = rw (set_out s.nodes i x (omega (arith, shaped.nodes))) refl

  -- the state after an entry
  pub entered_past_kept : in_range_by m s ≡ true → t.0 < s.n → PastKept m s (entered_by m s t)
  entered_past_kept range below = record {
    threads = drop-set-lt s.n s.threads t.0 (effect_by m s t).thread below;
    nodes = nodes_kept (effect_by m s t).node (written_in_range m s t shaped range below);
    requests = refl;
    copies = copies_kept m s.n t.0 s.copies (accesses_by m s t) below (near_by m s t shaped range below);
    items =
        applied_keeps (λ answer. PastHeld s.object) (event_by m s t) s.kind s.capacity s.object (node_by m s t).req refl
        (λ request. past_held s.kind s.capacity s.object request shaped.items);
    others =
        map-set_same (of_the_other m) s.threads t.0 (effect_by m s t).thread zero_thread
        (others_keep m t.0 (named s t) (node_by m s t) (behind_by m s t) s.tail s.h (request s t) (applied_by m s t).answer (line s t));
  }

  -- not changed, refused or not
  kept_by : PastKept m s (step_by m s t).state
  kept_by =
      either_state m s t (PastKept m s)
      (record { threads = refl; nodes = refl; requests = refl; copies = kept_same m s.n s.copies; items = refl; others = refl })
      (λ range below through. entered_past_kept range below)

pub past_kept : (s : State) (t : ThreadId) → Shaped s → PastKept s.method s (step_of s t).state
past_kept s t shaped = kept_by s.method s t shaped

-- states that agree within the limits
module _ (m : Method) (s s' : State) (agree : AgreeWithin m s s') where
  abbrev last : ℕ
  last = last_node m s.n

  same_range : in_range_by m s ≡ in_range_by m s'
  same_range =
      rw (
        same_rows s.kind s.requests s'.requests 0 s.n s.threads (λ k h. rw zero-add (agree.requests k h)),
        agree.threads,
        agree.nodes,
        agree.n,
        agree.h,
        agree.kind,
        agree.capacity,
        agree.tail,
        agree.held,
        agree.counts,
      ) refl

  module _ (t : ThreadId) (shaped : Shaped s) (shaped' : Shaped s') (range : in_range_by m s ≡ true) (below : t.0 < s.n) where
    same_named : named s t ≡ named s' t
    same_named = same_at s.n s.threads s'.threads agree.threads t.0 zero_thread below

    -- the node that the line points to, the one behind it, and the one that it writes
    same_points : points_to_by m s t ≡ points_to_by m s' t
    same_points = ap (λ (th : Thread). line_points m th (line_run th)) same_named

    same_node : node_by m s t ≡ node_by m s' t
    same_node =
        same_node_at last s.nodes s'.nodes shaped.nodes shaped'.nodes agree.nodes (points_to_by m s t).0 (points_in_range m s t shaped range below)
        ∙ ap (λ (p : NodeId). get_or s'.nodes p.0 zero_node) same_points

    same_behind : behind_by m s t ≡ behind_by m s' t
    same_behind =
        same_node_at last s.nodes s'.nodes shaped.nodes shaped'.nodes agree.nodes (node_by m s t).next.0 (node_fits m s t shaped range below).next
        ∙ ap (λ (x : Node). get_or s'.nodes x.next.0 zero_node) same_node

    same_written : written_by m s t ≡ written_by m s' t
    same_written = ap₂ (λ (th : Thread) (x : Node). line_writes m th x (line_run th)) same_named same_node

    same_event_lem : event_by m s t ≡ event_by m s' t
    same_event_lem = rw agree.tail (ap₂ (λ (th : Thread) (x : Node). line_event m th x s'.tail (line_run th)) same_named same_node)

    same_accesses : accesses_by m s t ≡ accesses_by m s' t
    same_accesses = ap₂ (λ (th : Thread) (x : Node). line_accesses m th x (line_run th)) same_named same_node

    same_references : ((references_by m s t).remote ≡ (referred_by m s.n t.0 s'.copies (accesses_by m s t)).remote)
        × SameCopies m s.n (references_by m s t).copies (referred_by m s.n t.0 s'.copies (accesses_by m s t)).copies
    same_references =
        same_referred_by m s.n t.0 below (state_fits m s range).small (accesses_by m s t) (near_by m s t shaped range below) s.copies s'.copies
        shaped.copies shaped'.copies agree.copies

    -- made from the second state's own accesses
    own_references : referred_by m s.n t.0 s'.copies (accesses_by m s t) ≡ references_by m s' t
    own_references = ap₂ (λ (n : ℕ) (accesses : List Access). referred_by m n t.0 s'.copies accesses) agree.n same_accesses

    same_remote : (references_by m s t).remote ≡ (references_by m s' t).remote
    same_remote = same_references.0 ∙ ap (λ (r : Referred). r.remote) own_references

    same_copies : SameCopies m s.n (references_by m s t).copies (references_by m s' t).copies
    same_copies u h l k = same_references.1 u h l k ∙ ap (λ (r : Referred). has_copy_of r.copies u l) own_references

    same_counts : counts_after_by m s t ≡ counts_after_by m s' t
    same_counts = rw agree.counts (ap₂ (λ (event : Event) (remote : ℕ). plus s'.counts (more_of event remote)) same_event_lem same_remote)

    same_out : out_by m s t ≡ out_by m s' t
    same_out = rw agree.h (ap₂ (λ (th : Thread) (x : Node). line_out m th x s'.h (line_run th)) same_named same_node)

    same_through : goes_through_by m s t ≡ goes_through_by m s' t
    same_through =
        goes_through_exactly m s t shaped range below
        ∙ ap₂ (λ (out : Bool) (counts : Counts). not out && counts_in_range counts) same_out same_counts
        ∙ sym (goes_through_exactly m s' t shaped' (sym same_range ∙ range) (rw (← agree.n) below))

    -- the request of the thread's call, where it has begun one
    same_request : 0 < (named s t).begun → request s t ≡ request s' t
    same_request b =
        rw (get_or-drop, get_or-drop) at (same_at (named s t).count (drop (16 * t.0) s.requests) (drop (16 * t.0) s'.requests)
        (agree.requests t.0 below) ((named s t).begun - 1) zero_request (omega (arith, (thread_fits m s t shaped range below).counted)))
        ∙ ap (λ (th : Thread). get_or s'.requests (16 * t.0 + (th.begun - 1)) zero_request) same_named

    same_held : HoldSame s.object s'.object
    same_held = record { held = agree.held; plain = rw (← agree.held, agree.items, agree.sum) refl }

    same_applied : AnswerSame (applied_by m s t) (applied_by m s' t)
    same_applied =
        rw (← same_event_lem, ← agree.kind, ← agree.capacity, ← same_node) (same_served s.kind s.capacity s.object s'.object
        (same_event (event_by m s t) Applies) (node_by m s t).req shaped.items shaped'.items (rw (state_fits m s range).held tt)
        (node_fits m s t shaped range below).req same_held)

    same_effect : effect_by m s t ≡ effect_by m s' t
    same_effect =
        same_done m t.0 (named s t) (node_by m s t) (behind_by m s t) s.tail s.h (request s t) (request s' t) (applied_by m s t).answer
        (thread_fits m s t shaped range below).begun same_request
        ∙ rw (same_applied.answer, same_behind, same_node, same_named, agree.tail, agree.h) refl

    -- a line keeps its thread's count
    counts_kept : (i : ℕ) → (get_or (entered_by m s t).threads i zero_thread).count ≡ (get_or s.threads i zero_thread).count
    counts_kept i =
        let count : Thread → ℕ = λ th. th.count in
        sym (get_or-map count (entered_by m s t).threads i zero_thread)
        ∙ ap (λ l. get_or l i 0) (map-set_same count s.threads t.0 (effect_by m s t).thread zero_thread (leaves m s t shaped range below).count)
        ∙ get_or-map count s.threads i zero_thread

    entered_agree : AgreeWithin m (entered_by m s t) (entered_by m s' t)
    entered_agree = record {
      n = agree.n;
      h = agree.h;
      kind = agree.kind;
      capacity = agree.capacity;
      tail = ap (λ (e : Effect). e.tail) same_effect;
      threads =
          same_set s.n s.threads s'.threads agree.threads t.0 (effect_by m s t).thread below
          ∙ ap (λ (e : Effect). take s.n (set s'.threads t.0 e.thread)) same_effect;
      nodes =
          same_node_set last s.nodes s'.nodes shaped.nodes shaped'.nodes agree.nodes (written_by m s t).0 (effect_by m s t).node
          (written_in_range m s t shaped range below)
          ∙ ap₂ (λ (w : NodeId) (e : Effect). take (last + 1) (set s'.nodes w.0 e.node)) same_written same_effect;
      requests = λ i h. rw (counts_kept i) (agree.requests i h);
      copies = same_copies;
      held = same_applied.object.held;
      items = ap (λ (p : Plain). p.values) same_applied.object.plain ∙ ap (λ k. take k (applied_by m s' t).object.items) (sym same_applied.object.held);
      sum = ap (λ (p : Plain). p.sum) same_applied.object.plain;
      counts = same_counts;
    }

-- they are judged alike: both are refused with one number, or both entries go through
module _ (m : Method) (s s' : State) (agree : AgreeWithin m s s') (t : ThreadId) (shaped : Shaped s) (shaped' : Shaped s') where
  both : (P : Stepped → Stepped → Type 0) → ((number : ℕ) → P (refused number s) (refused number s'))
      → (in_range_by m s ≡ true → t.0 < s.n → P (passed m s t) (passed m s' t))
      → P (step_by m s t) (step_by m s' t)
  both P refuses goes = rw (← same_range m s s' agree, ← ap (λ n. leb n t.0) agree.n) (by_tests (in_range_by m s) (leb s.n t.0) refl refl)
    where
      by_outcome : (through : Bool) → in_range_by m s ≡ true → t.0 < s.n
          → P (cond through (passed m s t) (refused 14 s)) (cond through (passed m s' t) (refused 14 s'))
      by_outcome false e h = refuses 14
      by_outcome true e h = goes e h

      by_tests : (fits past : Bool) → in_range_by m s ≡ fits → leb s.n t.0 ≡ past
          → P (cond fits (cond past (refused 11 s) (outcome_by m s t)) (refused 14 s)) (cond fits (cond past (refused 11 s') (outcome_by m s' t)) (refused 14 s'))
      by_tests false past e f = refuses 14
      by_tests true true e f = refuses 11
      by_tests true false e f =
          let below = leb-false s.n t.0 f in
          rw (same_through m s s' agree t shaped shaped' e below) (by_outcome (goes_through_by m s' t) e below)

  refused_alike : (step_by m s t).refusal ≡ (step_by m s' t).refusal
  refused_alike = both (λ r r'. r.refusal ≡ r'.refusal) (λ number. refl) (λ e h. refl)

  agree_after : AgreeWithin m (step_by m s t).state (step_by m s' t).state
  agree_after = both (λ r r'. AgreeWithin m r.state r'.state) (λ number. agree) (λ e h. entered_agree m s s' agree t shaped shaped' e h)

-- a state without what only the other method uses has full arrays as well
copies_long : (m : Method) (copies : List ℕ) → length copies ≡ most_locations → length (used_copies m copies) ≡ most_locations
copies_long CcSynch copies e = e
copies_long DsmSynch copies e = length-replicate {A = ℕ} most_locations 0

shaped_without : (m : Method) (s : State) → Shaped s → Shaped (used_state m s)
shaped_without m s shaped = record {
  threads = length-map s.threads (used_thread m) ∙ shaped.threads;
  nodes = shaped.nodes;
  requests = shaped.requests;
  copies = copies_long m s.copies shaped.copies;
  items = shaped.items;
}

-- not judged: states of one method that agree, what only the other uses apart, get the same number, and agree again after the step
module _ (s s' : State) (method : s.method ≡ s'.method) (shaped : Shaped s) (shaped' : Shaped s') (agree : Agree s.method s s') (t : ThreadId) where
  abbrev m : Method
  m = s.method

  one_method : step_of s' t ≡ step_by m s' t
  one_method = ap (λ (k : Method). step_by k s' t) (sym method)

  pub same_refusal : (step_of s t).refusal ≡ (step_of s' t).refusal
  same_refusal =
      sym (ap (λ (r : Stepped). r.refusal) (step_without m s t))
      ∙ refused_alike m (used_state m s) (used_state m s') agree t (shaped_without m s shaped) (shaped_without m s' shaped')
      ∙ ap (λ (r : Stepped). r.refusal) (step_without m s' t)
      ∙ sym (ap (λ (r : Stepped). r.refusal) one_method)

  pub agree_next : Agree m (step_of s t).state (step_of s' t).state
  agree_next =
      rw one_method
      (rw (step_without m s t, step_without m s' t) at
      (agree_after m (used_state m s) (used_state m s') agree t (shaped_without m s shaped) (shaped_without m s' shaped')))
