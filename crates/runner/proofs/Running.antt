-- What the loop of a run keeps, by either method: the invariant of the file's run, what the arrays say of the entries so far, and that the rest of the schedule ends
-- the run. Assumes fields in range.
use Prim.Native.Nat.{ℕ, ◌+◌, ◌-◌, ◌*◌, ◌%◌, ◌≤◌, ◌<◌}
use native.Mathlib.Numerals.{add-one}
use native.Mathlib.Omega.{arith}
use mathlib.Core.Path.{◌≡◌, refl, sym, ap, subst, ◌∙◌}
use mathlib.Core.Bool.{Bool, true, false, cond}
use mathlib.Core.List.{List, [], ◌∷◌, map, reverse_aux}
use lib.ListN.{length, get_or, set, drop, replicate, drop_of_length-le, get_or-eq_default}
use lib.Seq.{drop-cons, set-get_or}
use Rattle.std.specs.Prelude.{Option}
use Rattle.object.specs.Each.{Each}
use Rattle.bench_file.specs.Layout.{Fields}
use Rattle.bench_file.specs.Bytes.{InRange}
use Rattle.object.specs.declared.Kind.{Kind}
use Rattle.object.specs.declared.Request.{Request}
use Rattle.object.specs.declared.Answer.{Answer}
use Rattle.object.specs.declared.Answer.TheVariants.{Empty}
use Rattle.object.specs.declared.Object.{Object}
use Rattle.object.specs.Apply.{Applied}
use Rattle.machine.specs.declared.NodeId.{NodeId}
use Rattle.machine.specs.declared.Node.{Node}
use Rattle.machine.specs.Effect.{Effect}
use Rattle.machine.specs.declared.Method.{Method}
use Rattle.machine.specs.declared.Method.TheVariants.{CcSynch, DsmSynch}
use Rattle.machine.specs.declared.ThreadId.{ThreadId}
use Rattle.machine.specs.declared.Event.{Event}
use Rattle.machine.specs.declared.Event.TheVariants.{Swaps, TurnBegins, Applies}
use Rattle.machine.specs.declared.Row.{Row}
use Rattle.machine.specs.Accesses.{writes_any}
use Rattle.machine.specs.Events.{same_event}
use Rattle.machine.specs.Lines.{up_from}
use Rattle.machine.specs.Methods.{last_line}
use Rattle.machine.specs.Sizes.{most_calls, most_nodes}
use Rattle.cc_lines.specs.Lines as CcLines
use Rattle.cc_synch.specs.Effect as CcEffect
use Rattle.dsm_synch.specs.Effect as DsmEffect
use Rattle.methods.specs.Methods.{row_by, spin_line, spin_node}
use Rattle.methods.specs.Methods as methods
use Rattle.state.specs.declared.Counts.{Counts}
use Rattle.state.specs.declared.State.{State}
use Rattle.state.specs.Range.{in_range_by, counts_in_range}
use Rattle.state.specs.Shape.{Shaped}
use Rattle.step.specs.Entry.{zero_node, served_by, applied_at, plus, wrapped, named, line}
use Rattle.step.specs.ByMethod.{node_by, event_by, applied_by, effect_by, entered_by, out_by, null_met_by}
use Rattle.step.proofs.Entering.{Called, made, at_points, is_node, is_event, is_applied, unwritten, remote_is, sums, line_out, line_number, line_through, entered_by_lem, fits_wrapped}
use Rattle.history.specs.Entries.{Entry, thread_id, Is, how_many, remote_in}
use Rattle.history.specs.Terms.{no_call, no_turn}
use Rattle.history.proofs.Told.{is_so}
use Rattle.claims.specs.Entries.{assigned_by, entry_by, start_by, entries_from, meets_no_null, history_by}
use Rattle.claims.proofs.Counted.{next_fits}
use Rattle.kept.specs.declared.Kept.{Kept}
use Rattle.kept.specs.Kept.{place_of, call_at, kept_of, unkept, after_entry, after_serving}
use Rattle.runner.specs.Played.{Startable, Played, unplayed, played_from}
use Rattle.runner.proofs.Invariant.{Standing, standing_start, swaps_most, Next, sound, line_most_lem, waited_below, begun_now, null_alone, Untested, untested, standing_next, next_of, remote_of_lem}
use Rattle.runner.proofs.Tabled.{is_tabled}
use Rattle.runner.proofs.Tables.{Tables, tables_start, place, served, entered_calls, served_calls, order_after, given_after, turns_after, place_below, served_below, tables_next}

-- the node that a Swap assigns is the entry's
assigned_so : (m : Method) (s : State) (t : ThreadId) → methods.assigned_by m s.tail (named s t).my ≡ assigned_by m s t
assigned_so CcSynch s t = refl
assigned_so DsmSynch s t = refl

-- no method has more than 28 lines
lines_most : (m : Method) → last_line m ≤ 28
lines_most CcSynch = omega arith
lines_most DsmSynch = omega arith

-- the run at place i of the schedule: the entries so far, and what is left
pub record Running (m : Method) (f : Fields) (bytes : List ℕ) (i : ℕ) (s : State) (kept : List Kept) (order given turns : List ℕ) : Type 0 where
  pub past : List Entry
  pub standing : Standing m f s past
  pub tables : Tables past kept order given turns
  -- the number of the next entry is its place in the schedule
  pub numbered : length past ≡ i
  -- threads below n, the entries that end the run, and whether one of them meets null
  pub left : Each (λ t. t < f.head.n) (drop i bytes)
  pub short : length past + length (drop i bytes) ≤ 32768
  pub ends : reverse_aux (entries_from m s (drop i bytes)) past ≡ history_by m f
  pub clear : meets_no_null m s (drop i bytes) ≡ meets_no_null m (start_by m f) f.schedule

module _ (m : Method) (f : Fields) (bytes : List ℕ) (fits : InRange f) where
  running_start : bytes ≡ f.schedule
      → Running m f bytes 0 (start_by m f) (replicate most_calls unkept) (replicate most_calls 0) (replicate most_nodes (place_of no_call)) (replicate 16 no_turn)
  running_start e = record {
    past = [];
    standing = standing_start m f fits;
    tables = tables_start;
    numbered = refl;
    left = rw e fits.schedule;
    short = rw e (omega (arith, fits.entries));
    ends = rw e;
    clear = rw e;
  }

  -- with nothing left the entries so far are the run, and none has met null
  module _ {i : ℕ} {s : State} {kept : List Kept} {order given turns : List ℕ} (x : Running m f bytes i s kept order given turns) (done : length bytes ≤ i) where
    ends_none : x.past ≡ history_by m f
    unfolding entries_from
    ends_none = ap (λ (l : List ℕ). reverse_aux (entries_from m s l) x.past) (sym (drop_of_length-le bytes done)) ∙ x.ends

    ends_clear : meets_no_null m (start_by m f) f.schedule ≡ true
    unfolding meets_no_null
    ends_clear = sym x.clear ∙ ap (meets_no_null m s) (drop_of_length-le bytes done)

  module _ {i : ℕ} {s : State} {kept : List Kept} {order given turns : List ℕ} (x : Running m f bytes i s kept order given turns) (inside : i < length bytes) where
    abbrev t : ThreadId
    t = thread_id (get_or bytes i 0)

    here : drop i bytes ≡ t.0 ∷ drop (i + 1) bytes
    here = rw add-one (drop-cons bytes i 0 inside)

    each : Each (λ t. t < f.head.n) (t.0 ∷ drop (i + 1) bytes)
    each = rw here at x.left

    pub below : t.0 < s.n
    below = omega (arith, each.0, x.standing.going.n)

    pub few : length x.past < 32768
    few = omega (arith, ap length here, x.short)

    pub number_few : i < 32768
    number_few = omega (arith, few, x.numbered)

    -- the numbers that the entry reads are within the arrays
    pub thread_few : t.0 < 16
    thread_few = omega (arith, each.0, fits.head.n)

    pub line_last : line s t ≤ last_line m
    line_last = line_most_lem f fits s x.past t below m x.standing

    pub line_few : {k : ℕ} → k ≡ line s t → k < 29
    line_few e = omega (arith, e, line_last, lines_most m)

    pub slot_few : {p : ℕ} → p ≡ 16 * t.0 + ((named s t).begun - 1) → p < most_calls
    slot_few e = omega (arith, e, thread_few, begun_now f fits s x.past t below m x.standing)

    pub waited_few : {node : NodeId} → (named s t).line ≡ spin_line m → node ≡ spin_node m (named s t).cur (named s t).my → node.0 < most_nodes
    waited_few stands e = rw e (waited_below f fits s x.past t below m x.standing stands)

    pub nodes_long : length s.nodes ≡ most_nodes
    nodes_long = (sound m f s x.past x.standing).shape.nodes

    -- the entry's line is 14 exactly if it meets null, and then so is the run
    pub only_null : out_by m s t ≡ null_met_by m s t
    only_null = null_alone f fits s x.past t below m x.standing

    -- and in CC-Synch it needs no test
    pub line_untested : Untested f fits s x.past t below m
    line_untested = untested f fits s x.past t below m x.standing

    pub null_met : null_met_by m s t ≡ true → meets_no_null m (start_by m f) f.schedule ≡ false
    unfolding meets_no_null
    null_met met = sym x.clear ∙ ap (meets_no_null m s) here ∙ rw met

    -- where it meets none
    module _ (fine : null_met_by m s t ≡ false) where
      pub next : Next m f s x.past t
      next = next_of f fits s x.past t below m x.standing few fine

      standing_now : Standing m f (entered_by m s t) (entry_by m s t ∷ x.past)
      standing_now = standing_next f fits s x.past t below m x.standing few fine

      -- there is room in Swap order for one more
      room : Is Swaps (entry_by m s t) → s.counts.records < most_calls
      room swap =
          let counted : s.counts.records ≡ how_many Swaps x.past = ap (λ (c : Counts). c.records) x.standing.going.counted.counts in
          let one : how_many Swaps (entry_by m s t ∷ x.past) ≡ 1 + how_many Swaps x.past = rw (is_so (entry_by m s t) Swaps swap) in
          omega (arith, swaps_most m f fits _ (entry_by m s t ∷ x.past) standing_now)

      pub call_below : place m s t < most_calls
      call_below = place_below m f fits s x.past t x.standing.going next few

      pub their_below : served m s t given < most_calls
      their_below = served_below m f fits s x.past t x.standing.going next few x.tables

      ends_next : reverse_aux (entries_from m (entered_by m s t) (drop (i + 1) bytes)) (entry_by m s t ∷ x.past) ≡ history_by m f
      unfolding entries_from
      ends_next = ap (λ (l : List ℕ). reverse_aux (entries_from m s l) x.past) (sym here) ∙ x.ends

      clear_next : meets_no_null m (entered_by m s t) (drop (i + 1) bytes) ≡ meets_no_null m (start_by m f) f.schedule
      unfolding meets_no_null
      clear_next = sym (ap (meets_no_null m s) here ∙ rw fine) ∙ x.clear

      pub running_next : (d : Kept)
          → Running m f bytes (i + 1) (entered_by m s t) (served_calls m s t d given turns (entered_calls m s t (length x.past) d kept)) (order_after m s t order) (given_after m s t given) (turns_after m s t turns)
      running_next d = record {
        past = entry_by m s t ∷ x.past;
        standing = standing_now;
        tables = tables_next m f fits s x.past t x.standing.going next few x.tables d room;
        numbered = omega (arith, x.numbered);
        left = each.1;
        short = omega (arith, ap length here, x.short);
        ends = ends_next;
        clear = clear_next;
      }

    -- what `run_line` answers for the entry's line, at a node
    abbrev Answers : Node → Request → Answer → Effect → Method → Type 0
    Answers xn request answer e m' =
        e ≡ methods.effect_by m' t.0 (named s t) xn (get_or s.nodes (methods.behind_by m' xn.next).0 zero_node) s.tail s.h request answer

    -- so does the loop's own call by either method
    module _ (xn : Node) (request : Request) {h' : ℕ} {answer answer' : Answer} {e : Effect} (limit : h' ≡ s.h) (same : answer ≡ answer') where
      pub cc_answers : {k : ℕ} → m ≡ CcSynch → k ≡ line s t → xn ≡ node_by m s t
          → e ≡ CcEffect.wrapped (CcEffect.executed (named s t) xn s.tail h' request answer (CcLines.line_of k)) → Answers xn request answer' e m
      cc_answers by runs at e' =
          subst (λ (m' : Method). xn ≡ node_by m' s t → Untested f fits s x.past t below m' → Answers xn request answer' e m') (sym by)
          (λ at whole. e' ∙ rw (runs, limit, same, at) (whole request answer')) at line_untested

      pub dsm_answers : {yn : Node} → m ≡ DsmSynch → yn ≡ get_or s.nodes xn.next.0 zero_node
          → e ≡ DsmEffect.effect_of t.0 (named s t) xn yn s.tail h' request answer → Answers xn request answer' e m
      dsm_answers by behind e' = subst (Answers xn request answer' e) (sym by) (rw (← behind, ← limit, ← same) e')

    -- what the loop's own calls answered for the entry, and what the notes left in the arrays
    pub record Booked (d : Kept) (ev : Event) (applies : Bool) (p a : NodeId) (answer : Answer) (e : Effect) (remote call served : ℕ) (order' given' turns' : List ℕ) (mine theirs : Kept) : Type 0 where
      pub of_applies : applies ≡ same_event ev Applies
      pub of_call : call ≡ 16 * t.0 + (e.thread.begun - 1)
      pub of_served : served ≡ cond applies (get_or given p.0 0) call
      pub of_assigned : a ≡ methods.assigned_by m s.tail (named s t).my
      pub of_turns : turns' ≡ cond (same_event ev TurnBegins) (set turns t.0 (s.counts.turns % 65536)) turns
      pub of_given : given' ≡ cond (same_event ev Swaps) (set given a.0 (call % 65536)) given
      pub of_order : order' ≡ cond (same_event ev Swaps) (set order s.counts.records (call % 65536)) order
      pub of_mine : mine ≡ after_entry (get_or kept call d) ev remote i
      pub of_theirs : theirs ≡ after_serving (get_or (set kept call mine) served d) applies answer t (get_or turns t.0 0)

    module _ {k c remote : ℕ} {r : Row} {p w : NodeId} {xn yn : Node} {ev : Event} {ob : Applied} {e : Effect} {copies : List ℕ} {more : Counts}
        (called : Called m s t k r p xn yn ev c ob e remote copies w more) where
      shape : Shaped s
      shape = (sound m f s x.past x.standing).shape

      range : in_range_by m s ≡ true
      range = (sound m f s x.past x.standing).range

      pub is_found : xn ≡ node_by m s t
      is_found = is_node m s t shape range below called

      -- a line that is refused meets null, and so the run is 14
      pub refused_run : (e.refusal ≡ 0 → ⊥) → unplayed e.refusal ≡ played_from (start_by m f) f.schedule
      refused_run q =
          let met = sym only_null ∙ line_out m s t shape range below called q in
          ap unplayed (line_number m s t shape range below called q) ∙ rw (null_met met) refl

      -- one that is not meets none
      module _ (done : e.refusal ≡ 0) where
        pub fine : null_met_by m s t ≡ false
        fine = sym only_null ∙ (line_through m s t shape range below called done).0

        is_effect : e ≡ effect_by m s t
        is_effect = (line_through m s t shape range below called done).1

        -- where its row writes no node all stay as they are
        pub nodes_stay : writes_any r ≡ false → set s.nodes w.0 e.node ≡ s.nodes
        nodes_stay = unwritten m s t shape range below called is_effect

        is_remote : remote ≡ remote_in (entry_by m s t).remote
        is_remote = remote_is m s t shape range below called ∙ remote_of_lem m s t

        fits_counts : counts_in_range (plus s.counts more) ≡ true
        fits_counts = ap counts_in_range (sums m s t shape range below called) ∙ next_fits m s x.past t x.standing.going.counted few

        module _ {call : ℕ} (at : call ≡ 16 * t.0 + (e.thread.begun - 1)) where
          pub is_call : call ≡ place m s t
          is_call = at ∙ ap (λ (e : Effect). 16 * t.0 + (e.thread.begun - 1)) is_effect

          pub is_served : {their : ℕ} {applies : Bool} → applies ≡ same_event ev Applies → their ≡ cond applies (get_or given p.0 0) call → their ≡ served m s t given
          is_served q z = rw (q, is_event m s t shape range below called, at_points m s t shape range below called, is_call) at z

        running_booked : {call their : ℕ} {order' given' turns' : List ℕ} {nodes : List Node} {counts : Counts} {d mine theirs : Kept} {applies : Bool} {a : NodeId}
            → nodes ≡ set s.nodes w.0 e.node → counts ≡ wrapped (plus s.counts more) → Booked d ev applies p a ob.answer e remote call their order' given' turns' mine theirs
            → Running m f bytes (i + 1) (made s t nodes ob.object e copies counts) (set (set kept call mine) their theirs) order' given' turns'
        running_booked {d = d} {mine = mine} {theirs = theirs} {a = a} stored sum b =
            let after = entered_by_lem m s t shape range below called is_effect stored (sum ∙ fits_wrapped _ fits_counts) in
            let told = is_event m s t shape range below called in
            let at = is_call b.of_call in
            let to = is_served b.of_call b.of_applies b.of_served in
            let given_to : a ≡ assigned_by m s t = b.of_assigned ∙ assigned_so m s t in
            let Own : ℕ → Type 0 = λ number. mine ≡ after_entry (get_or kept (place m s t) d) (event_by m s t) (remote_in (entry_by m s t).remote) number in
            let own : Own (length x.past) = subst Own (sym x.numbered) (rw (told, is_remote, at) at b.of_mine) in
            let other : theirs ≡ after_serving (get_or (entered_calls m s t (length x.past) d kept) (served m s t given) d) (same_event (event_by m s t) Applies) (applied_by m s t).answer t (get_or turns t.0 0) =
            rw (b.of_applies, told, is_applied m s t shape range below called, own, at, to) at b.of_theirs in
            rw (
              after,
              other,
              own,
              to,
              rw (told, at) at b.of_order,
              rw (told, at, given_to) at b.of_given,
              rw told at b.of_turns,
              at,
            ) (running_next fine d)

-- a state with another object, other nodes and other counts
abbrev pub changed : State → Object → List Node → Counts → State
changed s ob nodes counts = record {
  method = s.method;
  n = s.n;
  h = s.h;
  kind = s.kind;
  capacity = s.capacity;
  tail = s.tail;
  threads = s.threads;
  nodes = nodes;
  requests = s.requests;
  copies = s.copies;
  object = ob;
  counts = counts;
}

-- an entry that applies puts an object in its place
abbrev with_object : State → Object → State
with_object s ob = changed s ob s.nodes s.counts

-- what the branch for it leaves: the answer and the state with what was applied, if anything was
pub record Serves (s J : State) (answer : Answer) (ob : Applied) : Type 0 where
  pub answers : answer ≡ ob.answer
  pub state : J ≡ with_object s ob.object

module _ (s J : State) (answer : Answer) (ev : Event) (req : Option Request) where
  pub serves_one : {ob : Applied} → same_event ev Applies ≡ true → ob ≡ served_by s.kind s.capacity s.object req → answer ≡ ob.answer → J ≡ with_object s ob.object
      → Serves s J answer (applied_at ev s.kind s.capacity s.object req)
  serves_one q e a j = rw (q, ← e) (record { answers = a; state = j })

  pub serves_none : same_event ev Applies ≡ false → answer ≡ Empty → J ≡ s → Serves s J answer (applied_at ev s.kind s.capacity s.object req)
  serves_none q a j = rw q (record { answers = a; state = j })

-- what the branch leaves of the calls: the one at g served, if one is; no call stands for the entry's own, at c, which stays
module _ (calls : List Kept) (d : Kept) (g c : ℕ) (answer : Answer) (t : ThreadId) (turn : ℕ) (applies : Bool) (after : List Kept) where
  abbrev pub Stored : Type 0
  Stored = after ≡ set calls (cond applies g c) (after_serving (get_or calls (cond applies g c) d) applies answer t turn)

  pub stores_one : applies ≡ true → after ≡ set calls g (after_serving (get_or calls g d) true answer t turn) → Stored
  stores_one q e = rw q e

  pub stores_none : applies ≡ false → after ≡ calls → Stored
  stores_none q e = rw q (e ∙ sym (set-get_or calls c d))

-- a node that is read, or what stands for one past the end of the array
pub read_there : (nodes : List Node) {i : ℕ} {x : Node} → x ≡ zero_node → length nodes ≤ i → x ≡ get_or nodes i zero_node
read_there nodes {i = i} e past = e ∙ sym (get_or-eq_default nodes zero_node {n = i} past)

-- a node that is stored, past the end of the array nowhere
abbrev pub with_nodes : State → List Node → State
with_nodes s nodes = changed s s.object nodes s.counts

-- what the loop holds: what it read once, and the run
pub record Looping (bytes : List ℕ) (start : State) (method : Method) (rows : List Row) (spin n h : ℕ) (kind : Kind) (capacity i : ℕ) (s : State) (kept : List Kept) (order given turns : List ℕ) : Type 0 where
  pub file : Fields
  pub fits : InRange file
  pub entries : bytes ≡ file.schedule
  pub fresh : start ≡ start_by method file
  pub table : rows ≡ map (row_by method) (up_from 0 29)
  pub waits : spin ≡ spin_line method
  pub threads : n ≡ s.n
  pub limit : h ≡ s.h
  pub object : kind ≡ s.kind
  pub room : capacity ≡ s.capacity
  pub inside : i ≤ length bytes
  pub running : Running method file bytes i s kept order given turns

-- the start of the loop
pub looping_start : {bytes : List ℕ} {rows : List Row} {spin : ℕ} {s : State} {kept : List Kept} → rows ≡ map (row_by s.method) (up_from 0 29) → spin ≡ spin_line s.method
    → kept ≡ replicate most_calls unkept → Startable bytes s
    → Looping bytes s s.method rows spin s.n s.h s.kind s.capacity 0 s kept (replicate most_calls 0) (replicate most_nodes (place_of no_call)) (replicate 16 no_turn)
looping_start {bytes = bytes} {s = s} {kept = kept} table waits fresh ready =
    let f = ready.file in
    let by : s.method ≡ f.head.method = ap (λ (s : State). s.method) ready.start in
    let start : s ≡ start_by s.method f = ready.start ∙ ap (λ (m : Method). start_by m f) (sym by) in
    let running = running_start s.method f bytes ready.fits ready.entries in
    record {
      file = f;
      fits = ready.fits;
      entries = ready.entries;
      fresh = start;
      table = table;
      waits = waits;
      threads = refl;
      limit = refl;
      object = refl;
      room = refl;
      inside = omega arith;
      running =
          subst (λ (s₀ : State). Running s.method f bytes 0 s₀ kept (replicate most_calls 0) (replicate most_nodes (place_of no_call)) (replicate 16 no_turn)) (sym start)
          (rw fresh running);
    }

module _ {bytes : List ℕ} {start : State} {method : Method} {rows : List Row} {spin n h capacity i : ℕ} {kind : Kind} {s : State} {kept : List Kept} {order given turns : List ℕ}
    (x : Looping bytes start method rows spin n h kind capacity i s kept order given turns) where
  -- the run after one more entry
  pub looping_on : {s' : State} {kept' : List Kept} {order' given' turns' : List ℕ} → s'.n ≡ s.n → s'.h ≡ s.h → s'.kind ≡ s.kind → s'.capacity ≡ s.capacity
      → i < length bytes → Running method x.file bytes (i + 1) s' kept' order' given' turns'
      → Looping bytes start method rows spin n h kind capacity (i + 1) s' kept' order' given' turns'
  looping_on same_n same_h same_kind same_capacity inside running = record {
    file = x.file;
    fits = x.fits;
    entries = x.entries;
    fresh = x.fresh;
    table = x.table;
    waits = x.waits;
    threads = x.threads ∙ sym same_n;
    limit = x.limit ∙ sym same_h;
    object = x.object ∙ sym same_kind;
    room = x.room ∙ sym same_capacity;
    inside = omega arith;
    running = running;
  }

  module _ (inside : i < length bytes) {k c remote : ℕ} {r : Row} {p w : NodeId} {xn yn : Node} {ev : Event} {ob : Applied} {e : Effect} {copies : List ℕ} {more : Counts}
      (called : Called method s (thread_id (get_or bytes i 0)) k r p xn yn ev c ob e remote copies w more) where
    -- one more entry
    pub looping_next : {call their : ℕ} {order' given' turns' : List ℕ} {nodes : List Node} {counts : Counts} {d mine theirs : Kept} {calls : List Kept} {applies : Bool} {a : NodeId} {J : State} {answer : Answer}
        → calls ≡ set (set kept call mine) their theirs → e.refusal ≡ 0 → Serves s J answer ob → nodes ≡ set s.nodes w.0 e.node → counts ≡ wrapped (plus s.counts more)
        → Booked method x.file bytes x.fits x.running inside d ev applies p a answer e remote call their order' given' turns' mine theirs
        → Looping bytes start method rows spin n h kind capacity (i + 1) (made J (thread_id (get_or bytes i 0)) nodes J.object e copies counts) calls order' given' turns'
    looping_next after done serves stored sum b =
        rw (serves.state, after)
        (looping_on refl refl refl refl inside (running_booked method x.file bytes x.fits x.running inside called done stored sum (rw serves.answers at b)))

    -- or the run is refused
    pub looping_null : (e.refusal ≡ 0 → ⊥) → unplayed e.refusal ≡ played_from start bytes
    looping_null refused = rw (x.entries, x.fresh) (refused_run method x.file bytes x.fits x.running inside called refused)

  -- the end of the loop
  pub looping_ends : length bytes ≤ i → ◌≡◌ {A = Played} (record { refusal = 0; counts = s.counts; kept = kept; order = order }) (played_from start bytes)
  looping_ends done =
      let run = x.running in
      let whole = ends_none method x.file bytes x.fits run done in
      let clear = ends_clear method x.file bytes x.fits run done in
      rw (x.entries, x.fresh, clear, ← whole, run.standing.going.counted.counts, run.tables.swaps, is_tabled (λ p. kept_of run.past (call_at p)) kept most_calls unkept run.tables.calls_long run.tables.calls) refl
