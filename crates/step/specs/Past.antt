-- What lies past n, the method's last node, a thread's count or the items held, and what only the other method uses: a single step neither changes nor judges
-- it. Document 01, 'A single step judges 14 ..', and document 02, No. 6, 'In either method's state ..'.
use Rattle.std.specs.Prelude.{◌≡◌, ℕ, ◌+◌, ◌/◌, ◌^◌, ◌<◌, List, [], ◌∷◌, map, take, drop, replicate, slice_index_or}
use Rattle.machine.specs.declared.Method.{Method}
use Rattle.machine.specs.declared.Method.TheVariants.{CcSynch, DsmSynch}
use Rattle.machine.specs.declared.Thread.{Thread}
use Rattle.machine.specs.Accesses.{Location}
use Rattle.machine.specs.Methods.{last_node}
use Rattle.machine.specs.Sizes.{locations_of, most_locations}
use Rattle.copies.specs.Remote.{place, has_copy_of}
use Rattle.state.specs.declared.State.{State}
use Rattle.state.specs.Range.{row_of_thread}
use Rattle.step.specs.Entry.{zero_node_id, zero_thread}

-- of each location the copies that threads from n on have
abbrev pub copies_from : ℕ → List ℕ → List ℕ
copies_from n copies = map (λ word. word / 2 ^ n) copies

-- CC-Synch keeps the copies of threads from n on, and those of nodes past n; DSM-Synch all
abbrev pub CopiesKept : Method → ℕ → List ℕ → List ℕ → Type 0
CopiesKept CcSynch n copies copies' = (copies_from n copies' ≡ copies_from n copies) × (drop (locations_of (n + 1)) copies' ≡ drop (locations_of (n + 1)) copies)
CopiesKept DsmSynch n copies copies' = copies' ≡ copies

-- the variables of a thread that only the other method uses
abbrev pub of_the_other : Method → Thread → List ℕ
of_the_other CcSynch th = th.toggle ∷ th.my.0 ∷ th.pred.0 ∷ []
of_the_other DsmSynch th = th.own.0 ∷ th.cur.0 ∷ th.tmpnext.0 ∷ []

-- not changed: all that lies past these limits, and what only the other method uses, is in the second state as it is in the first
pub record PastKept (m : Method) (s s' : State) : Type 0 where
  -- threads are 0 to n − 1, nodes 0 to the method's last
  pub threads : drop s.n s'.threads ≡ drop s.n s.threads
  pub nodes : drop (last_node m s.n + 1) s'.nodes ≡ drop (last_node m s.n + 1) s.nodes
  -- a step changes no request, so none past a thread's count
  pub requests : s'.requests ≡ s.requests
  pub copies : CopiesKept m s.n s.copies s'.copies
  -- the items past those held after the step: a put writes the first place past those held before it, which it then holds
  pub items : drop s'.object.held s'.object.items ≡ drop s'.object.held s.object.items
  pub others : map (of_the_other m) s'.threads ≡ map (of_the_other m) s.threads

-- each thread below n has a valid copy in both or in neither, of Tail and of the method's nodes
abbrev pub SameCopies : Method → ℕ → List ℕ → List ℕ → Type 0
SameCopies m n copies copies' =
    (t : ℕ) → t < n → (l : Location) → place l < locations_of (last_node m n + 1) → has_copy_of copies t l ≡ has_copy_of copies' t l

-- two states that agree within these limits differ at most past them
pub record AgreeWithin (m : Method) (s s' : State) : Type 0 where
  pub n : s.n ≡ s'.n
  pub h : s.h ≡ s'.h
  pub kind : s.kind ≡ s'.kind
  pub capacity : s.capacity ≡ s'.capacity
  pub tail : s.tail ≡ s'.tail
  pub threads : take s.n s.threads ≡ take s.n s'.threads
  pub nodes : take (last_node m s.n + 1) s.nodes ≡ take (last_node m s.n + 1) s'.nodes
  -- the requests that the thread's count uses
  pub requests : (i : ℕ) → i < s.n
      → row_of_thread s.requests i (slice_index_or s.threads i zero_thread).count ≡ row_of_thread s'.requests i (slice_index_or s.threads i zero_thread).count
  pub copies : SameCopies m s.n s.copies s'.copies
  pub held : s.object.held ≡ s'.object.held
  pub items : take s.object.held s.object.items ≡ take s.object.held s'.object.items
  pub sum : s.object.sum ≡ s'.object.sum
  pub counts : s.counts ≡ s'.counts

-- a thread and a state without what only the other method uses: DSM-Synch uses no copies
abbrev pub used_thread : Method → Thread → Thread
used_thread CcSynch th = record {
  count = th.count;
  begun = th.begun;
  line = th.line;
  own = th.own;
  cur = th.cur;
  tmp = th.tmp;
  tmpnext = th.tmpnext;
  served = th.served;
  toggle = 0;
  my = zero_node_id;
  pred = zero_node_id;
}
used_thread DsmSynch th = record {
  count = th.count;
  begun = th.begun;
  line = th.line;
  own = zero_node_id;
  cur = zero_node_id;
  tmp = th.tmp;
  tmpnext = zero_node_id;
  served = th.served;
  toggle = th.toggle;
  my = th.my;
  pred = th.pred;
}

abbrev pub used_copies : Method → List ℕ → List ℕ
used_copies CcSynch copies = copies
used_copies DsmSynch copies = replicate most_locations 0

abbrev pub used_state : Method → State → State
used_state m s = record {
  method = s.method;
  n = s.n;
  h = s.h;
  kind = s.kind;
  capacity = s.capacity;
  tail = s.tail;
  threads = map (used_thread m) s.threads;
  nodes = s.nodes;
  requests = s.requests;
  copies = used_copies m s.copies;
  object = s.object;
  counts = s.counts;
}

-- not judged: two states agree that differ at most past these limits and in what only the other method uses
abbrev pub Agree : Method → State → State → Type 0
Agree m s s' = AgreeWithin m (used_state m s) (used_state m s')
