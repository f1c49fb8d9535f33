-- What the range tests of a pointer, a thread, a node, the counts and a state say, as facts, by either method. Assumes nothing.
use Prim.Native.Nat.{ℕ, zero, suc, ◌+◌, ◌^◌, ◌≤◌, ◌<◌}
use native.Mathlib.Omega.{arith}
use native.Mathlib.Decide.{dec_le}
use mathlib.Core.Path.{◌≡◌, refl}
use mathlib.Core.Logic.{◌↔◌}
use mathlib.Core.Bool.{Bool, true, false, ◌&&◌, ◌||◌, or-true, or-false, and-true, and-false, and-eq-true_iff}
use lib.Dec.{leb, ltb, eqb, eqb-suc-zero}
use lib.ListN.{take}
use borrow.Author.Tests.{leb-true, ltb-true, le-leb, lt-ltb, lt-leb, eqb-true, eqb-false, eq-eqb}
use Rattle.object.specs.declared.Kind.{Kind}
use Rattle.object.specs.Paper.{within}
use Rattle.object.specs.Apply.{held_in_range}
use Rattle.object.specs.Each.{every}
use Rattle.machine.specs.declared.Method.{Method}
use Rattle.machine.specs.declared.Method.TheVariants.{CcSynch, DsmSynch}
use Rattle.machine.specs.declared.NodeId.{NodeId}
use Rattle.machine.specs.declared.Node.{Node}
use Rattle.machine.specs.declared.Thread.{Thread}
use Rattle.machine.specs.Methods.{last_line, last_node, tail_nullable}
use Rattle.machine.specs.Sizes.{most_nodes}
use Rattle.state.specs.declared.Counts.{Counts}
use Rattle.state.specs.declared.State.{State}
use Rattle.state.specs.Range.{pointer_in_range, line_in_range, pointers_in_range, thread_in_range, req_in_range, ret_in_range, node_in_range, rows_in_range, counts_in_range, in_range_by}

-- a node, or null
pub data NodeOrNull (n m : ℕ) : Type 0 where
  there : m ≤ n → NodeOrNull n m
  nowhere : m ≡ 255 → NodeOrNull n m

pub not_null : {n m : ℕ} → NodeOrNull n m → eqb m 255 ≡ false → m ≤ n
not_null (there h) e = h
not_null {m} (nowhere q) e = absurd (eqb-false m 255 e q)

-- what a pointer's range says: null counts where that is allowed
abbrev pub Points : ℕ → Bool → NodeId → Type 0
Points n true m = NodeOrNull n m.0
Points n false m = m.0 ≤ n

-- a thread that isn't idle has begun a request
abbrev pub Begun : ℕ → ℕ → Type 0
Begun zero begun = Unit
Begun (suc line) begun = 0 < begun

-- the facts of a thread's variables at a line
pub record CcPointers (last : ℕ) (th : Thread) (line : ℕ) : Type 0 where
  pub own : th.own.0 ≤ last
  pub cur : Points last (ltb line 6) th.cur
  pub tmp : Points last (ltb line 13 || eqb line 21) th.tmp
  pub tmpnext : NodeOrNull last th.tmpnext.0

pub record DsmPointers (last : ℕ) (th : Thread) (line : ℕ) : Type 0 where
  pub toggle : th.toggle ≤ 1
  pub my : Points last (ltb line 3) th.my
  pub pred : NodeOrNull last th.pred.0
  pub tmp : Points last (ltb line 14) th.tmp

abbrev pub PointersFit : Method → ℕ → Thread → ℕ → Type 0
PointersFit CcSynch last th line = CcPointers last th line
PointersFit DsmSynch last th line = DsmPointers last th line

-- the facts of a thread at a line
pub record ThreadFits (m : Method) (last h : ℕ) (th : Thread) (line : ℕ) : Type 0 where
  pub few : th.count ≤ 16
  pub counted : th.begun ≤ th.count
  pub begun : Begun line th.begun
  pub a_line : line_in_range (last_line m) line ≡ true
  pub pointers : PointersFit m last th line
  pub served : th.served ≤ h

pub leb_iff : (a b : ℕ) → (leb a b ≡ true) ↔ (a ≤ b)
leb_iff a b = (leb-true a b, le-leb a b)

begun_iff : (line begun : ℕ) → ((eqb line 0 || leb 1 begun) ≡ true) ↔ Begun line begun
begun_iff zero begun = (λ e. tt, λ f. refl)
begun_iff (suc line) begun = rw eqb-suc-zero (leb_iff 1 begun)

node_or_null : (n m : ℕ) → ((leb m n || eqb m 255) ≡ true) ↔ NodeOrNull n m
node_or_null n m = (to, from)
  where
    to : (leb m n || eqb m 255) ≡ true → NodeOrNull n m
    to e =
        elim (dec_le m n) [
          | yes h ↦ there h
          | no h ↦ nowhere (eqb-true m 255 (rw (lt-leb m n (omega arith)) at e))
        ]

    from : NodeOrNull n m → (leb m n || eqb m 255) ≡ true
    from (there h) = rw (le-leb m n h)
    from (nowhere e) = rw (eq-eqb m 255 e) (or-true (leb m n))

pub points_iff : (n : ℕ) (nullable : Bool) (m : NodeId) → (pointer_in_range n nullable m ≡ true) ↔ Points n nullable m
points_iff n true m = simp and-true (node_or_null n m.0)
points_iff n false m = simp (and-false, or-false) (leb_iff m.0 n)

ltb_iff : (a b : ℕ) → (ltb a b ≡ true) ↔ (a < b)
ltb_iff a b = (ltb-true a b, lt-ltb a b)

-- what takes a range test to its facts
ruleset range_facts = (and-eq-true_iff, leb_iff, ltb_iff, begun_iff, points_iff)

-- a count has 32 bits
pub record CountsFit (c : Counts) : Type 0 where
  pub records : c.records < 2 ^ 32
  pub turns : c.turns < 2 ^ 32
  pub blanks : c.blanks < 2 ^ 32
  pub spins : c.spins < 2 ^ 32
  pub remote : c.remote < 2 ^ 32

pub counts_iff : (c : Counts) → (counts_in_range c ≡ true) ↔ CountsFit c
counts_iff c = (to, λ f. simp range_facts (search f))
  where
    to : counts_in_range c ≡ true → CountsFit c
    to e = let p = simp range_facts at e in search p

pub pointers_iff : (m : Method) (last : ℕ) (th : Thread) → (pointers_in_range m last th ≡ true) ↔ PointersFit m last th th.line
pointers_iff CcSynch last th = (to, λ f. simp range_facts (search f))
  where
    to : pointers_in_range CcSynch last th ≡ true → CcPointers last th th.line
    to e = let p = simp range_facts at e in search p
pointers_iff DsmSynch last th = (to, λ f. simp range_facts (search f))
  where
    to : pointers_in_range DsmSynch last th ≡ true → DsmPointers last th th.line
    to e = let p = simp range_facts at e in search p

pub thread_iff : (m : Method) (last h : ℕ) (th : Thread) → (thread_in_range m last h th ≡ true) ↔ ThreadFits m last h th th.line
thread_iff m last h th = (to, λ f. simp (range_facts, pointers_iff) (search f depth 9))
  where
    to : thread_in_range m last h th ≡ true → ThreadFits m last h th th.line
    to e = let p = simp (range_facts, pointers_iff) at e in search p

-- the facts of a node
pub record NodeFits (kind : Kind) (capacity n : ℕ) (x : Node) : Type 0 where
  pub req : req_in_range kind x.req ≡ true
  pub ret : ret_in_range capacity x.ret ≡ true
  pub next : NodeOrNull n x.next.0

pub node_iff : (kind : Kind) (capacity n : ℕ) (x : Node) → (node_in_range kind capacity n x ≡ true) ↔ NodeFits kind capacity n x
node_iff kind capacity n x = (to, λ f. simp range_facts (search f))
  where
    to : node_in_range kind capacity n x ≡ true → NodeFits kind capacity n x
    to e = let p = simp range_facts at e in search p

-- there is room for the nodes of 1 to 16 threads
pub nodes_held : (m : Method) (n : ℕ) → 0 < n → n ≤ 16 → last_node m n < most_nodes
nodes_held CcSynch n some few = omega arith
nodes_held DsmSynch n some few = omega arith

-- the facts of a state
pub record StateFits (m : Method) (s : State) : Type 0 where
  pub some : 0 < s.n
  pub small : s.n ≤ 16
  pub limits : (within 1 s.n 16 && within 1 s.h 255) ≡ true
  pub held : held_in_range s.kind s.capacity s.object.held ≡ true
  pub tail : Points (last_node m s.n) (tail_nullable m) s.tail
  pub threads : every (thread_in_range m (last_node m s.n) s.h) (take s.n s.threads) ≡ true
  pub nodes : every (node_in_range s.kind s.capacity (last_node m s.n)) (take (last_node m s.n + 1) s.nodes) ≡ true
  pub rows : rows_in_range s.kind s.requests 0 (take s.n s.threads) ≡ true

pub state_fits : (m : Method) (s : State) → in_range_by m s ≡ true → StateFits m s
state_fits m s e =
    let p = simp range_facts at e in
    record {
      some = search p;
      small = search p;
      limits = simp range_facts (search p);
      held = simp range_facts (search p);
      tail = search p;
      threads = search p;
      nodes = search p;
      rows = search p;
    }

-- the nodes in use are held
pub nodes_there : (m : Method) (s : State) → StateFits m s → last_node m s.n < most_nodes
nodes_there m s facts = nodes_held m s.n facts.some facts.small
