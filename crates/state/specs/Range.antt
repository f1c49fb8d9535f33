-- The ranges of a state, number by number: document 01, 'A single step judges 14 ..', and document 02, No. 3 and, by the method, No. 6. What lies past n, the
-- method's last node, a thread's count or the items held, and what only the other method uses, is not judged.
use Rattle.std.specs.Prelude.{ℕ, ◌+◌, ◌*◌, ◌^◌, Bool, true, false, ◌&&◌, ◌||◌, List, [], ◌∷◌, take, drop, leb, ltb, eqb, Option, Some, None}
use Rattle.object.specs.declared.Request.{Request}
use Rattle.object.specs.declared.Answer.{Answer}
use Rattle.object.specs.declared.Kind.{Kind}
use Rattle.object.specs.Each.{every}
use Rattle.object.specs.Paper.{within, answer_in_range}
use Rattle.object.specs.Apply.{held_in_range, knows}
use Rattle.machine.specs.declared.Method.{Method}
use Rattle.machine.specs.declared.Method.TheVariants.{CcSynch, DsmSynch}
use Rattle.machine.specs.declared.NodeId.{NodeId}
use Rattle.machine.specs.declared.Node.{Node}
use Rattle.machine.specs.declared.Thread.{Thread}
use Rattle.machine.specs.Fields.{is_null}
use Rattle.machine.specs.Methods.{last_line, last_node, tail_nullable}
use Rattle.state.specs.declared.Counts.{Counts}
use Rattle.state.specs.declared.State.{State}

-- a node, up to the last, or null where that is allowed
abbrev pub pointer_in_range : ℕ → Bool → NodeId → Bool
pointer_in_range last nullable m = leb m.0 last || is_null m && nullable

-- line 0 (idle) or 2 to the last printed, the line to run next
abbrev pub line_in_range : ℕ → ℕ → Bool
line_in_range last line = eqb line 0 || within 2 line last

-- a thread's count as in the file, 0 to 16; requests begun 0 to the count, at least 1 if not idle
abbrev pub requests_in_range : Thread → Bool
requests_in_range th = leb th.count 16 && leb th.begun th.count && (eqb th.line 0 || leb 1 th.begun)

-- CC-Synch: the thread's own node is never null, curNode only before line 6, tmpNode only before line 13 or at line 21
abbrev pub cc_pointers_in_range : ℕ → Thread → Bool
cc_pointers_in_range last th =
    pointer_in_range last false th.own
    && pointer_in_range last (ltb th.line 6) th.cur
    && pointer_in_range last (ltb th.line 13 || eqb th.line 21) th.tmp
    && pointer_in_range last true th.tmpnext

-- DSM-Synch: "a toggle 0 or 1"; myNode may be null before line 3, myPredNode at any line, tmpNode before line 14
abbrev pub dsm_pointers_in_range : ℕ → Thread → Bool
dsm_pointers_in_range last th =
    leb th.toggle 1
    && pointer_in_range last (ltb th.line 3) th.my
    && pointer_in_range last true th.pred
    && pointer_in_range last (ltb th.line 14) th.tmp

abbrev pub pointers_in_range : Method → ℕ → Thread → Bool
pointers_in_range CcSynch last th = cc_pointers_in_range last th
pointers_in_range DsmSynch last th = dsm_pointers_in_range last th

-- the served counter is 0 to h
abbrev pub thread_in_range : Method → ℕ → ℕ → Thread → Bool
thread_in_range m last h th = requests_in_range th && line_in_range (last_line m) th.line && pointers_in_range m last th && leb th.served h

-- req is empty, or a request that the object knows
abbrev pub req_in_range : Kind → Option Request → Bool
req_in_range kind None = true
req_in_range kind (Some request) = knows kind request

-- ret is empty, or an answer in range for the capacity; the counter's is 0, so that no done is in range there
abbrev pub ret_in_range : ℕ → Option Answer → Bool
ret_in_range capacity None = true
ret_in_range capacity (Some answer) = answer_in_range capacity answer

abbrev pub node_in_range : Kind → ℕ → ℕ → Node → Bool
node_in_range kind capacity last x = req_in_range kind x.req && ret_in_range capacity x.ret && pointer_in_range last true x.next

-- the requests of thread i: a row of 16 places each, as many as its count are used
abbrev pub row_of_thread : List Request → ℕ → ℕ → List Request
row_of_thread requests i count = take count (drop (16 * i) requests)

-- the rows of threads, the first of them thread i
abbrev pub rows_in_range : Kind → List Request → ℕ → List Thread → Bool
rows_in_range kind requests i [] = true
rows_in_range kind requests i (th ∷ ths) =
    every (knows kind) (row_of_thread requests i th.count) && rows_in_range kind requests (i + 1) ths

-- n, h and capacity as in the file, the items held 0 to the capacity. Any object is one of the file's, and its values and sum may be any
abbrev pub head_in_range : State → Bool
head_in_range s = within 1 s.n 16 && within 1 s.h 255 && held_in_range s.kind s.capacity s.object.held

-- a count has 32 bits
abbrev pub counts_in_range : Counts → Bool
counts_in_range c =
    ltb c.records (2 ^ 32)
    && ltb c.turns (2 ^ 32)
    && ltb c.blanks (2 ^ 32)
    && ltb c.spins (2 ^ 32)
    && ltb c.remote (2 ^ 32)

-- a state is in range if each number that its method uses is
abbrev pub in_range_by : Method → State → Bool
in_range_by m s =
    head_in_range s
    && pointer_in_range (last_node m s.n) (tail_nullable m) s.tail
    && every (thread_in_range m (last_node m s.n) s.h) (take s.n s.threads)
    && every (node_in_range s.kind s.capacity (last_node m s.n)) (take (last_node m s.n + 1) s.nodes)
    && rows_in_range s.kind s.requests 0 (take s.n s.threads)
    && counts_in_range s.counts

abbrev pub in_range : State → Bool
in_range s = in_range_by s.method s
