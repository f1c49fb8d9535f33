-- What EachLine.antt says of the lines of Algorithm 1 and DsmEachLine.antt of those of Algorithm 2, by the method. Assumes what the laws' premises say.
use Rattle.std.proofs.Common.{◌≡◌, ℕ, ◌<◌, ◌≤◌, true, arith}
use Rattle.object.specs.declared.Kind.{Kind}
use Rattle.object.specs.declared.Request.{Request}
use Rattle.object.specs.declared.Answer.{Answer}
use Rattle.object.specs.Paper.{answer_in_range}
use Rattle.object.specs.Apply.{knows}
use Rattle.machine.specs.declared.Method.{Method}
use Rattle.machine.specs.declared.Method.TheVariants.{CcSynch, DsmSynch}
use Rattle.machine.specs.declared.NodeId.{NodeId}
use Rattle.machine.specs.declared.Node.{Node}
use Rattle.machine.specs.declared.Thread.{Thread}
use Rattle.machine.specs.Lines.{stands_at}
use Rattle.machine.specs.Methods.{last_line, last_node, tail_nullable}
use Rattle.state.proofs.RangeFacts.{NodeOrNull, there, Points, ThreadFits, NodeFits, nodes_held}
use Rattle.step.specs.ByMethod.{line_points, line_writes, line_done, line_misses, line_out}
use Rattle.step.proofs.Leaving.{Leaves}
use Rattle.step.proofs.EachLine as cc
use Rattle.step.proofs.DsmEachLine as dsm

pub some_line : (m : Method) → 1 ≤ last_line m
some_line CcSynch = omega arith
some_line DsmSynch = omega arith

-- the node that line k points to, and the one that it writes, is in use or null
pub points : (m : Method) (n h : ℕ) (th : Thread) (k : ℕ) → k ≤ last_line m → ThreadFits m (last_node m n) h th (stands_at k)
    → NodeOrNull (last_node m n) (line_points m th k).0
points CcSynch n h th k b f = there (cc.target_at n h th k b f)
points DsmSynch n h th k b f = dsm.points_at (last_node DsmSynch n) h th k b f

pub writes : (m : Method) (n h : ℕ) (th : Thread) (x : Node) (k : ℕ) → k ≤ last_line m → ThreadFits m (last_node m n) h th (stands_at k)
    → NodeOrNull (last_node m n) x.next.0 → NodeOrNull (last_node m n) (line_writes m th x k).0
writes CcSynch n h th x k b f next = points CcSynch n h th k b f
writes DsmSynch n h th x k b f next = dsm.writes_at (last_node DsmSynch n) h th k b f x next

-- what the line leaves: thread t below n, th; x, the node that it points to, y, the node behind x
pub leaves_by : (m : Method) (n h : ℕ) (kind : Kind) (capacity t : ℕ) (th : Thread) (x y : Node) (tail : NodeId) (request : Request) (answer : Answer)
    → n ≤ 16 → t < n → Points (last_node m n) (tail_nullable m) tail → NodeFits kind capacity (last_node m n) x → NodeFits kind capacity (last_node m n) y
    → ThreadFits m (last_node m n) h th th.line → (0 < th.begun → knows kind request ≡ true) → answer_in_range capacity answer ≡ true
    → (k : ℕ) → k ≤ last_line m → ThreadFits m (last_node m n) h th (stands_at k) → (k ≡ 1 → th.begun < th.count)
    → Leaves m (last_node m n) h kind capacity th (line_misses m th x k) (line_out m th x h k) (line_done m t th x y tail h request answer k)
leaves_by CcSynch n h kind capacity t th x y tail request answer small below tail_fits x_fits y_fits now known answer_fits =
    cc.leaves_at n h kind capacity th x tail request answer small tail_fits x_fits now known answer_fits
leaves_by DsmSynch n h kind capacity t th x y tail request answer small below tail_fits x_fits y_fits now known answer_fits =
    dsm.leaves_at (last_node DsmSynch n) h kind capacity t th x y tail request answer (nodes_held DsmSynch n (omega arith) small) (λ place one. omega arith)
    tail_fits x_fits y_fits now known answer_fits
