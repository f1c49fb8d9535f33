-- The invariant of requests, answers and the object of a CC-Synch run: what holds of every open call, of the answers given and of the object after every entry.
use Rattle.std.specs.Prelude.{ℕ, ◌<◌, ◌≡◌, List, length, get_or, T, Some}
use Rattle.object.specs.declared.Kind.{Kind}
use Rattle.object.specs.declared.Request.{Request}
use Rattle.object.specs.declared.Request.TheVariants.{Put}
use Rattle.object.specs.declared.Answer.{Answer}
use Rattle.object.specs.declared.Answer.TheVariants.{Empty}
use Rattle.object.specs.declared.Object.{Object}
use Rattle.object.specs.Apply.{Applied}
use Rattle.machine.specs.declared.Node.{Node}
use Rattle.cc_lines.specs.Lines.{Line, row_of}
use Rattle.step.specs.Entry.{applied_at}
use Rattle.invariant.specs.Stages.{stage_of, queued}
use Rattle.invariant.specs.Ledger.{Ledger}
use Rattle.invariant.specs.View.{View, goal}
use Rattle.invariant.specs.Serving.{open_request, Fed}

-- what thread t's line does to the object; whether it applies, its row tells
abbrev pub applied_by : Kind → ℕ → Object → View → ℕ → Line → Applied
applied_by kind capacity ob v t l = applied_at (row_of l).event kind capacity ob (v.node (goal v t l)).req

-- an open call at position i, of a thread that stands at a line, with its node x; a requests are applied
pub record CallData (jobs : List Request) (answers : List Answer) (request : Request) (i a line : ℕ) (x : Node) : Type 0 where
  -- its request is the one at its position
  pub job : get_or jobs i (Put 0) ≡ request
  -- line 6 has written it into the node
  pub asked : (line ≡ 6 → ⊥) → x.req ≡ Some request
  -- once applied, its answer is in the node
  pub replied : i < a → x.ret ≡ Some (get_or answers i Empty)

-- jobs are the requests in Swap order, answers those given so far
pub record Data (n : ℕ) (requests : ℕ → ℕ → Request) (kind : Kind) (capacity : ℕ) (v : View) (g : Ledger) (jobs : List Request) (answers : List Answer) (ob : Object) : Type 0 where
  pub swaps : length jobs ≡ g.s
  pub call : (u : ℕ) → u < n → T (queued (stage_of (v.thread u).line))
      → CallData jobs answers (open_request requests v u) (g.at u) g.a (v.thread u).line (v.node (v.thread u).cur.0)
  pub fed : Fed kind capacity jobs answers g.a ob
