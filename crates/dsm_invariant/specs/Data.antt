-- The invariant of requests, answers and the object of a DSM-Synch run: what holds of every call, of the answers given and of the object after every entry.
use Rattle.std.specs.Prelude.{ℕ, ◌<◌, ◌≡◌, Bool, true, false, List, length, get_or, T, Some}
use Rattle.object.specs.declared.Kind.{Kind}
use Rattle.object.specs.declared.Request.{Request}
use Rattle.object.specs.declared.Request.TheVariants.{Put}
use Rattle.object.specs.declared.Answer.{Answer}
use Rattle.object.specs.declared.Answer.TheVariants.{Empty}
use Rattle.object.specs.declared.Object.{Object}
use Rattle.object.specs.Apply.{Applied, knows}
use Rattle.machine.specs.declared.Node.{Node}
use Rattle.dsm_lines.specs.Lines.{Line}
use Rattle.step.specs.Entry.{applied_at}
use Rattle.invariant.specs.View.{View}
use Rattle.invariant.specs.Serving.{open_request, Fed, ObjectFits}
use Rattle.dsm_invariant.specs.Stages.{Stage, out, wait, combine, leave, nowhere, stage_of, queued}
use Rattle.dsm_invariant.specs.Ledger.{Ledger}
use Rattle.dsm_invariant.specs.View.{first, event_at}
use Rattle.dsm_invariant.specs.Control.{out_row, asked}

-- what thread t's line does to the object
abbrev pub applied_by : View → ℕ → Line → Kind → ℕ → Object → Applied
applied_by v t l kind capacity ob = applied_at (event_at v t l) kind capacity ob (first v t l).req

-- a call has begun and has not returned
abbrev pub calling : Stage → Bool
calling (out o) = (out_row o).begun
calling (wait w) = true
calling (combine c) = true
calling (leave v) = true
calling nowhere = false

-- the call of a thread at a stage, with its node x; its position is i, and a requests are applied
pub record CallData (kind : Kind) (jobs : List Request) (answers : List Answer) (request : Request) (i a : ℕ) (s : Stage) (x : Node) : Type 0 where
  -- its request is one that the object knows
  pub known : T (calling s) → knows kind request ≡ true
  -- line 6 has written it into the node
  pub asked : T (asked s) → x.req ≡ Some request
  -- from Swap on it is the one at its position
  pub job : T (queued s) → get_or jobs i (Put 0) ≡ request
  -- once applied, its answer is in the node
  pub replied : T (queued s) → i < a → x.ret ≡ Some (get_or answers i Empty)

-- jobs are the requests in Swap order, answers those given so far
pub record Data (n : ℕ) (requests : ℕ → ℕ → Request) (kind : Kind) (capacity : ℕ) (v : View) (g : Ledger) (jobs : List Request) (answers : List Answer) (ob : Object) : Type 0 where
  pub swaps : length jobs ≡ g.s
  pub call : (u : ℕ) → u < n
      → CallData kind jobs answers (open_request requests v u) (g.at u) g.a (stage_of (v.thread u).line) (v.node (v.thread u).my.0)
  pub fed : Fed kind capacity jobs answers g.a ob
  pub fits : ObjectFits kind capacity ob
