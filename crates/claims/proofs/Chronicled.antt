-- What a method keeps of a state of a file's run and its entries, as the claim needs it: a chronicle, the plain object's answers, that its threads are the
-- state's, which accesses are remote, and what returned calls have cost. A definition alone.
use Prim.Native.Nat.{ℕ, ◌<◌}
use mathlib.Core.Path.{◌≡◌}
use mathlib.Core.Bool.{Bool, true, false}
use mathlib.Core.List.{List}
use Rattle.object.specs.declared.Answer.{Answer}
use Rattle.bench_file.specs.Layout.{Fields}
use Rattle.machine.specs.declared.Method.{Method}
use Rattle.state.specs.declared.State.{State}
use Rattle.invariant.specs.View.{view_of}
use Rattle.invariant.specs.Serving.{Fed}
use Rattle.history.specs.Entries.{Entry}
use Rattle.history.specs.Copies.{RemoteAsSaid}
use Rattle.history.specs.Terms.{Call, combined}
use Rattle.history.specs.Method.{Positions, idle}
use Rattle.history.specs.History.{Settled}
use Rattle.claims.specs.Claims.{CostByAnother, CostCombining}
use Rattle.claims.proofs.Seen.{seen_by}
use Rattle.claims.proofs.Chronicle.{jobs_of, Chronicle}

module _ (Paid : Bool → ℕ → ℕ → Type 0) where
  pub record Chronicled (m : Method) (f : Fields) (s : State) (past : List Entry) : Type 0 where
    -- the phase of a thread by the line that it runs next
    pub phase : ℕ → ℕ
    pub positions : Positions
    pub cost : ℕ → ℕ
    pub answers : List Answer
    pub chronicle : Chronicle Paid f (seen_by phase (view_of s)) positions cost answers past
    -- the answers given are the plain object's, fed the requests applied
    pub fed : Fed f.head.object f.head.capacity (jobs_of f past) answers positions.a s.object
    pub said : RemoteAsSaid m past
    -- a thread is seen idle exactly if no line is its next
    pub idle_line : (u : ℕ) → u < f.head.n → phase ((view_of s).thread u).line ≡ idle → ((view_of s).thread u).line ≡ 0
    pub idle_phase : phase 0 ≡ idle
    -- the method's bounds give what is claimed of a returned call
    pub by_another : (c : Call) → Settled Paid f.head.n (seen_by phase (view_of s)) positions past c → combined c past ≡ false → CostByAnother m past c
    pub combining : (c : Call) → Settled Paid f.head.n (seen_by phase (view_of s)) positions past c → combined c past ≡ true → CostCombining m past c
