-- Remote references of open calls, by the owners of nodes: a call that another serves makes exactly two, its Swap and its write to the predecessor's next.
use Rattle.std.specs.Prelude.{ℕ, ◌+◌, ◌≤◌, ◌<◌, ◌≡◌, List, ltb}
use Rattle.machine.specs.declared.Method.TheVariants.{DsmSynch}
use Rattle.machine.specs.Owners.{owner_of}
use Rattle.dsm_lines.specs.Lines.{Line, accesses}
use Rattle.copies.specs.Remote.{referred_by}
use Rattle.step.specs.Entry.{one_if}
use Rattle.invariant.specs.View.{View}
use Rattle.dsm_invariant.specs.View.{first}

-- how many of thread t's line are remote; of DSM-Synch the copies tell nothing
abbrev pub remote_at : ℕ → View → ℕ → List ℕ → Line → ℕ
remote_at n v t copies l = (referred_by DsmSynch n t copies (accesses (v.thread t) (first v t l) l)).remote

-- what a call has made whose thread's next line is k, from 2 to 12: line 7 makes one, and line 9
abbrev pub price : ℕ → ℕ
price k = one_if (ltb 7 k) + one_if (ltb 9 k)

-- cost u counts the remote references of thread u's open call
pub record Cost (n : ℕ) (v : View) (cost : ℕ → ℕ) : Type 0 where
  pub spent : (u : ℕ) → u < n → 2 ≤ (v.thread u).line → (v.thread u).line ≤ 12 → cost u ≡ price (v.thread u).line
  -- the predecessor that a Swap gave is another thread's
  pub foreign : (u : ℕ) → u < n → 8 ≤ (v.thread u).line → (v.thread u).line ≤ 9 → owner_of (v.thread u).pred ≡ u → ⊥
