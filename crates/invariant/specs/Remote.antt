-- Remote references by stage: how many the open call of a thread of CC-Synch has made at most, with those that it would make at the nodes at hand.
use Rattle.std.specs.Prelude.{ℕ, ◌+◌, ◌-◌, ◌≤◌, ◌<◌, Bool, true, false, cond, List, T, ltb, eqb}
use Rattle.machine.specs.declared.Thread.{Thread}
use Rattle.machine.specs.Accesses.{Location, whole}
use Rattle.copies.specs.Remote.{has_copy_of}
use Rattle.step.specs.Entry.{one_if}
use Rattle.invariant.specs.Stages.{Stage, Combine, c13, c14, c15, c16, c17, c18, c20, out, wait, combine, l19, l21, dummy, stage_of}
use Rattle.invariant.specs.Ledger.{Ledger}
use Rattle.invariant.specs.View.{View}
use Rattle.invariant.specs.Control.{holding, out_row, combine_row}

-- the location of the node of a number, and what its next access would cost thread u: 1 without a valid copy of it
abbrev pub whole_of : ℕ → Location
whole_of m = whole (record { 0 = m })

abbrev pub fetch : List ℕ → ℕ → ℕ → ℕ
fetch copies u m = cond (has_copy_of copies u (whole_of m)) 0 1

-- how often at most other threads have written the node of position i while its thread waits: once at each of lines 16, 17 and 18, which serve it, or at
-- line 20, which gives it the turn
abbrev pub written : Ledger → ℕ → ℕ
written g i = one_if (ltb i g.a) + one_if (ltb i g.d) + one_if (ltb i g.r) + one_if (eqb i g.b)

-- how far the nodes that a thread has come to in its turn, besides its own, are behind the served counter: by one, since its own call is the first that it
-- serves, but not at 14, before the counter grows, and at 20, where it has come to one more
abbrev pub behind : Combine → ℕ
behind c13 = 1
behind c14 = 0
behind c15 = 1
behind c16 = 1
behind c17 = 1
behind c18 = 1
behind c20 = 0

-- the most at a stage, of a thread at position i that has served so many: its own node before Swap; Swap, curNode and a fetch of it after each write by another;
-- in the turn one fetch for each node come to, and one more at line 20
abbrev pub limit : Stage → Ledger → ℕ → ℕ → ℕ
limit (out o) g i served = 1
limit (wait w) g i served = 3 + written g i
limit (combine c) g i served = 4 + (served - behind c)
limit l19 g i served = 4 + (served - 1)
limit l21 g i served = 5 + served
limit dummy g i served = 0

-- the stages with an open call
abbrev pub call_open : Stage → Bool
call_open (out o) = (out_row o).begun
call_open (wait w) = true
call_open (combine c) = true
call_open l19 = true
call_open l21 = true
call_open dummy = false

-- and those in which tmpNode's next is known to be written (14 to 18)
abbrev pub linked_tmp : Stage → Bool
linked_tmp (out o) = false
linked_tmp (wait w) = false
linked_tmp (combine c) = (combine_row c).linked
linked_tmp l19 = false
linked_tmp l21 = false
linked_tmp dummy = false

-- what a thread would pay for the nodes at hand: the one that it holds, and tmpNode while its next is known to be written
abbrev pub owed : Stage → List ℕ → ℕ → Thread → ℕ
owed s copies u th = fetch copies u (holding s th) + cond (linked_tmp s) (fetch copies u th.tmp.0) 0

-- thread u at a stage: what its call has cost, with what it owes. An access of a node by the thread never raises this sum, since a remote one pays 1 and gets the
-- copy; another's write raises it by 1 at most, and exactly these writes raise `written`
abbrev pub Spent : Stage → Ledger → List ℕ → ℕ → Thread → ℕ → Type 0
Spent s g copies u th cost = T (call_open s) → cost + owed s copies u th ≤ limit s g (g.at u) th.served

-- cost u counts the remote references of thread u's open call
pub record Remote (n : ℕ) (v : View) (g : Ledger) (copies : List ℕ) (cost : ℕ → ℕ) : Type 0 where
  pub spent : (u : ℕ) → u < n → Spent (stage_of (v.thread u).line) g copies u (v.thread u) (cost u)
