-- That the bounds of request No. 5 are the least, for k from 1 to 15: what it is to bound the cost of calls, and files whose runs reach the bounds.
use Rattle.std.specs.Prelude.{ℕ, zero, suc, ◌+◌, ◌≤◌, ◌≡◌, Bool, true, false, not, List, [], ◌∷◌, ◌++◌, replicate, ltb, eqb}
use Rattle.object.specs.declared.Kind.TheVariants.{Counter}
use Rattle.object.specs.declared.Request.TheVariants.{Add}
use Rattle.object.specs.Each.{Each, every}
use Rattle.bench_file.specs.Bytes.{Byte}
use Rattle.bench_file.specs.Layout.{Fields, Judgement, accepted, refused_by, judge_of}
use Rattle.machine.specs.declared.Method.TheVariants.{CcSynch}
use Rattle.machine.specs.Methods.{method_number}
use Rattle.history.specs.Entries.{Entry, thread_id}
use Rattle.history.specs.Terms.{Call, turn_of_call, servings, served_in, cost_of, returned, combined, shown_of}
use Rattle.claims.specs.Entries.{history_of}
use Rattle.claims.specs.Claims.{most_by_another, most_combining}
use Rattle.claims.specs.Marked.{file_of}

-- what became of a call: whether it has returned, whether its server is another thread, whether it combined, how many its turn has served, 0 without one, and
-- its remote references
pub record Became : Type 0 where
  pub returned : Bool
  pub by_another : Bool
  pub combined : Bool
  pub in_turn : ℕ
  pub cost : ℕ

abbrev pub became_of : List Entry → Call → Became
became_of history c = record {
  returned = returned c history;
  by_another = not (eqb (shown_of c (servings history)).server.0 c.thread.0);
  combined = combined c history;
  in_turn = served_in (turn_of_call c history) history;
  cost = cost_of c history;
}

-- by a file's judgement; a refused file has no call
abbrev pub became_by : Judgement → Call → Became
became_by (accepted f) c = became_of (history_of f) c
became_by (refused_by number) c = record { returned = false; by_another = false; combined = false; in_turn = 0; cost = 0 }

-- the two premises: it has returned, and another thread served it, or it combined and served k
pub record ByAnother (w : Became) : Type 0 where
  pub returned : w.returned ≡ true
  pub by_another : w.by_another ≡ true

pub record Combining (k : ℕ) (w : Became) : Type 0 where
  pub returned : w.returned ≡ true
  pub combined : w.combined ≡ true
  pub in_turn : w.in_turn ≡ k

-- b bounds the calls that meet a premise: in no accepted CC-Synch file's run has one of them cost more
abbrev pub Bounds : (Became → Type 0) → ℕ → Type 0
Bounds Premise b =
    (bytes : List ℕ) (f : Fields) → Each Byte bytes → judge_of bytes ≡ accepted f → f.head.method ≡ CcSynch → (c : Call) → Premise (became_of (history_of f) c)
    → cost_of c (history_of f) ≤ b

-- a file, a call of its run, and what it is said to become
pub record Sharp : Type 0 where
  pub file : List ℕ
  pub call : Call
  pub said : Became

abbrev pub first_call : ℕ → Call
first_call t = record { thread = thread_id t; request = 0 }

-- thread 0 fetches its own node, Tail and curNode, and curNode again after each of lines 16, 17 and 18 of thread 1, which serves it
abbrev pub by_another_sharp : Sharp
by_another_sharp = record {
  file =
      file_of Counter 2 2 0 ((Add 1 ∷ []) ∷ (Add 2 ∷ []) ∷ [])
      (replicate 8 1 ++ replicate 9 0 ++ replicate 14 1 ++ replicate 1 0 ++ replicate 1 1 ++ replicate 1 0 ++ replicate 1 1 ++ replicate 3 0);
  call = first_call 0;
  said = record { returned = true; by_another = true; combined = false; in_turn = 0; cost = most_by_another };
}

-- thread 0 makes a call, and thread 1 serves it, so many times
abbrev pub rounds : ℕ → List ℕ
rounds zero = []
rounds (suc others) = replicate 8 0 ++ replicate 7 1 ++ replicate 3 0 ++ rounds others

-- thread 1 serves itself and k − 1 others. It fetches its own node, Tail and curNode, curNode again after line 20 of thread 0, which gives it the turn, and the node
-- of each of the others; then the node of thread 0's last call, which it doesn't serve, twice: at line 13, after line 6 of that call, and at line 20, after its
-- line 7. With h = k a line 13 that tested the counter first and then read nothing would cost one less
abbrev pub combining_sharp : ℕ → Sharp
combining_sharp others = record {
  file =
      file_of Counter 2 (1 + others) 0 (replicate (2 + others) (Add 1) ∷ (Add 2 ∷ []) ∷ [])
      (replicate 19 0 ++ replicate 9 1 ++ replicate 2 0 ++ replicate 10 1 ++ rounds others ++ replicate 6 0 ++ replicate 1 1 ++ replicate 1 0 ++ replicate 2 1);
  call = first_call 1;
  said = record { returned = true; by_another = false; combined = true; in_turn = suc others; cost = most_combining (suc others) };
}

-- one for each k up to the most, the last first
abbrev pub combining_up_to : ℕ → List Sharp
combining_up_to zero = []
combining_up_to (suc others) = combining_sharp others ∷ combining_up_to others

unfoldable pub sharp_runs : List Sharp
sharp_runs = by_another_sharp ∷ combining_up_to 15

-- the number of a file's method; a refused file has none
abbrev pub method_in : Judgement → ℕ
method_in (accepted f) = method_number f.head.method
method_in (refused_by number) = 255

-- whether a file's bytes are bytes, its method, and what its call becomes; and what is said of it
abbrev pub becomes : Sharp → Bool × ℕ × Became
becomes r = (every (λ b. ltb b 256) r.file, method_in (judge_of r.file), became_by (judge_of r.file) r.call)

abbrev pub as_said : Sharp → Bool × ℕ × Became
as_said r = (true, method_number CcSynch, r.said)
