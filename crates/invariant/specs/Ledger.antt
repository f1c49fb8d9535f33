-- The ledger of a CC-Synch run: positions in Swap order, and how far the serving of them has come. A proof keeps it beside the machine; no code does.
use Rattle.std.specs.Prelude.{ℕ, suc, Bool, true, false, cond, eqb}
use Rattle.cc_lines.specs.Lines.{Line, L0, L1, L2, L3, L4, L5, L6, L7, L8, L9, L10, L11, L12, L13, L14, L15, L16, L17, L18, L19, L20, L21}

-- a function with one value changed
unfoldable pub upd : {A : Type 0} → (ℕ → A) → ℕ → A → ℕ → A
upd f k x j = cond (eqb j k) x (f j)

-- s Swaps are done; a requests are applied (line 16), d marked completed (17), r released (18); b is the position whose thread has the turn or will have it.
-- Position i has the node that Swap i gave, its thread, and whether its next is written; position s is Tail's, whose slot is n. `at` is the position of a slot
pub record Ledger : Type 0 where
  pub s : ℕ
  pub a : ℕ
  pub d : ℕ
  pub r : ℕ
  pub b : ℕ
  pub node : ℕ → ℕ
  pub who : ℕ → ℕ
  pub linked : ℕ → Bool
  pub at : ℕ → ℕ

-- a ledger with other counts
abbrev pub counting : Ledger → ℕ → ℕ → ℕ → ℕ → Ledger
counting g a d r b = record { s = g.s; a = a; d = d; r = r; b = b; node = g.node; who = g.who; linked = g.linked; at = g.at }

-- what thread t's line writes into the ledger; n is Tail's slot, own the number of the thread's own node
module _ (n t own : ℕ) (g : Ledger) where
  abbrev pub swapped : Ledger
  swapped = record {
    s = suc g.s;
    a = g.a;
    d = g.d;
    r = g.r;
    b = g.b;
    node = upd g.node (suc g.s) own;
    who = upd (upd g.who g.s t) (suc g.s) n;
    linked = upd g.linked (suc g.s) false;
    at = upd (upd g.at t g.s) n (suc g.s);
  }

  abbrev pub linking : Ledger
  linking = record { s = g.s; a = g.a; d = g.d; r = g.r; b = g.b; node = g.node; who = g.who; linked = upd g.linked (g.at t) true; at = g.at }

  abbrev pub noted : Line → Ledger
  noted L0 = g
  noted L1 = g
  noted L2 = g
  noted L3 = g
  noted L4 = g
  noted L5 = swapped
  noted L6 = g
  noted L7 = linking
  noted L8 = g
  noted L9 = g
  noted L10 = g
  noted L11 = g
  noted L12 = g
  noted L13 = g
  noted L14 = g
  noted L15 = g
  noted L16 = counting g (suc g.a) g.d g.r g.b
  noted L17 = counting g g.a (suc g.d) g.r g.b
  noted L18 = counting g g.a g.d (suc g.r) g.b
  noted L19 = g
  noted L20 = counting g g.a g.d g.r g.a
  noted L21 = g

-- the ledger of the fresh machine: no Swap done, node 0 is the dummy
abbrev pub fresh_ledger : ℕ → Ledger
fresh_ledger n = record { s = 0; a = 0; d = 0; r = 0; b = 0; node = λ i. 0; who = λ i. n; linked = λ i. false; at = λ u. 0 }
