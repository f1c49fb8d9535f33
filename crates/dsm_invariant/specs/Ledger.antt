-- The ledger of a DSM-Synch run: positions in Swap order, and how far the serving of them has come. A proof keeps it beside the machine; no code does.
use Rattle.std.specs.Prelude.{ℕ, suc, Bool, true, false, cond}
use Rattle.machine.specs.Fields.{is_null}
use Rattle.machine.specs.Owners.{node_of}
use Rattle.dsm_lines.specs.Lines.{Line, L0, L1, L2, L3, L4, L5, L6, L7, L8, L9, L10, L11, L12, L13, L14, L15, L16, L17, L18, L19, L20, L21, L22, L23, L24, L25, L26, L27, L28}
use Rattle.invariant.specs.Ledger.{upd}
use Rattle.invariant.specs.View.{View}
use Rattle.dsm_invariant.specs.View.{emptied}

-- s Swaps are done; a requests are applied (line 16), d marked completed (17), r released (18); b is the position that has the turn or will have it, and `given`
-- says that line 26 gave it; k is the position of tmpNode. Position i has its thread and that thread's toggle, and whether it has run line 9, or found Tail null;
-- `at` is the position of a thread's last Swap
pub record Ledger : Type 0 where
  pub s : ℕ
  pub a : ℕ
  pub d : ℕ
  pub r : ℕ
  pub b : ℕ
  pub k : ℕ
  pub given : Bool
  pub who : ℕ → ℕ
  pub bit : ℕ → ℕ
  pub joined : ℕ → Bool
  pub at : ℕ → ℕ

-- the number of thread t's node at a place of MyNodes, and of the node of a position
unfoldable pub node_number : ℕ → ℕ → ℕ
node_number t place = (node_of t place).0

abbrev pub node_at : Ledger → ℕ → ℕ
node_at g i = node_number (g.who i) (g.bit i)

-- a ledger with other links and counts
abbrev pub going : Ledger → (ℕ → Bool) → ℕ → ℕ → ℕ → ℕ → ℕ → Bool → Ledger
going g joined a d r b k given =
    record { s = g.s; a = a; d = d; r = r; b = b; k = k; given = given; who = g.who; bit = g.bit; joined = joined; at = g.at }

abbrev pub counting : Ledger → ℕ → ℕ → ℕ → ℕ → ℕ → Bool → Ledger
counting g = going g g.joined

abbrev pub with_joined : Ledger → (ℕ → Bool) → Ledger
with_joined g joined = going g joined g.a g.d g.r g.b g.k g.given

-- what thread t's line writes into the ledger
module _ (v : View) (t : ℕ) (g : Ledger) where
  abbrev pub swapped : Ledger
  swapped = record {
    s = suc g.s;
    a = g.a;
    d = g.d;
    r = g.r;
    b = g.b;
    k = g.k;
    given = g.given;
    who = upd g.who g.s t;
    bit = upd g.bit g.s (v.thread t).toggle;
    joined = upd g.joined g.s false;
    at = upd g.at t g.s;
  }

  abbrev pub joining : Ledger
  joining = with_joined g (upd g.joined (g.at t) true)

  abbrev pub noted : Line → Ledger
  noted L0 = g
  noted L1 = g
  noted L2 = g
  noted L3 = g
  noted L4 = g
  noted L5 = g
  noted L6 = g
  noted L7 = swapped
  noted L8 = cond (is_null (v.thread t).pred) joining g
  noted L9 = joining
  noted L10 = g
  noted L11 = g
  noted L12 = g
  noted L13 = g
  noted L14 = g
  noted L15 = g
  noted L16 = counting g (suc g.a) g.d g.r g.b g.k g.given
  noted L17 = counting g g.a (suc g.d) g.r g.b g.k g.given
  noted L18 = counting g g.a g.d (suc g.r) g.b g.k g.given
  noted L19 = g
  noted L20 = g
  noted L21 = counting g g.a g.d g.r g.b (suc g.k) g.given
  noted L22 = g
  noted L23 = cond (emptied v t) (counting g g.a g.d g.r g.a g.a false) g
  noted L24 = g
  noted L25 = g
  noted L26 = counting g g.a g.d g.r g.a g.a true
  noted L27 = g
  noted L28 = g

-- the ledger of the fresh machine: no Swap done
abbrev pub fresh_ledger : Ledger
fresh_ledger = record { s = 0; a = 0; d = 0; r = 0; b = 0; k = 0; given = false; who = λ i. 0; bit = λ i. 0; joined = λ i. false; at = λ u. 0 }
