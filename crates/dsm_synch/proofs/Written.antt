-- The accesses tell the truth: what a line does depends on what its reads find and on nothing else of the nodes, on Tail only if it accesses it; it writes no
-- field but those of its writes, all in its target, and Tail only by Swap or CAS. For every line at once. Assumes nothing.
use Prim.Native.Nat.{ℕ}
use mathlib.Core.Path.{◌≡◌, refl, sym}
use mathlib.Core.Bool.{Bool, true, false, cond}
use mathlib.Core.List.{List}
use borrow.Author.Tests.{eq-eqb}
use Rattle.object.specs.declared.Request.{Request}
use Rattle.object.specs.declared.Answer.{Answer}
use Rattle.object.specs.Each.{Each}
use Rattle.object.proofs.Choice.{by_test, either}
use Rattle.machine.specs.declared.NodeId.{NodeId}
use Rattle.machine.specs.declared.Node.{Node}
use Rattle.machine.specs.declared.Thread.{Thread}
use Rattle.machine.specs.Effect.{Effect}
use Rattle.machine.specs.declared.Event.{Event}
use Rattle.machine.specs.declared.Event.TheVariants.{Swaps, Applies, TurnEnds, Returns, Spins, Other}
use Rattle.machine.specs.Fields.{is_null}
use Rattle.machine.specs.Events.{same_event, given_told, req_told, ret_told}
use Rattle.machine.specs.Accesses.{Access, read, write, swap, cas}
use Rattle.machine.proofs.Memory.{FindsSame, of_tail, written_into}
use Rattle.dsm_lines.specs.Lines.{Line, empties, accesses, pointed, target, event_in, L0, L1, L2, L3, L4, L5, L6, L7, L8, L9, L10, L11, L12, L13, L14, L15, L16, L17, L18, L19, L20, L21, L22, L23, L24, L25, L26, L27, L28}
use Rattle.dsm_synch.specs.Effect.{executed}

-- two entries tell the same: the req that is applied, the ret that is returned, and the node that a Swap is given
pub record TellsSame (event' event : Event) (y x : Node) (to' to : NodeId) : Type 0 where
  pub req : req_told event' y ≡ req_told event x
  pub ret : ret_told event' y ≡ ret_told event x
  pub given : given_told event' to' ≡ given_told event to

-- one that may be an event which tells none of these, or no event, tells none
silent : (event : Event) → same_event event Swaps ≡ false → same_event event Applies ≡ false → same_event event Returns ≡ false
    → (test' test : Bool) (y x : Node) (to' to : NodeId) → TellsSame (cond test' event Other) (cond test event Other) y x to' to
silent event swaps applies returns true true y x to' to = record { req = rw applies; ret = rw returns; given = rw swaps }
silent event swaps applies returns true false y x to' to = record { req = rw applies; ret = rw returns; given = rw swaps }
silent event swaps applies returns false true y x to' to = record { req = rw applies; ret = rw returns; given = rw swaps }
silent event swaps applies returns false false y x to' to = search

-- a write goes to node m
abbrev WritesAt : NodeId → Access → Type 0
WritesAt m (read k field) = Unit
WritesAt m (write k field) = k ≡ m
WritesAt m swap = Unit
WritesAt m cas = Unit

-- the writes of a line are all to its target
pub writes_target : (th : Thread) (x : Node) (l : Line) → Each (WritesAt (target th x l)) (accesses th x l)
writes_target th x L0 = tt
writes_target th x L1 = tt
writes_target th x L2 = tt
writes_target th x L3 = (refl, tt)
writes_target th x L4 = (refl, tt)
writes_target th x L5 = (refl, tt)
writes_target th x L6 = (refl, tt)
writes_target th x L7 = (tt, tt)
writes_target th x L8 = tt
writes_target th x L9 = (refl, tt)
writes_target th x L10 = (tt, tt)
writes_target th x L11 = (tt, tt)
writes_target th x L12 = (tt, tt)
writes_target th x L13 = tt
writes_target th x L14 = tt
writes_target th x L15 = tt
writes_target th x L16 = (tt, (refl, tt))
writes_target th x L17 = (refl, tt)
writes_target th x L18 = (refl, tt)
writes_target th x L19 = (tt, either (Each (WritesAt th.tmp)) (is_null x.next) (λ none. tt) (λ some. (tt, (tt, tt))))
writes_target th x L20 = tt
writes_target th x L21 = (tt, tt)
writes_target th x L22 = (tt, tt)
writes_target th x L23 = (tt, tt)
writes_target th x L24 = (tt, tt)
writes_target th x L25 = (tt, tt)
writes_target th x L26 = (tt, (refl, tt))
writes_target th x L27 = (refl, tt)
writes_target th x L28 = (tt, tt)

-- thread t, th, with the request of its call and the object's answer, runs a line; a memory gives the nodes
module _ (t : ℕ) (th : Thread) (h : ℕ) (request : Request) (answer : Answer) (l : Line) where
  abbrev first : (NodeId → Node) → Node
  first memory = memory (pointed th l)

  abbrev pub makes : (NodeId → Node) → List Access
  makes memory = accesses th (first memory) l

  abbrev pub writes_to : (NodeId → Node) → NodeId
  writes_to memory = target th (first memory) l

  abbrev pub does : (NodeId → Node) → NodeId → Effect
  does memory tail = executed t th (first memory) (memory (first memory).next) tail h request answer l

  abbrev pub entry_is : (NodeId → Node) → NodeId → Event
  entry_is memory tail = event_in (first memory) (empties tail th.tmp) l

  -- in another memory, with another Tail, it does the same
  pub record Told (memory other : NodeId → Node) (to to' : NodeId) : Type 0 where
    pub accesses : makes other ≡ makes memory
    pub target : writes_to other ≡ writes_to memory
    pub thread : (does other to').thread ≡ (does memory to).thread
    pub event : entry_is other to' ≡ entry_is memory to
    pub tells : TellsSame (entry_is other to') (entry_is memory to) (first other) (first memory) to' to
    -- into the node that is there it writes the fields of its writes
    pub node : (does other to').node ≡ written_into (writes_to memory) (makes memory) (does memory to).node (other (writes_to memory))
    -- Tail is as after the line in the first, or as it was
    pub tail : (does other to').tail ≡ cond (of_tail (makes memory)) (does memory to).tail to'

module _ (t : ℕ) (th : Thread) (h : ℕ) (request : Request) (answer : Answer) (memory other : NodeId → Node) (tail tail' : NodeId) where
  -- line 19 looks behind tmpNode's next only where there is one
  tests : Each (FindsSame memory other) (makes t th h request answer L19 memory) → Told t th h request answer L19 memory other tail tail'
  tests agree =
      by_test (is_null (memory th.tmp).next)
      (λ none. record {
        accesses = rw agree.0;
        target = refl;
        thread = rw (← agree.0, none);
        event = refl;
        tells = search;
        node = rw none;
        tail = rw none;
      })
      (λ some.
      let found = rw some at agree in
      record {
        accesses = rw agree.0;
        target = refl;
        thread = rw (← agree.0, ← found.1.1.0);
        event = refl;
        tells = search;
        node = rw some;
        tail = rw some;
      })

  -- what it reads is the same, and Tail is if it accesses it
  pub told : (l : Line) → Each (FindsSame memory other) (makes t th h request answer l memory)
      → (of_tail (makes t th h request answer l memory) ≡ true → tail ≡ tail') → Told t th h request answer l memory other tail tail'
  told L0 agree tails = search
  told L1 agree tails = search
  told L2 agree tails = search
  told L3 agree tails = search eq-eqb
  told L4 agree tails = search eq-eqb
  told L5 agree tails = search eq-eqb
  told L6 agree tails = search eq-eqb
  told L7 agree tails = search tails
  told L8 agree tails = search
  told L9 agree tails = search eq-eqb
  told L10 agree tails = record {
    accesses = refl;
    target = refl;
    thread = rw agree.0;
    event = rw agree.0;
    tells = silent Spins refl refl refl (other th.my).wait (memory th.my).wait _ _ _ _;
    node = refl;
    tail = refl;
  }
  told L11 agree tails = record { accesses = refl; target = refl; thread = rw agree.0; event = refl; tells = search; node = refl; tail = refl }
  told L12 agree tails = search (sym agree.0)
  told L13 agree tails = search
  told L14 agree tails = search
  told L15 agree tails = search
  told L16 agree tails = search (eq-eqb, sym agree.0)
  told L17 agree tails = search eq-eqb
  told L18 agree tails = search eq-eqb
  told L19 agree tails = tests agree
  told L20 agree tails = search
  told L21 agree tails = record { accesses = refl; target = refl; thread = rw agree.0; event = refl; tells = search; node = refl; tail = refl }
  told L22 agree tails = record { accesses = refl; target = refl; thread = rw agree.0; event = refl; tells = search; node = refl; tail = refl }
  told L23 agree tails = record {
    accesses = refl;
    target = refl;
    thread = rw (tails refl);
    event = rw (tails refl);
    tells = silent TurnEnds refl refl refl (empties tail' th.tmp) (empties tail th.tmp) _ _ _ _;
    node = refl;
    tail = rw (tails refl);
  }
  told L24 agree tails = search (sym agree.0)
  told L25 agree tails = record {
    accesses = refl;
    target = refl;
    thread = rw agree.0;
    event = rw agree.0;
    tells = silent Spins refl refl refl (is_null (other th.tmp).next) (is_null (memory th.tmp).next) _ _ _ _;
    node = refl;
    tail = refl;
  }
  told L26 agree tails = record {
    accesses = rw agree.0;
    target = rw agree.0;
    thread = refl;
    event = refl;
    tells = search;
    node = rw (← agree.0, eq-eqb (memory th.tmp).next.0 (memory th.tmp).next.0 refl);
    tail = refl;
  }
  told L27 agree tails = search eq-eqb
  told L28 agree tails = search (sym agree.0)
