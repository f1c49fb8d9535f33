-- What an entry tells, by its event, of either method: only what the event uses. Assumes nothing.
use native.Mathlib.Omega.{arith}
use Prim.Native.Nat.{ℕ}
use mathlib.Core.Path.{◌≡◌, refl, ap}
use mathlib.Core.Bool.{Bool}
use mathlib.Core.List.{List}
use borrow.Author.Tests.{eq-eqb, ne_eqb}
use Rattle.std.specs.Prelude.{Some}
use Rattle.object.specs.declared.Answer.{Answer}
use Rattle.machine.specs.declared.Method.{Method}
use Rattle.machine.specs.declared.Method.TheVariants.{CcSynch, DsmSynch}
use Rattle.machine.specs.declared.ThreadId.{ThreadId}
use Rattle.machine.specs.declared.NodeId.{NodeId}
use Rattle.machine.specs.declared.Node.{Node}
use Rattle.machine.specs.declared.Event.{Event}
use Rattle.machine.specs.declared.Event.TheVariants.{Swaps, Applies, Returns}
use Rattle.machine.specs.Accesses.{Access}
use Rattle.machine.specs.Events.{event_number}
use Rattle.state.specs.declared.State.{State}
use Rattle.step.specs.Entry.{named, event, target, node, applied}
use Rattle.step.specs.ByMethod.{points_to_by, node_by, event_by, applied_by, accesses_by}
use Rattle.step.specs.DsmEntry as dsm
use Rattle.history.specs.Entries.{Entry, Is}
use Rattle.history.specs.Copies.{remote_marks}
use Rattle.claims.specs.Entries.{entry_with, assigned_by, entry_by, entry_of, dsm_entry_of}

-- a Swap tells the node that it assigns and the one that it gives; an entry that applies the node, its req and the answer; one that returns the ret
pub record Telling (e : Entry) (assigned tail applies : NodeId) (x : Node) (answer : Answer) : Type 0 where
  pub assigns : Is Swaps e → e.node ≡ assigned
  pub gives : Is Swaps e → e.given ≡ tail
  pub serves : Is Applies e → e.node ≡ applies
  pub takes : Is Applies e → e.req ≡ x.req
  pub answers : Is Applies e → e.answer ≡ Some answer
  pub returns : Is Returns e → e.ret ≡ x.ret

tells_with : (t : ThreadId) (event : Event) (accesses : List Access) (remote : List Bool) (assigned tail applies : NodeId) (x : Node) (answer : Answer)
    → Telling (entry_with t event accesses remote assigned tail applies x answer) assigned tail applies x answer
tells_with t event accesses remote assigned tail applies x answer = record {
  assigns = λ q. rw (eq-eqb (event_number event) 2 q);
  gives = λ q. rw (eq-eqb (event_number event) 2 q);
  serves = λ q. rw (ne_eqb (event_number event) 2 (λ z. omega arith), eq-eqb (event_number event) 4 q);
  takes = λ q. rw (eq-eqb (event_number event) 4 q);
  answers = λ q. rw (eq-eqb (event_number event) 4 q);
  returns = λ q. rw (eq-eqb (event_number event) 6 q);
}

-- the same by numbers: thread t's entry is an event; a Swap tells node j, and an entry that applies node k
pub record Tells (t : ℕ) (is : Event) (j k : ℕ) (e : Entry) : Type 0 where
  pub thread : e.thread.0 ≡ t
  pub event : e.event ≡ is
  pub assigned : Is Swaps e → e.node.0 ≡ j
  pub serves : Is Applies e → e.node.0 ≡ k

tells_numbers : {e : Entry} {assigned tail applies : NodeId} {x : Node} {answer : Answer} → Telling e assigned tail applies x answer
    → Tells e.thread.0 e.event assigned.0 applies.0 e
tells_numbers f = record {
  thread = refl;
  event = refl;
  assigned = λ q. ap (λ (m : NodeId). m.0) (f.assigns q);
  serves = λ q. ap (λ (m : NodeId). m.0) (f.serves q);
}

module _ (m : Method) (s : State) (t : ThreadId) where
  pub entry_tells_by : Telling (entry_by m s t) (assigned_by m s t) s.tail (points_to_by m s t) (node_by m s t) (applied_by m s t).answer
  entry_tells_by =
      tells_with t (event_by m s t) (accesses_by m s t) (remote_marks m s.n t.0 s.copies (accesses_by m s t)) (assigned_by m s t) s.tail (points_to_by m s t) (node_by m s t)
      (applied_by m s t).answer

  pub tells_by : Tells t.0 (event_by m s t) (assigned_by m s t).0 (points_to_by m s t).0 (entry_by m s t)
  tells_by = tells_numbers entry_tells_by

-- of CC-Synch and of DSM-Synch
module _ (s : State) (t : ThreadId) where
  pub entry_tells : Telling (entry_of s t) s.tail s.tail (target s t) (node s t) (applied s t).answer
  entry_tells = entry_tells_by CcSynch s t

  pub dsm_entry_tells : Telling (dsm_entry_of s t) (named s t).my s.tail (dsm.points_to s t) (dsm.node s t) (dsm.applied s t).answer
  dsm_entry_tells = entry_tells_by DsmSynch s t

  pub tells_of : Tells t.0 (event s t) s.tail.0 (target s t).0 (entry_of s t)
  tells_of = tells_by CcSynch s t

  pub dsm_tells_of : Tells t.0 (dsm.event s t) (named s t).my.0 (dsm.points_to s t).0 (dsm_entry_of s t)
  dsm_tells_of = tells_by DsmSynch s t
