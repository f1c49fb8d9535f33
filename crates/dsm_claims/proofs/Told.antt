-- The entry of a real state of DSM-Synch tells what its line does: a Swap the node that Tail then points to and the one that Tail pointed to. Assumes nothing.
use mathlib.Core.Path.{◌≡◌, sym, ◌∙◌}
use borrow.Author.Tests.{eqb-true, eq-eqb}
use Rattle.machine.specs.declared.ThreadId.{ThreadId}
use Rattle.machine.specs.declared.Event.TheVariants.{Swaps}
use Rattle.machine.specs.Events.{event_number}
use Rattle.dsm_lines.specs.Lines.{Line, number}
use Rattle.dsm_synch.specs.Effect.{executed}
use Rattle.dsm_lines.proofs.Numbers.{by_line}
use Rattle.dsm_synch.proofs.Swap.{swaps_in}
use Rattle.state.specs.declared.State.{State}
use Rattle.step.specs.Entry.{named, request}
use Rattle.step.specs.DsmEntry as dsm
use Rattle.history.specs.Entries.{Is}
use Rattle.invariant.specs.View.{view_of}
use Rattle.dsm_invariant.proofs.Events.{told}
use Rattle.claims.specs.Entries.{dsm_entry_of}
use Rattle.claims.proofs.Telling.{dsm_entry_tells}

-- a Swap tells the node that Tail points to after it and, as given, the one that its thread then has in myPredNode
pub swap_tells : (s : State) (t : ThreadId) → Is Swaps (dsm_entry_of s t)
    → ((dsm_entry_of s t).node ≡ (dsm.effect s t).tail) × ((dsm_entry_of s t).given ≡ (dsm.effect s t).thread.pred)
swap_tells s t q =
    let seven = eqb-true (number (dsm.runs s t)) 7 (sym (told (view_of s) t.0 (dsm.runs s t)).swaps ∙ eq-eqb _ (event_number Swaps) q) in
    let tells = dsm_entry_tells s t in
    let done = executed_at s t seven in
    (tells.assigns q ∙ sym done.1, tells.gives q ∙ sym done.0)
  where
    executed_at : (s : State) (t : ThreadId) → number (dsm.runs s t) ≡ 7 → ((dsm.effect s t).thread.pred ≡ s.tail) × ((dsm.effect s t).tail ≡ (named s t).my)
    executed_at s t seven =
        by_line
        (λ (l : Line).
        let after = executed t.0 (named s t) (dsm.node s t) (dsm.behind s t) s.tail s.h (request s t) (dsm.applied s t).answer l in
        (after.thread.pred ≡ s.tail) × (after.tail ≡ (named s t).my))
        (dsm.runs s t) seven (swaps_in t.0 (named s t) (dsm.node s t) (dsm.behind s t) s.tail s.h (request s t) (dsm.applied s t).answer)
