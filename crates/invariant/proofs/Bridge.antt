-- From lists to functions: what the entry of a thread does to a state is what its line does to the view. Assumes a sound state and a thread below n.
use Prim.Native.Nat.{◌<◌}
use native.Mathlib.Omega.{arith}
use mathlib.Core.Path.{◌≡◌, refl}
use lib.Seq.{get_or-set_same, get_or-set_other}
use Rattle.machine.specs.declared.ThreadId.{ThreadId}
use Rattle.cc_lines.specs.Lines.{line_of, number}
use Rattle.state.specs.declared.State.{State}
use Rattle.machine.specs.declared.Method.TheVariants.{CcSynch}
use Rattle.state.proofs.RangeFacts.{state_fits}
use Rattle.step.specs.Entry.{zero_thread, zero_node, named, line, target, request, applied, effect, entered}
use Rattle.machine.proofs.Lines.{RunsNext}
use Rattle.cc_lines.proofs.Numbers.{number_of}
use Rattle.step.proofs.Outcome.{room, runs_line, target_in_range}
use Rattle.step.proofs.Soundness.{Sound}
use Rattle.invariant.specs.View.{view_of, Does}

module _ (s : State) (t : ThreadId) (sound : Sound CcSynch s) (below : t.0 < s.n) where
  pub runs_it : RunsNext (named s t) 21
  runs_it = runs_line CcSynch s t sound.shape sound.range below

  pub number_line : number (line_of (line s t)) ≡ line s t
  number_line = number_of (line s t) runs_it.printed

  pub does_of : Does s.n s.h (view_of s) (view_of (entered s t)) t.0 (line_of (line s t)) (request s t) (applied s t).answer
  does_of = record {
    below = below;
    stands = rw number_line runs_it.stands;
    mine = get_or-set_same s.threads t.0 (effect s t).thread zero_thread (omega (arith, room CcSynch s t sound.shape sound.range below));
    others = λ u apart. get_or-set_other s.threads t.0 u (effect s t).thread zero_thread apart;
    there =
        get_or-set_same s.nodes (target s t).0 (effect s t).node zero_node
        (omega (arith, target_in_range s t sound.shape sound.range below, (state_fits CcSynch s sound.range).small, sound.shape.nodes));
    elsewhere = λ m apart. get_or-set_other s.nodes (target s t).0 m (effect s t).node zero_node apart;
    tail = refl;
  }
