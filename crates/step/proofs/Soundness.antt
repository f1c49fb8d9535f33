-- From a state in range every step, refused or not, hands back a state in range, by either method, with arrays as long as they were. Assumes what the module's parameters say.
use Rattle.std.proofs.Common.{◌≡◌, ℕ, ◌<◌, Bool, true, false, cond, not, leb, List, [], ◌∷◌, length, refl, ◌∙◌, length-set, leb-false, Option}
use mathlib.Core.Bool.{and-eq-true_iff}
use Rattle.object.proofs.Plainly.{places_stay}
use Rattle.object.specs.declared.Request.{Request}
use Rattle.machine.specs.declared.Method.{Method}
use Rattle.machine.specs.declared.Method.TheVariants.{CcSynch, DsmSynch}
use Rattle.machine.specs.declared.ThreadId.{ThreadId}
use Rattle.machine.specs.declared.Event.{Event}
use Rattle.machine.specs.Accesses.{Access}
use Rattle.copies.specs.Remote.{copies_after, referred_by}
use Rattle.state.specs.declared.State.{State}
use Rattle.state.specs.Range.{in_range_by}
use Rattle.state.specs.Shape.{Shaped}
use Rattle.step.specs.Entry.{applied_at}
use Rattle.step.specs.ByMethod.{node_by, written_by, event_by, effect_by, accesses_by, entered_by, misses_by}
use Rattle.step.specs.Step.{refused, goes_through_by, step_by, step_of}
use Rattle.step.proofs.Outcome.{applied_keeps}

locations : (m : Method) (n t : ℕ) (copies : List ℕ) (accesses : List Access) → length (referred_by m n t copies accesses).copies ≡ length copies
locations m n t copies [] = refl
locations CcSynch n t copies (a ∷ accesses) = locations CcSynch n t (copies_after n t a copies) accesses ∙ length-set copies _ _
locations DsmSynch n t copies (a ∷ accesses) = locations DsmSynch n t copies accesses

items_kept : (s : State) (event : Event) (req : Option Request) → Shaped s → length (applied_at event s.kind s.capacity s.object req).object.items ≡ 64
items_kept s event req shaped =
    applied_keeps (λ answer ob. length ob.items ≡ 64) event s.kind s.capacity s.object req shaped.items
    (λ request. places_stay s.kind s.capacity s.object request shaped.items)

-- the arrays keep their lengths
pub stays_shaped : (m : Method) (s : State) (t : ThreadId) → Shaped s → Shaped (entered_by m s t)
stays_shaped m s t shaped = record {
  threads = length-set s.threads t.0 (effect_by m s t).thread ∙ shaped.threads;
  nodes = length-set s.nodes (written_by m s t).0 (effect_by m s t).node ∙ shaped.nodes;
  requests = shaped.requests;
  copies = locations m s.n t.0 s.copies (accesses_by m s t) ∙ shaped.copies;
  items = items_kept s (event_by m s t) (node_by m s t).req shaped;
}

-- a state as the step of a method takes it: arrays of full length, and each number in its range
pub record Sound (m : Method) (s : State) : Type 0 where
  pub shape : Shaped s
  pub range : in_range_by m s ≡ true

module _ (m : Method) (s : State) (t : ThreadId) where
  -- the state after a step is the one before it, or the one that an entry leaves that goes through, in range and of a thread below n
  pub either_state : (P : State → Type 0) → P s → (in_range_by m s ≡ true → t.0 < s.n → goes_through_by m s t ≡ true → P (entered_by m s t))
      → P (step_by m s t).state
  either_state P before after = by_tests (in_range_by m s) (leb s.n t.0) (goes_through_by m s t) refl refl refl
    where
      by_tests : (fits past through : Bool) → in_range_by m s ≡ fits → leb s.n t.0 ≡ past → goes_through_by m s t ≡ through
          → P (cond fits (cond past (refused 11 s) (cond through (record { refusal = 0; state = entered_by m s t }) (refused 14 s))) (refused 14 s)).state
      by_tests false past through e f g = before
      by_tests true true through e f g = before
      by_tests true false false e f g = before
      by_tests true false true e f g = after e (leb-false s.n t.0 f) g

  pub stays_sound : Sound m s → Sound m (step_by m s t).state
  stays_sound sound =
      either_state (Sound m) sound
      (λ range below through. record { shape = stays_shaped m s t sound.shape; range = ((and-eq-true_iff (not (misses_by m s t)) (in_range_by m (entered_by m s t))).0 through).1 })

  pub method_stays : (step_by m s t).state.method ≡ s.method
  method_stays = either_state (λ (s' : State). s'.method ≡ s.method) refl (λ range below through. refl)

-- so it is with the step of a state's own method
pub step_sound : (s : State) (t : ThreadId) → Sound s.method s → Sound (step_of s t).state.method (step_of s t).state
step_sound s t sound = rw (method_stays s.method s t) (stays_sound s.method s t sound)
