-- The entries of a run, by whichever method it steps: what each entry of the schedule does, and how a list of entries is read.
use Rattle.std.specs.Prelude.{ℕ, ◌+◌, ◌≡◌, Bool, false, cond, ◌&&◌, ◌||◌, List, [], ◌∷◌, ◌++◌, eqb, Option}
use Rattle.object.specs.declared.Request.{Request}
use Rattle.object.specs.declared.Answer.{Answer}
use Rattle.machine.specs.declared.ThreadId.{ThreadId}
use Rattle.machine.specs.declared.NodeId.{NodeId}
use Rattle.machine.specs.declared.Event.{Event}
use Rattle.machine.specs.Accesses.{Access}
use Rattle.machine.specs.Events.{event_number, same_event}
use Rattle.step.specs.Entry.{one_if}

-- what one entry of the schedule does
pub record Entry : Type 0 where
  -- the thread that the schedule names, and what the entry is
  pub thread : ThreadId
  pub event : Event
  -- its accesses in order, and for each whether it is remote
  pub accesses : List Access
  pub remote : List Bool
  -- the node that a Swap assigns to its call, or whose request is applied; null where the entry is neither
  pub node : NodeId
  -- the node that a Swap gives, null where it finds Tail null; null where the entry is no Swap
  pub given : NodeId
  -- the req that is applied, and the object's answer to it; empty where none is applied
  pub req : Option Request
  pub answer : Option Answer
  -- what the call returns; empty where it does not return
  pub ret : Option Answer

-- A history is the list of the entries so far, the latest first: what stands behind an entry in the list, its past, came before it in time.

-- the sum of a number over all entries, each with its past
abbrev pub sum_over : (Entry → List Entry → ℕ) → List Entry → ℕ
sum_over number [] = 0
sum_over number (e ∷ past) = number e past + sum_over number past

-- whether any entry passes a test
abbrev pub happened : (Entry → List Entry → Bool) → List Entry → Bool
happened test [] = false
happened test (e ∷ past) = test e past || happened test past

-- what the entries give, the earliest first
abbrev pub in_order : {A : Type 0} → (Entry → List Entry → List A) → List Entry → List A
in_order gives [] = []
in_order gives (e ∷ past) = in_order gives past ++ gives e past

-- what the latest entry that passes a test gives, or `none`
abbrev pub latest : {A : Type 0} → A → (Entry → List Entry → Bool) → (Entry → List Entry → A) → List Entry → A
latest none test gives [] = none
latest none test gives (e ∷ past) = cond (test e past) (gives e past) (latest none test gives past)

-- the thread of a number
abbrev pub thread_id : ℕ → ThreadId
thread_id u = record { 0 = u }

-- whether an entry is such an event, as a test and as a fact, and whether it is thread t's
abbrev pub is : Event → Entry → Bool
is event e = same_event e.event event

abbrev pub Is : Event → Entry → Type 0
Is event e = event_number e.event ≡ event_number event

abbrev pub is_by : ThreadId → Event → Entry → Bool
is_by t event e = eqb e.thread.0 t.0 && is event e

-- how many entries are such an event
abbrev pub how_many : Event → List Entry → ℕ
how_many event = sum_over (λ e past. one_if (is event e))

-- how many accesses of an entry are remote
abbrev pub remote_in : List Bool → ℕ
remote_in [] = 0
remote_in (remote ∷ l) = one_if remote + remote_in l
