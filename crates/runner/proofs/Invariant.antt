-- The invariant of a file's run, by either method, as the loop of a run uses it: what it gives of the next entry, and that every entry keeps it that meets no
-- null. Assumes fields in range.
use Prim.Native.Nat.{ℕ, ◌*◌, ◌≤◌, ◌<◌}
use native.Mathlib.Omega.{arith}
use mathlib.Core.Path.{◌≡◌, refl, sym, ap, ◌∙◌}
use mathlib.Core.Bool.{Bool, false}
use mathlib.Core.List.{List, [], ◌∷◌}
use lib.ListN.{length}
use lib.Dec.{eqb}
use Rattle.std.specs.Prelude.{Some}
use Rattle.object.specs.declared.Request.{Request}
use Rattle.object.specs.declared.Answer.{Answer}
use Rattle.object.specs.Each.{Each}
use Rattle.bench_file.specs.Layout.{Fields}
use Rattle.bench_file.specs.Bytes.{InRange}
use Rattle.machine.specs.declared.Method.{Method}
use Rattle.machine.specs.declared.Method.TheVariants.{CcSynch, DsmSynch}
use Rattle.machine.specs.declared.ThreadId.{ThreadId}
use Rattle.machine.specs.declared.Thread.{Thread}
use Rattle.machine.specs.declared.Event.{Event}
use Rattle.machine.specs.declared.Event.TheVariants.{Blank, Swaps, Applies}
use Rattle.machine.specs.Accesses.{Access}
use Rattle.machine.specs.Methods.{last_line}
use Rattle.machine.specs.Sizes.{most_calls, most_nodes}
use Rattle.cc_lines.specs.Lines as CcLines
use Rattle.cc_lines.proofs.Numbers as CcNumbers
use Rattle.cc_synch.specs.Effect as CcEffect
use Rattle.cc_synch.proofs.Refusal as CcRefusal
use Rattle.dsm_lines.specs.Lines as DsmLines
use Rattle.dsm_lines.proofs.Numbers as DsmNumbers
use Rattle.methods.specs.Methods.{spin_line, spin_node}
use Rattle.state.specs.declared.State.{State}
use Rattle.state.proofs.RangeFacts.{ThreadFits, state_fits, nodes_held}
use Rattle.step.specs.Entry.{named, line}
use Rattle.step.specs.Entry as cc
use Rattle.step.specs.DsmEntry as dsm
use Rattle.step.specs.ByMethod.{points_to_by, node_by, event_by, applied_by, effect_by, accesses_by, references_by, entered_by, out_by, null_met_by}
use Rattle.step.proofs.Outcome.{thread_fits, runs_line, target_in_range}
use Rattle.step.proofs.Soundness.{Sound}
use Rattle.invariant.specs.View.{view_of}
use Rattle.invariant.proofs.Bridge as CcBridge
use Rattle.dsm_invariant.proofs.Threads as DsmThreads
use Rattle.history.specs.Entries.{Entry, is, Is, how_many, remote_in}
use Rattle.history.specs.Copies.{remote_marks}
use Rattle.history.specs.Terms.{Serving, servings}
use Rattle.history.specs.Method.{Seen, Positions, Moves}
use Rattle.history.specs.History.{SwapOrder}
use Rattle.claims.specs.Entries.{assigned_by, entry_by, start_by}
use Rattle.claims.specs.Claims.{ClaimedBy}
use Rattle.claims.proofs.Chronicle.{Chronicle}
use Rattle.claims.proofs.Chronicled.{Chronicled}
use Rattle.claims.proofs.Counted.{remote_ones}
use Rattle.claims.proofs.Layers as CcLayers
use Rattle.claims.proofs.Meets as CcMeets
use Rattle.claims.proofs.Parts.{claim}
use Rattle.claims.proofs.Room.{requests_few, swaps_few}
use Rattle.claims.proofs.Run.{Going, going_start, going_next}
use Rattle.claims.proofs.Start.{row_few}
use Rattle.claims.proofs.Telling.{Tells, entry_tells, tells_of, dsm_entry_tells, dsm_tells_of}
use Rattle.claims.proofs.Theorem as CcTheorem
use Rattle.dsm_claims.proofs.Layers as DsmLayers
use Rattle.dsm_claims.proofs.Theorem as DsmTheorem

-- the layers of a method
abbrev pub Layered : Method → Fields → State → List Entry → Type 0
Layered CcSynch f s past = CcLayers.Layers f s past
Layered DsmSynch f s past = DsmLayers.Layers f s past

abbrev Paid : Method → Bool → ℕ → ℕ → Type 0
Paid CcSynch = CcLayers.Paid
Paid DsmSynch = DsmLayers.Paid

-- a state of a file's run, with the entries so far: all that its method keeps
pub record Standing (m : Method) (f : Fields) (s : State) (past : List Entry) : Type 0 where
  pub going : Going m f s past
  pub layers : Layered m f s past

chronicled : (m : Method) (f : Fields) (s : State) (past : List Entry) → Standing m f s past → Chronicled (Paid m) m f s past
chronicled CcSynch f s past now = CcLayers.chronicled f s past now.going now.layers
chronicled DsmSynch f s past now = DsmTheorem.chronicled f s past now.going now.layers

-- an entry makes as many remote references as the state counts
pub remote_of_lem : (m : Method) (s : State) (t : ThreadId) → (references_by m s t).remote ≡ remote_in (entry_by m s t).remote
remote_of_lem m s t = sym (remote_ones m s.n t.0 s.copies (accesses_by m s t))

-- the fresh machine has it
layers_start : (m : Method) (f : Fields) → InRange f → Layered m f (start_by m f) []
layers_start CcSynch f fits = CcTheorem.layers_start f fits
layers_start DsmSynch f fits = DsmTheorem.layers_start f fits

pub standing_start : (m : Method) (f : Fields) → InRange f → Standing m f (start_by m f) []
standing_start m f fits = record { going = going_start m f; layers = layers_start m f fits }

-- its state is in range, with full arrays
pub sound : (m : Method) (f : Fields) (s : State) (past : List Entry) → Standing m f s past → Sound m s
sound CcSynch f s past now = now.layers.sound
sound DsmSynch f s past now = now.layers.sound

-- what it claims
pub claimed : (m : Method) (f : Fields) → InRange f → (s : State) (past : List Entry) → Standing m f s past → ClaimedBy m f past
claimed m f fits s past now = claim (Paid m) m f fits s past now.going (chronicled m f s past now)

-- no more Swaps than the file has requests
pub swaps_most : (m : Method) (f : Fields) → InRange f → (s : State) (past : List Entry) → Standing m f s past → how_many Swaps past ≤ most_calls
swaps_most m f fits s past now = omega (arith, swaps_few f (claimed m f fits s past now), requests_few f fits)

-- thread t's entry: how it moves, and what it finds and tells
pub record Next (m : Method) (f : Fields) (s : State) (past : List Entry) (t : ThreadId) : Type 0 where
  pub seen : Seen
  pub seen_after : Seen
  pub positions : Positions
  pub positions_after : Positions
  pub moved : Moves f.head.n f.head.h seen seen_after positions positions_after t.0 (entry_by m s t)
  pub swaps : SwapOrder f.head.n seen positions past
  pub order : positions.a ≤ positions.s
  pub servers : Each (λ (w : Serving). w.server.0 < f.head.n) (servings past)
  -- calls begun: at most 16 of each thread
  pub begun_few : (u : ℕ) → u < f.head.n → seen.begun u ≤ 16
  pub begun_after : seen_after.begun t.0 ≡ (effect_by m s t).thread.begun
  pub begun_most : (effect_by m s t).thread.begun ≤ 16
  -- the node that it assigns or takes a request from
  pub tells : Tells t.0 (event_by m s t) (assigned_by m s t).0 (points_to_by m s t).0 (entry_by m s t)
  pub assigns : Is Swaps (entry_by m s t) → (assigned_by m s t).0 < most_nodes
  pub serves : Is Applies (entry_by m s t) → (points_to_by m s t).0 < most_nodes
  -- the answer that it gives
  pub answers : Is Applies (entry_by m s t) → (entry_by m s t).answer ≡ Some (applied_by m s t).answer
  -- a blank makes no reference
  pub silent : Is Blank (entry_by m s t) → remote_in (entry_by m s t).remote ≡ 0

module _ (f : Fields) (fits : InRange f) (s : State) (past : List Entry) (t : ThreadId) (below : t.0 < s.n) where
  -- the line that it runs is one of its method's, and a thread that waits reads the wait of a node
  pub line_most_lem : (m : Method) → Standing m f s past → line s t ≤ last_line m
  line_most_lem m now = let fits = sound m f s past now in (runs_line m s t fits.shape fits.range below).printed

  waits_at : (m : Method) (last h line : ℕ) (th : Thread) → ThreadFits m last h th line → line ≡ spin_line m → (spin_node m th.cur th.my).0 ≤ last
  waits_at CcSynch last h line th f e = rw e at f.pointers.cur
  waits_at DsmSynch last h line th f e = rw e at f.pointers.my

  pub waited_below : (m : Method) → Standing m f s past → (named s t).line ≡ spin_line m → (spin_node m (named s t).cur (named s t).my).0 < most_nodes
  waited_below m now stands =
      let fine = sound m f s past now in
      let at = waits_at m _ _ _ (named s t) (thread_fits m s t fine.shape fine.range below) stands in
      omega (arith, at, nodes_held m s.n (omega arith) (omega (arith, now.going.n, fits.head.n)))

  begun_few : (m : Method) (now : Standing m f s past) (u : ℕ) → u < f.head.n → ((view_of s).thread u).begun ≤ 16
  begun_few m now u b =
      let chronicle = (chronicled m f s past now).chronicle in
      omega (arith, chronicle.begun u b, row_few f fits u b)

  pub begun_now : (m : Method) → Standing m f s past → (named s t).begun ≤ 16
  begun_now m now = begun_few m now t.0 (omega (arith, now.going.n))

  -- null is the only cause of 14
  pub null_alone : (m : Method) → Standing m f s past → out_by m s t ≡ null_met_by m s t
  null_alone CcSynch now = CcLayers.stays f fits s past t below now.going now.layers
  null_alone DsmSynch now = (DsmLayers.null_alone f fits s past t below now.going now.layers).alone

  -- a line of CC-Synch needs no test: what it does, in 8 bits, is what `run_line` answers, since none is refused and no number wraps
  abbrev pub Untested : Method → Type 0
  Untested CcSynch = (request : Request) (answer : Answer)
      → CcEffect.wrapped (CcEffect.executed (named s t) (node_by CcSynch s t) s.tail s.h request answer (CcLines.line_of (line s t)))
      ≡ CcEffect.effect_of (named s t) (node_by CcSynch s t) s.tail s.h request answer
  Untested DsmSynch = Unit

  pub untested : (m : Method) → Standing m f s past → Untested m
  untested CcSynch now = λ request answer.
      let stays = null_alone CcSynch now in
      let sound = now.layers.sound in
      let th = thread_fits CcSynch s t sound.shape sound.range below in
      let limit : s.h < 256 = omega (arith, now.going.h, fits.head.h) in
      CcRefusal.unwrapped (named s t) (node_by CcSynch s t) s.tail s.h request answer (line s t) stays (omega (arith, th.few)) (omega (arith, th.few, th.counted)) limit (omega (arith, th.served))
      ∙ sym (CcRefusal.goes_ahead (named s t) (node_by CcSynch s t) s.tail s.h request answer stays)
  untested DsmSynch now = tt

  -- every entry keeps it that meets no null
  layers_next : (m : Method) → Standing m f s past → length past < 32768 → null_met_by m s t ≡ false → Layered m f (entered_by m s t) (entry_by m s t ∷ past)
  layers_next CcSynch now short fine = CcLayers.layers_next f fits s past t below now.going now.layers short
  layers_next DsmSynch now short fine = DsmLayers.layers_next f fits s past t below now.going now.layers fine short

  pub standing_next : (m : Method) → Standing m f s past → length past < 32768 → null_met_by m s t ≡ false → Standing m f (entered_by m s t) (entry_by m s t ∷ past)
  standing_next m now short fine = record { going = going_next m f s past t short now.going; layers = layers_next m now short fine }

  -- what the next entry shows, from how it moves
  next_from : (m : Method) {x x' : Seen} {p p' p'' : Positions} {cost cost' : ℕ → ℕ} {answers answers' : List Answer}
      → Moves f.head.n f.head.h x x' p p' t.0 (entry_by m s t) → Chronicle (Paid m) f x p cost answers past
      → Chronicle (Paid m) f x' p'' cost' answers' (entry_by m s t ∷ past) → t.0 < f.head.n → x'.begun t.0 ≡ (effect_by m s t).thread.begun
      → Tells t.0 (event_by m s t) (assigned_by m s t).0 (points_to_by m s t).0 (entry_by m s t)
      → (Is Swaps (entry_by m s t) → (assigned_by m s t).0 < most_nodes) → (Is Applies (entry_by m s t) → (points_to_by m s t).0 < most_nodes)
      → (Is Applies (entry_by m s t) → (entry_by m s t).answer ≡ Some (applied_by m s t).answer) → (Is Blank (entry_by m s t) → accesses_by m s t ≡ []) → Next m f s past t
  next_from m {x} {x'} {p} {p'} moved chronicle after inside begun tells assigns serves answers silent = record {
    seen = x;
    seen_after = x';
    positions = p;
    positions_after = p';
    moved = moved;
    swaps = chronicle.swaps;
    order = chronicle.order;
    servers = chronicle.servers;
    begun_few = λ u b. omega (arith, chronicle.begun u b, row_few f fits u b);
    begun_after = begun;
    begun_most = omega (arith, begun, after.begun t.0 inside, row_few f fits t.0 inside);
    tells = tells;
    assigns = assigns;
    serves = serves;
    answers = answers;
    silent = λ q. ap (λ (l : List Access). remote_in (remote_marks m s.n t.0 s.copies l)) (silent q);
  }

  pub next_of : (m : Method) → Standing m f s past → length past < 32768 → null_met_by m s t ≡ false → Next m f s past t
  next_of CcSynch now short fine =
      let l = CcLines.line_of (line s t) in
      let sound = now.layers.sound in
      let small = state_fits CcSynch s sound.range in
      next_from CcSynch (CcLayers.moved f fits s past t below now.going now.layers) now.layers.chronicle (layers_next CcSynch now short fine).chronicle
      (omega (arith, now.going.n)) (ap (λ (th : Thread). th.begun) (CcBridge.does_of s t sound below).mine) (tells_of s t)
      (λ q. omega (arith, small.tail, small.small))
      (λ q. omega (arith, target_in_range s t sound.shape sound.range below, small.small))
      (entry_tells s t).answers
      (λ q. CcNumbers.by_line (λ (l : CcLines.Line). CcLines.accesses_by (named s t) l ≡ []) l ((CcMeets.numbers l (cc.node s t)).blank q) refl)
  next_of DsmSynch now short fine =
      let l = dsm.runs s t in
      let going = now.going in
      let layers = now.layers in
      let few : s.n ≤ 16 = omega (arith, going.n, fits.head.n) in
      let tells = DsmLayers.tells f fits s past t below going layers fine in
      let here : (event : Event) (k : ℕ) → is event (entry_by DsmSynch s t) ≡ eqb (DsmLines.number l) k → Is event (entry_by DsmSynch s t) → DsmLines.number l ≡ k =
      λ event k e. DsmLayers.here f fits s past t below going layers fine event e in
      let does = DsmLayers.does f fits s past t below going layers fine in
      let written : 2 < DsmLines.number l → (dsm.written s t).0 < 2 * s.n = DsmThreads.goal_range layers.control l below does.stands does.fine in
      next_from DsmSynch (DsmLayers.moved f fits s past t below going layers fine) layers.chronicle (layers_next DsmSynch now short fine).chronicle
      (omega (arith, going.n)) (ap (λ (th : Thread). th.begun) does.mine) (dsm_tells_of s t)
      (λ q. let at = here Swaps 7 tells.swaps q in
      let mine : (dsm.written s t).0 ≡ (named s t).my.0 = DsmNumbers.by_line (λ (l : DsmLines.Line). (DsmLines.target (named s t) (dsm.node s t) l).0 ≡ (named s t).my.0) l at refl in
      omega (arith, written (omega (arith, at))))
      (λ q. let at = here Applies 16 tells.applies q in
      let same : (dsm.written s t).0 ≡ (dsm.points_to s t).0 = DsmNumbers.by_line (λ (l : DsmLines.Line). (DsmLines.target (named s t) (dsm.node s t) l).0 ≡ (DsmLines.pointed (named s t) l).0) l at refl in
      omega (arith, written (omega (arith, at))))
      (dsm_entry_tells s t).answers
      (λ q. DsmNumbers.by_line (λ (l : DsmLines.Line). DsmLines.accesses (named s t) (dsm.node s t) l ≡ []) l (here Blank 0 tells.blanks q) refl)
