-- Remote references of a thread's own line: from its stage's limit to that of its next stage. Assumes Control, n at most 16, and full copies.
use Prim.Native.Nat.{ℕ, ◌+◌, ◌≤◌, ◌<◌}
use native.Mathlib.Omega.{arith}
use mathlib.Core.Path.{◌≡◌, refl, ◌∙◌, ap}
use mathlib.Core.Bool.{cond, not, ◌&&◌}
use mathlib.Core.List.{List}
use lib.Dec.{eqb, ltb}
use borrow.Author.Tests.{le-ltb, ne_eqb}
use Rattle.object.specs.declared.Request.{Request}
use Rattle.object.specs.declared.Answer.{Answer}
use Rattle.object.specs.Each.{Each}
use Rattle.object.proofs.Choice.{by_equal, either}
use Rattle.machine.specs.declared.Field.TheVariants.{Next}
use Rattle.machine.specs.Accesses.{read, swap, located}
use Rattle.machine.specs.Fields.{is_null}
use Rattle.cc_lines.specs.Lines.{Line, L0, L1, L2, L3, L4, L5, L6, L7, L8, L9, L10, L11, L12, L13, L14, L15, L16, L17, L18, L19, L20, L21, number}
use Rattle.machine.specs.Threads.{goes}
use Rattle.copies.specs.Remote.{has_copy_of, Referred, referred}
use Rattle.copies.proofs.References.{access_most}
use Rattle.machine.specs.Lines.{stands_at}
use Rattle.step.proofs.Numbers.{at_most_one}
use Rattle.invariant.specs.Stages.{w11, w12, c13, wait, combine, stage_of}
use Rattle.invariant.specs.Ledger.{Ledger}
use Rattle.invariant.specs.View.{View, does}
use Rattle.invariant.specs.Remote.{whole_of, fetch, written, Spent}
use Rattle.invariant.proofs.Copies.{Of, fetch_most, fetched, kept, paid}
use Rattle.invariant.proofs.Clear.{made, noted_by, Entering, mine, fits}

-- the remote references of thread t's line, and the copies after it
abbrev pub after_line : ℕ → View → ℕ → List ℕ → Line → Referred
after_line n v t copies l = referred n t copies (made v t l)

-- after a line that does no more than choose the one that follows
abbrev Chosen : ℕ → View → Ledger → ℕ → List ℕ → ℕ → Line → ℕ → Type 0
Chosen n v g t copies cost l k = Spent (stage_of k) g (after_line n v t copies l).copies t (goes (v.thread t) k) (cost + (after_line n v t copies l).remote)

module _ {n h : ℕ} {v v' : View} {g : Ledger} {t : ℕ} {request : Request} {answer : Answer} {copies : List ℕ} where
  module _ {l : Line} (en : Entering n h v v' g t l request answer copies) where
    abbrev after : Referred
    after = after_line n v t copies l

    -- the line's accesses, if all are of node m, cost what it does, and the thread keeps what it has
    pub pays : (m : ℕ) → Each (Of m) (made v t l) → after.remote + fetch after.copies t m ≤ fetch copies t m
    pays m of = paid n t en.does.below en.small (made v t l) copies en.len (fits en) m of

    keeps : (m : ℕ) → fetch after.copies t m ≤ fetch copies t m
    keeps m = kept n t en.does.below en.small (made v t l) copies en.len (fits en) t m en.does.below (λ d. absurd (d refl))

    -- the writes of a released position, and of one that has the turn
    pub released_written : stage_of (stands_at (number l)) ≡ wait w11 → written g (g.at t) ≤ 3
    released_written e =
        let f = (mine en (wait w11) e).facts.1 in
        let past : g.at t < g.r = f.released tt in
        rw (ne_eqb (g.at t) g.b (λ q. omega (arith, f.even q)))
        (omega (arith, at_most_one (ltb (g.at t) g.a), at_most_one (ltb (g.at t) g.d), at_most_one (ltb (g.at t) g.r)))

    turn_written : stage_of (stands_at (number l)) ≡ wait w12 → written g (g.at t) ≤ 1
    turn_written e =
        let f = (mine en (wait w12) e).facts.1 in
        let i = g.at t in
        let even = f.even (f.turn tt) in
        let order = en.control.order in
        rw (le-ltb i g.a (omega (arith, even, f.turn tt)), le-ltb i g.d (omega (arith, even, order, f.turn tt)), le-ltb i g.r (omega (arith, even, f.turn tt)))
        (omega (arith, at_most_one (eqb i g.b)))

  module _ (cost : ℕ) where
    pub own_line : (l : Line) → Entering n h v v' g t l request answer copies
        → Spent (stage_of (stands_at (number l))) g copies t (v.thread t) cost
        → Spent (stage_of (does v t l h request answer).thread.line) (noted_by n v t g l) (after_line n v t copies l).copies t (does v t l h request answer).thread
        (cond (eqb (number l) 1) 0 cost + (after_line n v t copies l).remote)
    own_line L0 en s = rw en.does.stands absurd
    own_line L1 en s = λ _. omega (arith, fetch_most copies t (v.thread t).own.0)
    own_line L2 en s = λ _. omega (arith, s tt, pays en _ (refl, tt))
    own_line L3 en s = λ _. omega (arith, s tt, pays en _ (refl, tt))
    own_line L4 en s = λ _. omega (arith, s tt, pays en _ (refl, tt))
    own_line L5 en s = λ _. omega (arith, s tt, access_most (has_copy_of copies t (located swap)), fetch_most (after_line n v t copies L5).copies t v.tail.0)
    own_line L6 en s = λ _. omega (arith, s tt, pays en _ (refl, tt))
    own_line L7 en s = λ _. omega (arith, s tt, pays en _ (refl, tt))
    own_line L8 en s = λ _. omega (arith, s tt)
    own_line L9 en s =
        either (Chosen n v g t copies cost L9) (v.node (v.thread t).cur.0).wait (λ _ _. omega (arith, s tt, pays en _ (refl, tt))) (λ _ _. omega (arith, s tt, pays en _ (refl, tt)))
    own_line L10 en s =
        either (Chosen n v g t copies cost L10) (v.node (v.thread t).cur.0).completed (λ _ _. omega (arith, s tt, pays en _ (refl, tt))) (λ _ _. omega (arith, s tt, pays en _ (refl, tt)))
    own_line L11 en s = absurd
    own_line L12 en s = λ _. omega (arith, s tt, turn_written en refl)
    own_line L13 en s =
        either (Chosen n v g t copies cost L13) (not (is_null (v.node (v.thread t).tmp.0).next) && ltb (v.thread t).served h)
        (λ _ _. omega (arith, at_most, fetched n t en.does.below en.small copies en.len (read (v.thread t).tmp Next) (fits en).0 _ refl))
        (λ _ _. omega (arith, at_most))
      where
        -- in the first round tmpNode is curNode
        first : (v.thread t).served ≡ 0 → (v.thread t).tmp.0 ≡ (v.thread t).cur.0
        first z =
            let f = (mine en (combine c13) refl).facts in
            f.1.1.serving ∙ ap g.node (omega (arith, f.1.1.counted, f.1.0.turn)) ∙ f.0.node

        at_most : cost + (after_line n v t copies L13).remote + fetch (after_line n v t copies L13).copies t (v.thread t).cur.0 ≤ 4 + (v.thread t).served
        at_most =
            by_equal (v.thread t).served 0
            (λ z. omega (arith, s tt, pays en (v.thread t).cur.0 (ap whole_of (first z), tt)))
            (λ z. omega (arith, s tt, pays en _ (refl, tt), keeps en (v.thread t).cur.0, fetch_most copies t (v.thread t).tmp.0))
    own_line L14 en s = λ _. omega (arith, s tt)
    own_line L15 en s = λ _. omega (arith, s tt, pays en _ (refl, tt), keeps en (v.thread t).cur.0)
    own_line L16 en s = λ _. omega (arith, s tt, pays en _ (refl, (refl, tt)), keeps en (v.thread t).cur.0)
    own_line L17 en s = λ _. omega (arith, s tt, pays en _ (refl, tt), keeps en (v.thread t).cur.0)
    own_line L18 en s = λ _. omega (arith, s tt, pays en _ (refl, tt), keeps en (v.thread t).cur.0)
    own_line L19 en s = λ _. omega (arith, s tt)
    own_line L20 en s = λ _. omega (arith, s tt, pays en _ (refl, tt), keeps en (v.thread t).cur.0, fetch_most copies t (v.thread t).tmp.0)
    own_line L21 en s = absurd
