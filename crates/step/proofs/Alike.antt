-- Lists, rows of requests, copies, objects and lines that are the same as far as n, the method's last node, a thread's count and the items held go: they are
-- judged alike and are the same so far after an entry. Assumes what the modules' parameters say.
use Rattle.std.proofs.Common.{◌≡◌, ℕ, zero, suc, ◌+◌, ◌<◌, ◌≤◌, Bool, true, false, cond, not, ◌&&◌, ◌||◌, T, eqb, ltb, List, [], ◌∷◌, length, get_or, take, set, sym, refl, ap, ◌∙◌, subst, ap₂, add-zero, arith, length-set, get_or-take, Option, Some, None}
use native.Mathlib.Decide.{ℕ_discrete}
use lib.ListN.{get_or-eq_default}
use lib.Seq.{take-set-lt, set_out}
use Rattle.object.specs.declared.Kind.{Kind}
use Rattle.object.specs.declared.Request.{Request}
use Rattle.object.specs.declared.Answer.{Answer}
use Rattle.object.specs.declared.Answer.TheVariants.{Empty}
use Rattle.object.specs.declared.Object.{Object}
use Rattle.object.specs.Apply.{object_in_range, answered}
use Rattle.object.specs.Each.{Each, every}
use Rattle.object.specs.Apply.{knows}
use Rattle.object.proofs.Choice.{either}
use Rattle.object.proofs.Each.{each_append}
use Rattle.object.proofs.Plainly.{HoldSame, AnswerSame, same_answered}
use Rattle.machine.specs.declared.Method.{Method}
use Rattle.machine.specs.declared.Method.TheVariants.{CcSynch, DsmSynch}
use Rattle.machine.specs.declared.NodeId.{NodeId}
use Rattle.machine.specs.declared.Node.{Node}
use Rattle.machine.specs.declared.Thread.{Thread}
use Rattle.machine.specs.declared.SharedAccess.{SharedAccess}
use Rattle.machine.specs.declared.SharedAccess.TheVariants.{NoAccess, Read, Write, Swap, Cas, ReadBehind, WriteBehind}
use Rattle.machine.specs.declared.Row.{Row}
use Rattle.machine.specs.Accesses.{Access, same_location, located, is_none, access_to, accesses_of}
use Rattle.machine.specs.Fields.{is_null}
use Rattle.machine.specs.Lines.{line_run}
use Rattle.machine.specs.Sizes.{locations_of, most_locations, most_nodes}
use Rattle.copies.specs.Remote.{place, ends, copies_after, remote_by, referred, referred_by}
use Rattle.copies.proofs.Holding.{copy_after_lem}
use Rattle.copies.proofs.References.{copies_stay}
use Rattle.state.specs.Range.{req_in_range, row_of_thread, rows_in_range}
use Rattle.state.proofs.RangeFacts.{NodeOrNull, there, nowhere, Begun}
use Rattle.step.specs.Entry.{zero_thread, zero_node, served_by}
use Rattle.step.specs.ByMethod.{line_done}
use Rattle.step.specs.Past.{SameCopies}

-- lists with the same first n have the same at each of these places
pub same_at : {A : Type 0} (n : ℕ) (xs ys : List A) → take n xs ≡ take n ys → (i : ℕ) (d : A) → i < n → get_or xs i d ≡ get_or ys i d
same_at n xs ys e i d h = sym (get_or-take n xs i d h) ∙ ap (λ l. get_or l i d) e ∙ get_or-take n ys i d h

-- and still after one of them is set
pub same_set : {A : Type 0} (n : ℕ) (xs ys : List A) → take n xs ≡ take n ys → (i : ℕ) (a : A) → i < n → take n (set xs i a) ≡ take n (set ys i a)
same_set n xs ys e i a h = take-set-lt n xs i a h ∙ ap (λ l. set l i a) e ∙ sym (take-set-lt n ys i a h)

-- rows that are the same as far as their counts use them are judged alike
pub same_rows : (kind : Kind) (requests requests' : List Request) (i n : ℕ) (ths : List Thread)
    → ((k : ℕ) → k < n → row_of_thread requests (i + k) (get_or ths k zero_thread).count ≡ row_of_thread requests' (i + k) (get_or ths k zero_thread).count)
    → rows_in_range kind requests i (take n ths) ≡ rows_in_range kind requests' i (take n ths)
same_rows kind requests requests' i zero ths f = refl
same_rows kind requests requests' i (suc n) [] f = refl
same_rows kind requests requests' i (suc n) (th ∷ ths) f =
    let next : (k : ℕ) → i + suc k ≡ i + 1 + k = λ k. omega arith in
    ap₂ ◌&&◌ (ap (every (knows kind)) (rw add-zero at (f 0 (omega arith))))
    (same_rows kind requests requests' (i + 1) n ths (λ k h. rw (← next k) (f (suc k) (omega arith))))

-- an access to Tail or to a node up to n
abbrev pub Near : ℕ → Access → Type 0
Near n a = place (located a) < locations_of (n + 1)

module _ (n : ℕ) (m behind : NodeId) (up_to_lem : m.0 ≤ n) (behind_up_to : behind.0 ≤ n) where
  -- the accesses of a line that points to such a node, before such a one, are near
  near_to : (a : SharedAccess) → Each (Near n) (access_to m behind a)
  near_to NoAccess = tt
  near_to (Read field) = (omega arith, tt)
  near_to (Write field) = (omega arith, tt)
  near_to Swap = (omega arith, tt)
  near_to Cas = (omega arith, tt)
  near_to (ReadBehind field) = (omega arith, tt)
  near_to (WriteBehind field) = (omega arith, tt)

  pub near_of : (r : Row) → Each (Near n) (accesses_of r m behind)
  near_of r =
      each_append (Near n) (access_to m behind r.first) _ (near_to r.first)
      (either (Each (Near n)) (not (is_none r.third) && is_null behind) (λ e. tt)
      (λ e. each_append (Near n) (access_to m behind r.second) (access_to m behind r.third) (near_to r.second) (near_to r.third)))

-- a node in use or null, and the nodes with it written: past the end of the array nothing is read, and nothing written
module _ (last : ℕ) (xs ys : List Node) (long : length xs ≡ most_nodes) (long' : length ys ≡ most_nodes) (same : take (last + 1) xs ≡ take (last + 1) ys) where
  pub same_node_at : (i : ℕ) → NodeOrNull last i → get_or xs i zero_node ≡ get_or ys i zero_node
  same_node_at i (there h) = same_at (last + 1) xs ys same i zero_node (omega arith)
  same_node_at i (nowhere e) =
      get_or-eq_default xs zero_node {n = i} (omega arith) ∙ sym (get_or-eq_default ys zero_node {n = i} (omega arith))

  pub same_node_set : (i : ℕ) (x : Node) → NodeOrNull last i → take (last + 1) (set xs i x) ≡ take (last + 1) (set ys i x)
  same_node_set i x (there h) = same_set (last + 1) xs ys same i x (omega arith)
  same_node_set i x (nowhere e) = rw (set_out xs i x (omega arith), set_out ys i x (omega arith)) same

-- copies that are the same as far as n goes are so after one access of a thread below n
module _ (n t : ℕ) (below : t < n) (few : n ≤ 16) where
  module _ (c c' : List ℕ) (full : length c ≡ most_locations) (full' : length c' ≡ most_locations) (same : SameCopies CcSynch n c c') where
    same_after : (a : Access) → Near n a → SameCopies CcSynch n (copies_after n t a c) (copies_after n t a c')
    same_after a q u h l k =
        copy_after_lem n t c below few a (omega arith) u h l
        ∙ ap (λ (b : Bool). cond (same_location (located a) l && (eqb t u || ends a)) (eqb t u) b) (same u h l k)
        ∙ sym (copy_after_lem n t c' below few a (omega arith) u h l)

  -- and after a list of them, of which as many are remote
  pub same_referred : (accesses : List Access) → Each (Near n) accesses → (c c' : List ℕ) → length c ≡ most_locations → length c' ≡ most_locations
      → SameCopies CcSynch n c c'
      → ((referred n t c accesses).remote ≡ (referred n t c' accesses).remote) × SameCopies CcSynch n (referred n t c accesses).copies (referred n t c' accesses).copies
  same_referred [] near c c' full full' same = (refl, same)
  same_referred (a ∷ accesses) near c c' full full' same =
      let after = same_after c c' full full' same a near.0 in
      let rest = same_referred accesses near.1 (copies_after n t a c) (copies_after n t a c') (length-set c _ _ ∙ full) (length-set c' _ _ ∙ full') after in
      (ap₂ ◌+◌ (ap (λ (b : Bool). cond b 0 1) (same t below (located a) near.0)) rest.0, rest.1)

-- DSM-Synch looks at no copies, and leaves them
pub owner_decides : (n t : ℕ) (accesses : List Access) (c c' : List ℕ) → (referred_by DsmSynch n t c accesses).remote ≡ (referred_by DsmSynch n t c' accesses).remote
owner_decides n t [] c c' = refl
owner_decides n t (a ∷ accesses) c c' = ap (λ k. remote_by DsmSynch c t a + k) (owner_decides n t accesses c c')

-- so it is by either method; the accesses of CC-Synch are near
abbrev pub NearBy : Method → ℕ → List Access → Type 0
NearBy CcSynch n accesses = Each (Near n) accesses
NearBy DsmSynch n accesses = Unit

pub same_referred_by : (m : Method) (n t : ℕ) → t < n → n ≤ 16 → (accesses : List Access) → NearBy m n accesses → (c c' : List ℕ)
    → length c ≡ most_locations → length c' ≡ most_locations → SameCopies m n c c'
    → ((referred_by m n t c accesses).remote ≡ (referred_by m n t c' accesses).remote)
    × SameCopies m n (referred_by m n t c accesses).copies (referred_by m n t c' accesses).copies
same_referred_by CcSynch n t below few accesses near c c' full full' same = same_referred n t below few accesses near c c' full full' same
same_referred_by DsmSynch n t below few accesses near c c' full full' same =
    (owner_decides n t accesses c c', rw (copies_stay n t c accesses, copies_stay n t c' accesses) same)

-- whether or not a req is served, objects that hold the same answer the same
pub same_served : (kind : Kind) (capacity : ℕ) (ob ob' : Object) (serves : Bool) (req : Option Request) → length ob.items ≡ 64 → length ob'.items ≡ 64
    → T (object_in_range kind capacity ob) → req_in_range kind req ≡ true → HoldSame ob ob'
    → AnswerSame (cond serves (served_by kind capacity ob req) (answered Empty ob)) (cond serves (served_by kind capacity ob' req) (answered Empty ob'))
same_served kind capacity ob ob' false req long long' fits known same = record { answer = refl; object = same }
same_served kind capacity ob ob' true None long long' fits known same = record { answer = refl; object = same }
same_served kind capacity ob ob' true (Some request) long long' fits known same =
    same_answered kind capacity ob ob' request long long' fits (rw known tt) same

-- a thread that has begun no request runs line 1 or gives a blank, which use none
idle : (line begun : ℕ) → Begun line begun → begun ≡ 0 → line ≡ 0
idle zero begun f e = refl
idle (suc line) begun f e = absurd (omega arith)

module _ (m : Method) (t : ℕ) (th : Thread) (x y : Node) (tail : NodeId) (h : ℕ) (request request' : Request) (answer : Answer) where
  abbrev Same : ℕ → Type 0
  Same k = line_done m t th x y tail h request answer k ≡ line_done m t th x y tail h request' answer k

from_idle : (m : Method) (t : ℕ) (th : Thread) (x y : Node) (tail : NodeId) (h : ℕ) (request request' : Request) (answer : Answer) (left : Bool)
    → Same m t th x y tail h request request' answer (cond left 1 0)
from_idle CcSynch t th x y tail h request request' answer true = refl
from_idle CcSynch t th x y tail h request request' answer false = refl
from_idle DsmSynch t th x y tail h request request' answer true = refl
from_idle DsmSynch t th x y tail h request request' answer false = refl

pub same_done : (m : Method) (t : ℕ) (th : Thread) (x y : Node) (tail : NodeId) (h : ℕ) (request request' : Request) (answer : Answer)
    → Begun th.line th.begun → (0 < th.begun → request ≡ request') → Same m t th x y tail h request request' answer (line_run th)
same_done m t th x y tail h request request' answer f same =
    elim (ℕ_discrete th.begun 0) [
      | yes e ↦
          let runs : cond (ltb th.begun th.count) 1 0 ≡ line_run th = rw (idle th.line th.begun f e) refl in
          subst (Same m t th x y tail h request request' answer) runs (from_idle m t th x y tail h request request' answer (ltb th.begun th.count))
      | no d ↦ rw (same (omega (arith, d)))
    ]
