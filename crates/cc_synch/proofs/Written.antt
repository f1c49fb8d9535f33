-- The table tells the truth: what a line does is a function of what it finds in the places that its row touches, for every line at once. It changes no
-- field of its node but those that the row writes, and Tail only by a Swap; what it makes of its thread and of these fields depends on the fields that
-- the row reads alone. Assumes nothing.
use Rattle.std.proofs.Common.{◌≡◌, ℕ, Bool, true, false, cond, refl}
use Rattle.object.specs.declared.Request.{Request}
use Rattle.object.specs.declared.Answer.{Answer}
use Rattle.machine.specs.declared.NodeId.{NodeId}
use Rattle.machine.specs.declared.Node.{Node}
use Rattle.machine.specs.declared.Thread.{Thread}
use Rattle.machine.specs.Effect.{Effect}
use Rattle.machine.specs.declared.Field.TheVariants.{Req, Ret}
use Rattle.machine.specs.declared.Event.{Event}
use Rattle.machine.specs.declared.Event.TheVariants.{Spins, Other}
use Rattle.machine.specs.declared.Row.{Row}
use Rattle.machine.specs.Events.{node_told, given_told, req_told, ret_told}
use Rattle.machine.proofs.Rows.{row_writes, row_reads, writes_field, writes_node, touches_node, swaps_tail}
use Rattle.cc_lines.specs.Lines.{Line, L0, L1, L2, L3, L4, L5, L6, L7, L8, L9, L10, L11, L12, L13, L14, L15, L16, L17, L18, L19, L20, L21, row_of, event_in}
use Rattle.cc_synch.specs.Effect.{executed}

-- what a line finds: the node that it points to, Tail, the request of the thread's call, and the object's answer to the node's req
pub record Found : Type 0 where
  pub node : Node
  pub tail : NodeId
  pub request : Request
  pub answer : Answer

-- a node, and of f what the row makes use of: Tail by a Swap, the request where it writes req, the answer where it writes ret; all else of g
abbrev pub found_with : Node → Row → Found → Found → Found
found_with x row f g = record {
  node = x;
  tail = cond (swaps_tail row) f.tail g.tail;
  request = cond (writes_field Req row) f.request g.request;
  answer = cond (writes_field Ret row) f.answer g.answer;
}

-- f where the row touches it, g in all else, the node as a whole
abbrev pub where_touched : Row → Found → Found → Found
where_touched row f g = found_with (cond (touches_node row) f.node g.node) row f g

-- the same by fields: of the node only those that the row reads are of f
abbrev pub where_read : Row → Found → Found → Found
where_read row f g = found_with (row_reads row f.node g.node) row f g

-- what an entry of a row is, by what its line finds
abbrev pub entry_is : Row → Found → Event
entry_is row f = event_in row.event f.node

-- a line that finds f where its row touches it, and anything, g, in all else, does and tells what it does and tells with f
pub record Blind (row : Row) (does : Found → Effect) (f g : Found) : Type 0 where
  -- its thread after it is the same
  pub thread : (does (where_touched row f g)).thread ≡ (does f).thread
  -- so is the node; one that is not touched stays
  pub node : (does (where_touched row f g)).node ≡ cond (touches_node row) (does f).node g.node
  -- so is Tail; if it is not swapped it stays
  pub tail : (does (where_touched row f g)).tail ≡ cond (swaps_tail row) (does f).tail g.tail
  -- the entry is the same
  pub event : entry_is row (where_touched row f g) ≡ entry_is row f
  -- the node that it tells, m being that of the row
  pub told_node : (m : NodeId)
      → node_told (entry_is row (where_touched row f g)) (where_touched row f g).tail m ≡ node_told (entry_is row f) f.tail m
  -- the node that it is given
  pub given : given_told (entry_is row (where_touched row f g)) (where_touched row f g).tail ≡ given_told (entry_is row f) f.tail
  -- the req that it applies
  pub req : req_told (entry_is row (where_touched row f g)) (where_touched row f g).node ≡ req_told (entry_is row f) f.node
  -- the ret that it returns
  pub ret : ret_told (entry_is row (where_touched row f g)) (where_touched row f g).node ≡ ret_told (entry_is row f) f.node

-- what a row tells of a line that finds f
pub record Told (row : Row) (does : Found → Effect) (f : Found) : Type 0 where
  -- Algorithm 1 itself refuses nothing
  pub refusal : (does f).refusal ≡ 0
  -- the node changes in no field but those that the row writes
  pub node : (does f).node ≡ row_writes row (does f).node f.node
  -- and not at all if the row writes none
  pub kept : (does f).node ≡ cond (writes_node row) (does f).node f.node
  -- what these are set to depends on the fields that the row reads alone
  pub sets : (g : Found) → (does f).node ≡ row_writes row (does (where_read row f g)).node f.node
  -- and so does the thread after it
  pub reads : (g : Found) → (does (where_read row f g)).thread ≡ (does f).thread
  -- and what the entry is
  pub event : (g : Found) → entry_is row (where_read row f g) ≡ entry_is row f
  -- Tail changes only by a Swap
  pub tail : (does f).tail ≡ cond (swaps_tail row) (does f).tail f.tail
  -- and by whole nodes: what the row does not touch does not matter
  pub blind : (g : Found) → Blind row does f g

-- line 9 tells no node and is given none, a spin or not, so Tail does not matter
spin_tells_none : (waits : Bool) (to tail m : NodeId) → node_told (cond waits Spins Other) to m ≡ node_told (cond waits Spins Other) tail m
spin_tells_none true to tail m = refl
spin_tells_none false to tail m = refl

spin_given_none : (waits : Bool) (to tail : NodeId) → given_told (cond waits Spins Other) to ≡ given_told (cond waits Spins Other) tail
spin_given_none true to tail = refl
spin_given_none false to tail = refl

module _ (th : Thread) (x : Node) (tail : NodeId) (h : ℕ) (request : Request) (answer : Answer) where
  pub told : (l : Line)
      → Told (row_of l) (λ f. executed th f.node f.tail h f.request f.answer l) (record { node = x; tail = tail; request = request; answer = answer })
  told L0 = search
  told L1 = search
  told L2 = search
  told L3 = search
  told L4 = search
  told L5 = search
  told L6 = search
  told L7 = search
  told L8 = search
  told L9 = search (spin_tells_none, spin_given_none)
  told L10 = search
  told L11 = search
  told L12 = search
  told L13 = search
  told L14 = search
  told L15 = search
  told L16 = search
  told L17 = search
  told L18 = search
  told L19 = search
  told L20 = search
  told L21 = search
