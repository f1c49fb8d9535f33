-- The walk starts behind the head, the next row lies within the file and its requests within the places, and one row more is walked. Assumes nothing.
use Rattle.std.proofs.Common.{◌+◌, ◌≤◌, length, length-drop, arith, rules}
use Rattle.std.proofs.lemmas.Slice.{between_to_end}
use Rattle.bench_file.proofs.Each.{each_at}
use Rattle.loader.proofs.Walk.{walk_starts, row_inside, walk_goes_on}
use Rattle.loader.proofs.machine_of.Goals as goal

pub loop-i-init : goal.loop-i-init
loop-i-init c =
    let file = c.args.file.now in
    rw (c.no_request-requests.ensures, c.head_bytes-at.ensures)
    (walk_starts file c.args.head (each_at file (λ i. omega (arith, c.type_inv.file i))) c.requires)

pub bounds-file-at : goal.bounds-file-at
bounds-file-at c = omega (arith, row_inside c.loop-i.invariant c.loop-i-test.true)

pub overflow_add-at : goal.overflow_add-at
overflow_add-at c = omega (arith, row_inside c.loop-i.invariant c.loop-i-test.true)

pub slice_bounds-lay-count : goal.slice_bounds-lay-count
slice_bounds-lay-count c = omega (arith, row_inside c.loop-i.invariant c.loop-i-test.true)

pub slice_bounds-lay-start : goal.slice_bounds-lay-start
slice_bounds-lay-start c =
    let inside : c.loop-i.at + 1 ≤ length c.args.file.now = omega (arith, row_inside c.loop-i.invariant c.loop-i-test.true) in
    search (rules, inside)

pub lay-requires : goal.lay-requires
lay-requires c =
    let file = c.args.file.now in
    rw (between_to_end file (c.loop-i.at + 1) (length file) (omega arith), length-drop)
    (omega (arith, row_inside c.loop-i.invariant c.loop-i-test.true))

pub overflow_add-at-in-loop-i-2 : goal.overflow_add-at-in-loop-i-2
overflow_add-at-in-loop-i-2 c = omega (arith, row_inside c.loop-i.invariant c.loop-i-test.true)

pub loop-i-preserved : goal.loop-i-preserved
loop-i-preserved c =
    let file = c.args.file.now in
    rw (c.lay.ensures, between_to_end file (c.loop-i.at + 1) (length file) (omega arith))
    (walk_goes_on c.loop-i.invariant c.loop-i-test.true)
