-- Each turn lays one more column behind its gap, and all of them with the end of the line are the row. Assumes nothing.
use Rattle.std.proofs.Common.{◌≡◌, ◌≤◌, ℕ, List, [], ◌++◌, length, get_or, take, sym, arith}
use Rattle.std.proofs.lemmas.Iterator.Consumers.{YieldsList-turn, YieldsList-end}
use Rattle.std.proofs.lemmas.List.{length_push}
use Rattle.cells.specs.Rows.{columns, row_text, gap}
use Rattle.cells.specs.Text.{numbered}
use Rattle.cells.proofs.Laid.{◌&◌, told}
use Rattle.cells.proofs.Numbered.{lays_none, lays_more, lays_all}
use Rattle.cells.proofs.Rows.{pairs, turn, turns, spaced, line_spaced}
use Rattle.cells.proofs.Text.row.Goals as goal

pub loop-i-init : goal.loop-i-init
loop-i-init g c = lays_none spaced (columns c.args.widths.now c.args.cells.now) [] _ _

pub loop-i-preserved : goal.loop-i-preserved
loop-i-preserved g c =
    let widths = c.args.widths.now in
    let cells = c.args.cells.now in
    let k = length c.loop-i.yielded in
    let t = turn widths cells 0 k _ (YieldsList-turn (pairs widths cells c.into_iter-i-iterator.result (cc) (cc) (cc)) c.loop-i.yielded c.loop-i.i-iterator c.loop-i.yielded_by _ c.next.new.self _ c.in-Some.is c.next.ensures.steps) in
    let place : c.in-Some.i ≡ k = omega (arith, t.place) in
    told (λ (n : ℕ). numbered spaced 0 (take n (columns widths cells))) (sym (length_push c.loop-i.yielded _))
    (lays_more spaced (columns widths cells) [] k t.there c.loop-i.invariant
    (told (λ (i : ℕ). gap i ++ get_or (columns widths cells) k []) place (told (λ (word : List ℕ). gap c.in-Some.i ++ word) t.column (c.gap.ensures & c.column.ensures))))

pub returns : goal.returns
unfolding row_text
returns g c =
    let widths = c.args.widths.now in
    let cells = c.args.cells.now in
    let k = length c.loop-i.yielded in
    let e = YieldsList-end (pairs widths cells c.into_iter-i-iterator.result (cc) (cc) (cc)) c.loop-i.yielded c.loop-i.i-iterator c.loop-i.yielded_by _ c.next.new.self c.in-None.is c.next.ensures.steps in
    let all : length (columns widths cells) ≤ k = omega (arith, e.1, turns widths cells 0) in
    told (λ text. text) (line_spaced (columns widths cells)) (lays_all spaced (columns widths cells) [] k all c.loop-i.invariant & c.text.ensures)
