-- The record of the call at hand is laid behind those before it, and all of them laid are what the buffer holds. Assumes nothing.
use Rattle.std.proofs.Common.{◌≡◌, ℕ, ◌≤◌, ◌<◌, List, length, get_or, ap, ◌∙◌, append_assoc, arith, rules}
use lib.Seq.{drop-drop}
use borrow.Rule.Slice.PartMut.{put_mid}
use Rattle.machine.specs.Sizes.{most_calls}
use Rattle.bench_writer.specs.Writer.{pasted}
use Rattle.history.proofs.Places.{get_d_any}
use Rattle.kept.specs.Kept.{call_at, unkept}
use Rattle.bench.specs.Records.{kept_record, record_at}
use Rattle.bench.proofs.Putting.{record_long, lays_none, lays, lays_all}
use Rattle.bench.proofs.put_records.Goals as goal

copied : (out : List ℕ) (at k : ℕ) {part bytes : List ℕ} → part ≡ bytes → k ≡ length bytes → put_mid at k out part ≡ pasted out at bytes
copied out at k e n = rw (e, n, drop-drop, ← append_assoc)

pub loop-i-init : goal.loop-i-init
loop-i-init c = let p = c.args.played.now in lays_none p.kept p.order c.args.out.now p.counts.records

pub loop-i-preserved : goal.loop-i-preserved
loop-i-preserved c =
    let p = c.args.played.now in
    let l = c.loop-i in
    let place = get_or p.order l.i 0 in
    let below : place < most_calls = c.requires.by_index l.i c.loop-i-test.true in
    let there : p.counts.records ≤ length p.order = search rules in
    let answered : c.record_bytes-record.result ≡ record_at p.kept place =
    c.record_bytes-record.ensures ∙ ap (kept_record (call_at place)) (get_d_any p.kept place _ unkept (search rules)) in
    lays p.kept p.order c.args.out.now p.counts.records there c.requires.count_le_most_calls.1 l.out c.record_bytes-record.result l.i l.invariant c.loop-i-test.true answered
    (copied l.out _ _ c.copy_from_slice.ensures.after (omega (arith, ap length answered, record_long p.kept place)))

pub returns : goal.returns
returns c =
    let p = c.args.played.now in
    let there : p.counts.records ≤ length p.order = search rules in
    lays_all p.kept p.order c.args.out.now p.counts.records there c.requires.count_le_most_calls.1 _ _ c.loop-i.invariant c.loop-i-test.false
