-- One place after the other. Assumes nothing.
use Rattle.std.specs.Prelude.{refl, ◌+◌, length, get_or}
use Rattle.std.proofs.Common.{arith, add-one}
use Rattle.engine_rows.specs.RowLoops.{bad_from}
use Rattle.engine_rows.specs.Queued.{queued-more, hits_few, bad-from-at}
use Rattle.engine_rows.proofs.queue_some.Goals as goal

pub loop-i-preserved : goal.loop-i-preserved
loop-i-preserved c = let a = c.args in
    let l = c.loop-i in
    let t = c.loop-i-test.true in
    let p = a.first.0 in
    let g = bad_from p a.part.now in
    let room = c.requires.first_in_bounds in
    let w = queued-more a.y.0 g a.queue.now a.tail p l.i (p + l.i) (l.i + 1) l.top (get_or a.part.now l.i 0) _ l.queue _
    refl (add-one l.i) (omega arith) l.invariant.1 (c.requires.bits l.i) (bad-from-at p a.part.now l.i) c.waiting.ensures refl in
    let few = hits_few g p (l.i + 1) (length a.part.now) (omega arith) in
    let reach = w.reaches in
    (omega arith, w)
