-- A move more is written, and then the end. Assumes nothing.
use Rattle.std.proofs.Common.{refl, ◌+◌, get_or, arith}
use Rattle.rules.specs.Records.{bytes, widths}
use Rattle.rules.specs.Spelling.{move_rec}
use Rattle.model_write.specs.Spelled.{move_bytes}
use Rattle.model_write.specs.SpelledLaws.{writing-starts, writing-fits, writing_more, move_step_lem, move-end, end-length}
use Rattle.model_write.proofs.write_moves.Goals as goal

pub loop-q-init : goal.loop-q-init
loop-q-init c = writing-starts _ _ _ c.requires

pub write_move-requires : goal.write_move-requires
unfolding widths
write_move-requires c = let l = c.args.moves.now in
    let i = c.loop-q.q-index in
    writing-fits c.loop-q.invariant (bytes (move_rec (get_or l i 0))) (move_bytes l (i + 1)) (move_step_lem l i (omega arith))

pub loop-q-preserved : goal.loop-q-preserved
unfolding widths
loop-q-preserved c = let l = c.args.moves.now in
    let i = c.loop-q.q-index in
    writing_more c.loop-q.invariant (bytes (move_rec (get_or l i 0))) (move_bytes l (i + 1)) _ _ (move_step_lem l i (omega arith)) (c.write_move.ensures, refl)

pub write_end-requires : goal.write_end-requires
write_end-requires c = let e = end-length c.args.moves.now c.loop-q.q-index (omega arith) in
    let f = c.loop-q.invariant.room in
    omega arith

pub returns : goal.returns
unfolding widths
returns c = c.loop-q.invariant.leads _ (c.loop-q.at + 1) (rw (move-end c.args.moves.now c.loop-q.q-index (omega arith)) (c.write_end.ensures, refl))
