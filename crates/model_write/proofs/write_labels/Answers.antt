-- A label more is written. Assumes nothing.
use Rattle.std.proofs.Common.{◌+◌, get_or, arith}
use Rattle.model_write.specs.Spelled.{one_label, label_bytes}
use Rattle.model_write.specs.SpelledLaws.{writing-starts, writing-fits, writing_more, writing-ends, label-step, label-end}
use Rattle.model_write.proofs.write_labels.Goals as goal

pub loop-i-init : goal.loop-i-init
loop-i-init c = writing-starts _ _ _ c.requires.0

pub put_label-at-requires : goal.put_label-at-requires
put_label-at-requires c = let l = c.args.labels.now in
    let i = c.loop-i.i in
    writing-fits c.loop-i.invariant (one_label i (get_or l i 0)) (label_bytes l (i + 1)) (label-step l i (omega arith))

pub loop-i-preserved : goal.loop-i-preserved
loop-i-preserved c = let l = c.args.labels.now in
    let i = c.loop-i.i in
    writing_more c.loop-i.invariant (one_label i (get_or l i 0)) (label_bytes l (i + 1)) _ _ (label-step l i (omega arith)) c.put_label-at.ensures

pub returns : goal.returns
returns c = writing-ends c.loop-i.invariant (label-end c.args.labels.now c.loop-i.i (omega arith))
