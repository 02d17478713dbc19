-- An equation more is written with its sign. Assumes nothing.
use Rattle.std.proofs.Common.{refl, true, map, ◌+◌, arith}
use Rattle.std.proofs.Math.ListN.{length-map}
use Rattle.rules.specs.Records.{bytes, widths}
use Rattle.rules.specs.Session.{unword}
use Rattle.rules.specs.Spelling.{signed_rec}
use Rattle.model_write.specs.Spelled.{equation_bytes}
use Rattle.model_write.specs.SpelledLaws.{writing-starts, writing-fits, writing_more, writing-ends, signed-step, equation-end}
use Rattle.model_write.proofs.write_signs.Goals as goal

pub loop-w-init : goal.loop-w-init
loop-w-init c = writing-starts _ _ _ c.requires

pub write_signed-requires : goal.write_signed-requires
unfolding widths
write_signed-requires c = let ws = c.args.equations.now in
    let i = c.loop-w.w-index in
    writing-fits c.loop-w.invariant (bytes (signed_rec c.equation_in.result)) (equation_bytes true 0 (map unword ws) (i + 1)) (signed-step ws i _ (omega arith) c.equation_in.ensures)

pub loop-w-preserved : goal.loop-w-preserved
unfolding widths
loop-w-preserved c = let ws = c.args.equations.now in
    let i = c.loop-w.w-index in
    writing_more c.loop-w.invariant (bytes (signed_rec c.equation_in.result)) (equation_bytes true 0 (map unword ws) (i + 1)) _ _ (signed-step ws i _ (omega arith) c.equation_in.ensures) (c.write_signed.ensures, refl)

pub returns : goal.returns
returns c = let ws = c.args.equations.now in
    let long = length-map ws unword in
    writing-ends c.loop-w.invariant (equation-end true 0 (map unword ws) c.loop-w.w-index (omega arith))
