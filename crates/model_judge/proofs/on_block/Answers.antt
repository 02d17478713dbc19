-- `model_judge::on_block` meets its contract: a block that fits leaves all numbers inside their limits. Assumes nothing.
use Rattle.std.proofs.Common.{sym, ◌∙◌}
use native.Mathlib.Numerals.{add-one}
use native.Mathlib.Omega.{arith}
use Rattle.model_judge.specs.Progress.{sofar_of}
use Rattle.model_judge.specs.RecordTurns.{block-kept}
use Rattle.model_judge.proofs.on_block.Goals as goal

pub invariant_of-y : goal.invariant_of-y
invariant_of-y c = record { kept = rw add-one (block-kept (sofar_of c.args.x) _ _ c.args.x.kept c.requires.block_due (sym c.block_fits.ensures ∙ c.if-not-block_fits.false) (omega arith)) }
