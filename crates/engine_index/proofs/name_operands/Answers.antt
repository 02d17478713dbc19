-- No operand is named at the start. Assumes nothing.
use Rattle.engine_index.specs.OperandLaws.{named_none}
use Rattle.engine_index.proofs.name_operands.Goals as goal

pub loop-y-init : goal.loop-y-init
loop-y-init c = let a = c.args in named_none a.sizes a.equations.now a.operand.now c.requires.equations_in_bounds c.requires.blank
