-- One variable after the other. The loop keeps that the operands of the first y variables are named. Assumes nothing.
use Rattle.std.specs.Prelude.{◌*◌}
use Rattle.engine_index.specs.Operands.{NamedUpTo}
use Rattle.engine_index.proofs.name_operands.Given as goal

abbrev pub invariant-loop-y : goal.invariant-loop-y
invariant-loop-y l = NamedUpTo l.sizes l.equations (2 * l.y) l.operand
