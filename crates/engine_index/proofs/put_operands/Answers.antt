-- The second operand, then the first. Assumes nothing.
use mathlib.Core.Path.{sym}
use Prim.Native.Nat.{◌*◌}
use native.Mathlib.Numerals.{add-one}
use Rattle.engine_table.specs.Table.{reads_as}
use Rattle.engine_index.specs.OperandLaws.{named-same, first_slot}
use Rattle.engine_index.proofs.put_operands.Goals as goal

pub put_operand-requires-2 : goal.put_operand-requires-2
put_operand-requires-2 c = let a = c.args in
    let e = c.equation_in-e.result in
    let slot = first_slot a.equations.now a.y e.operator e.first e.second e.block e.kind (reads_as c.equation_in-e.ensures) c.requires.y_in_bounds in
    record {
      naming = c.requires.naming;
      slot = slot;
      named_up_to = named-same a.sizes a.equations.now (sym (add-one (2 * a.y))) c.put_operand.ensures;
    }
