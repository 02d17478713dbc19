-- The shape of the row's equation decides what is asked. Assumes nothing.
use native.Mathlib.Omega.{arith}
use Rattle.engine_table.specs.Shapes.{shaped-low}
use Rattle.engine_table.specs.Table.{reads_as}
use Rattle.engine_shift.specs.ShiftRows.{join-rows, step-rows, tells-low, tells-join, tells-step}
use Rattle.engine_shift.proofs.shift_row.Goals as goal

pub shift_join-requires : goal.shift_join-requires
shift_join-requires c = let a = c.args in
    let e = c.equation_in-e.result in
    let d = a.known.now.drawn in
    let l = d.long_equations in
    let n = join-rows d a.y.0 c.requires.y_lt_variables.0 e.operator e.first e.second e.block e.kind (reads_as c.equation_in-e.ensures) c.in-Join.ensures.0 c.in-Join.ensures.1 in
    record {
      bad_len = c.requires.y_lt_variables.1.1.1;
      operands_in_bounds = (omega arith, omega arith);
      first_in_bounds = (omega arith, omega arith);
      second_in_bounds = (omega arith, omega arith);
    }

pub shift_step-requires : goal.shift_step-requires
shift_step-requires c = let a = c.args in
    let e = c.equation_in-e.result in
    let d = a.known.now.drawn in
    let l = d.long_equations in
    let n = step-rows d a.y.0 c.requires.y_lt_variables.0 e.operator e.first e.second e.block e.kind (reads_as c.equation_in-e.ensures) c.in-Step.ensures in
    record {
      changes_value = (c.requires.changes_value, c.requires.y_lt_variables.1.1.1);
      names_in_bounds = (n.0.0, omega arith);
      row_in_bounds = (omega arith, omega arith);
    }

pub returns-in-Constant : goal.returns-in-Constant
returns-in-Constant c = let a = c.args in
    let e = c.equation_in-e.result in
    λ labels d told. tells-low d a.y.0 c.requires.y_lt_variables.0 e.operator e.first e.second e.block e.kind (reads_as c.equation_in-e.ensures) a.changes.now a.values.now a.marks.now
    c.requires.bits told a.bad.now (shaped-low e.operator c.shape_of.result c.shape_of.ensures c.in-Constant.is) c.requires.y_lt_variables.1.1.1

pub returns-in-Join : goal.returns-in-Join
returns-in-Join c = let a = c.args in
    let e = c.equation_in-e.result in
    λ labels d told. tells-join d a.y.0 c.requires.y_lt_variables.0 e.operator e.first e.second e.block e.kind (reads_as c.equation_in-e.ensures) a.changes.now a.values.now a.marks.now
    c.requires.bits told _ _ c.in-Join.ensures.0 c.in-Join.ensures.1 c.shift_join.ensures

pub returns-in-Step : goal.returns-in-Step
returns-in-Step c = let a = c.args in
    let e = c.equation_in-e.result in
    λ labels d told. tells-step d a.y.0 c.requires.y_lt_variables.0 e.operator e.first e.second e.block e.kind (reads_as c.equation_in-e.ensures) a.changes.now a.values.now a.marks.now
    c.requires.bits told _ _ c.in-Step.ensures c.requires.changes_value c.shift_step.ensures
