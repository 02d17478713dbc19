-- The loop keeps that the places before s have been asked and those gone added. Assumes nothing.
use Rattle.std.specs.Prelude.{◌&&◌, ltb}
use Rattle.engine_shift.specs.Adds.{Adds}
use Rattle.engine_shift.specs.Seeds.{gone_to}
use Rattle.engine_shift.proofs.row.Row.add_gone.Given as goal

abbrev pub invariant-loop-s : goal.invariant-loop-s
invariant-loop-s l = Adds (λ q. ltb q l.s && gone_to l.self.values.now l.self.marks.now l.b q) l.initial.bad l.bad
