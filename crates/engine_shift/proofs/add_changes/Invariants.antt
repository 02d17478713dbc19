-- The loop keeps that the changes gone through have been asked and their sources added. Assumes nothing.
use Rattle.std.specs.Prelude.{◌&&◌, ◌/◌, take, eqb}
use Rattle.lists.specs.Lists.{any}
use Rattle.rules.specs.Moves.{source}
use Rattle.engine_shift.specs.Adds.{Adds}
use Rattle.engine_shift.specs.Seeds.{touches}
use Rattle.engine_shift.proofs.add_changes.Given as goal

abbrev pub invariant-loop-w : goal.invariant-loop-w
invariant-loop-w l =
    Adds (λ s. any (λ w. touches l.row.values.now l.row.marks.now l.row.earlier l.kind.gaining l.b l.kind.action.0 0 w && eqb (source (w / 2)) s) (take l.w-index l.changes))
    l.initial.bad l.bad
