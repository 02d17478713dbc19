-- The loop keeps that the rows before x have their own values, and what comes after them is as it was. Assumes nothing.
use Rattle.std.specs.Prelude.{◌≡◌, ◌*◌, min}
use Rattle.engine_values.specs.Starts.{filled, own_byte}
use Rattle.engine_values.proofs.own_values.Given as goal

abbrev pub invariant-loop-x : goal.invariant-loop-x
invariant-loop-x l = l.values ≡ filled (min l.n (l.x * l.states)) (own_byte l.states l.equations) l.initial.values
