-- The moves at `low` and after it, before `high`, lead to no pair of x with the value; each turn adds one at either side that is not
-- over. The measure is what is left at both sides. Assumes nothing.
use Prim.Native.Nat.{◌+◌, ◌-◌}
use lib.ListN.{length}
use Rattle.engine_own.specs.Looks.{reaches}
use Rattle.engine_own.specs.Outwards.{Passed}
use Rattle.engine_own.proofs.leads_from.Given as goal

abbrev pub invariant-loop-look : goal.invariant-loop-look
invariant-loop-look l = Passed (reaches l.fn.sizes l.fn.values l.fn.from l.fn.x.0) l.fn.moves l.fn.j l.low l.high

abbrev pub decreases-loop-look : goal.decreases-loop-look
decreases-loop-look l = length l.fn.moves - l.high + l.low
