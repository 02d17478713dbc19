-- What the moves passed have summed to and the weights of the others make the stamp. Assumes nothing.
use Rattle.std.proofs.Common.{◌≡◌}
use Rattle.rules.specs.Moves.{stamp_of}
use Rattle.moves.specs.Stamps.{stamp_from}
use Rattle.moves.proofs.stamp_of.Given as goal

abbrev pub invariant-loop-m : goal.invariant-loop-m
invariant-loop-m l = stamp_from l.moves l.sources l.actions l.targets l.m-index ≡ stamp_of l.moves
