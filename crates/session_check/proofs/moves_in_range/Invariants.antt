-- The loop's invariant: what was found of the moves so far, and what is asked of the others, is what is asked of all. Assumes nothing.
use Rattle.std.proofs.Common.{◌≡◌, ◌&&◌, drop}
use Rattle.lists.specs.Lists.{all}
use Rattle.session_check.specs.MoveWalk.{inside}
use Rattle.session_check.proofs.moves_in_range.Given as goal

abbrev pub invariant-loop-q : goal.invariant-loop-q
invariant-loop-q l = (l.ok && all (inside l.states l.actions) (drop l.q-index l.moves)) ≡ all (inside l.states l.actions) l.moves
