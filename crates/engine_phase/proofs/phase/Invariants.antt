-- The rows are looked at, then the pairs that wait turn round after round. The loop keeps that what has turned so far is one
-- round up to the pair in front; no more turn than there are pairs, and the pairs left, pairs - front, get fewer.
-- Assumes nothing.
use mathlib.Core.Path.{◌≡◌}
use Prim.Native.Nat.{◌-◌}
use lib.ListN.{length}
use Rattle.rules.specs.Rooms.{pairs_of}
use Rattle.engine_turn.specs.Turns.{round_of}
use Rattle.engine_phase.specs.Rounds.{Rounded}
use Rattle.engine_phase.proofs.phase.Given as goal

abbrev pub invariant-loop-front : goal.invariant-loop-front
invariant-loop-front l = ((length l.values ≡ length l.initial.values) × ((length l.marks ≡ length l.initial.marks) × (length l.queue ≡ length l.initial.queue)))
    × Rounded l.known.sizes l.known.equations.now l.known.moves.now l.settling l.from 0 l.front (round_of l.initial.values l.initial.marks l.initial.queue l.tail l.so_far.visits) (round_of l.values l.marks l.queue l.at.tail l.at.visits)

abbrev pub decreases-loop-front : goal.decreases-loop-front
decreases-loop-front l = pairs_of l.known.sizes - l.front
