-- Pair after pair turns up to where the queue ended at first. The loop keeps that what has turned is a round up to the pair
-- in front. Assumes nothing.
use mathlib.Core.Path.{◌≡◌}
use Prim.Native.Nat.{◌≤◌}
use lib.ListN.{length}
use Rattle.engine_turn.specs.Turns.{round_of}
use Rattle.engine_phase.specs.Rounds.{Rounded}
use Rattle.engine_phase.proofs.turn_round.Given as goal

abbrev pub invariant-loop-f : goal.invariant-loop-f
invariant-loop-f l = ((length l.values ≡ length l.initial.values) × ((length l.marks ≡ length l.initial.marks) × (length l.queue ≡ length l.initial.queue))) × ((l.f ≤ l.f-end)
    × Rounded l.known.sizes l.known.equations.now l.known.moves.now l.settling l.from l.front l.f (round_of l.initial.values l.initial.marks l.initial.queue l.f-end l.initial.r.visits) (round_of l.values l.marks l.queue l.r.tail l.r.visits))
