-- Block after block: the lists stay on the course of the update from the first values, at the first pair of block i, and the level follows
-- the number of true pairs. Assumes nothing.
use mathlib.Core.Path.{◌≡◌}
use mathlib.Core.Bool.{false}
use Prim.Native.Nat.{◌≤◌}
use lib.ListN.{length}
use Rattle.rules.specs.Model.{blocks_of}
use Rattle.rules.specs.Rooms.{pairs_of}
use Rattle.words.specs.Words.{changes_of}
use Rattle.engine_index.specs.At.{at_labels}
use Rattle.engine_table.specs.Table.{model_of}
use Rattle.engine_phase.specs.Course.{On}
use Rattle.engine_phase.specs.Phase.{job_in}
use Rattle.engine_phase.specs.Levels.{Levelled}
use Rattle.engine.proofs.turn_blocks.Given as goal

abbrev pub invariant-loop-i : goal.invariant-loop-i
invariant-loop-i l = ((l.i ≤ blocks_of (model_of (at_labels l.known l.labels))) × ((length l.values ≡ length l.initial.values) × ((length l.marks ≡ length l.initial.marks) × ((length l.queue ≡ length l.initial.queue) × (length l.bad ≡ length l.initial.bad)))))
    × (On (at_labels l.known l.labels) (changes_of l.changes) l.initial.values (job_in l.known.sizes l.i false 0 l.values l.marks l.queue 0 0 l.shifts l.settles)
    × Levelled l.known.sizes (pairs_of l.known.sizes) l.initial.values l.level l.values)
