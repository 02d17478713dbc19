-- Row after row of the block: what the rows before y leave stays on the course, and y rows are behind. Assumes nothing.
use mathlib.Core.Path.{◌≡◌}
use Prim.Native.Nat.{ℕ, ◌*◌}
use lib.ListN.{length}
use Rattle.words.specs.Words.{changes_of}
use Rattle.engine_index.specs.At.{at_labels}
use Rattle.engine_rows.specs.Rooms.{Packed}
use Rattle.engine_phase.specs.Phase.{Leads, job_in}
use Rattle.engine_phase.proofs.look_rows.Given as goal

abbrev pub invariant-loop-y : goal.invariant-loop-y
invariant-loop-y l = ((length l.marks ≡ length l.initial.marks) × ((length l.queue ≡ length l.initial.queue) × (length l.bad ≡ length l.initial.bad))) × (Packed l.known.sizes l.queue l.tail
    × Leads {I = ℕ × ℕ} (at_labels l.known l.labels) (changes_of l.changes) (λ v. job_in l.known.sizes l.block l.settling 0 l.values l.initial.marks l.initial.queue 0 0 v.0 v.1)
    (λ v. job_in l.known.sizes l.block l.settling (l.y * l.known.sizes.states) l.values l.marks l.queue 0 l.tail v.0 v.1))
