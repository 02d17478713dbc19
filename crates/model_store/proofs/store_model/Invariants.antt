-- The reader keeps the bytes. From turn to turn the rooms hold what has been read, and storing the rest gives the whole; each turn
-- is nearer to the end. Assumes nothing.
use Rattle.std.proofs.Common.{◌≡◌}
use Rattle.limits.specs.Lent.{lengths_by}
use Rattle.model_judge.specs.Going.{left}
use Rattle.model_store.specs.Stored.{Storing, three}
use Rattle.model_store.proofs.store_model.Given as goal

abbrev pub invariant-loop-t : goal.invariant-loop-t
invariant-loop-t l = (l.r.bytes.now ≡ l.bytes) × Storing (lengths_by l.l) l.bytes (three l.fn.labels l.fn.equations l.fn.moves) l.t (three l.labels l.equations l.moves)

abbrev pub decreases-loop-t : goal.decreases-loop-t
decreases-loop-t l = left l.bytes l.t
