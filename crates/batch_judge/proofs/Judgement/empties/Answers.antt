-- What the state has and gains, against what it loses. Assumes nothing.
use mathlib.Core.Path.{ap₂}
use Prim.Native.Nat.{ℕ, ◌+◌}
use lib.Dec.{leb}
use Rattle.batch_judge.proofs.Judgement.empties.Goals as goal

pub returns : goal.returns
returns c = ap₂ (λ (x y : ℕ). leb x y) (ap₂ (λ (x y : ℕ). x + y) c.moves_of-held.ensures.0 c.named_of-inserted.ensures.0) c.named_of-deleted.ensures.0
