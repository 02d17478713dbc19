-- `model_chains::first_guilty` meets its contract: the equations are cut to the first n. Assumes nothing.
use mathlib.Core.Path.{ap, ◌∙◌}
use Prim.Native.Nat.{ℕ}
use native.Mathlib.Omega.{arith}
use lib.Seq.{length-take-le}
use Rattle.lists.specs.Lists.{lowest}
use Rattle.rules.specs.Model.{guilty}
use Rattle.model_chains.specs.Stored.{held}
use Rattle.model_chains.proofs.first_guilty.Goals as goal

pub returns : goal.returns
returns c = let a = c.args in
    c.guilty_of.ensures ∙ ap (λ (k : ℕ). lowest k (guilty (held a.n a.equations.now))) (length-take-le a.n a.equations.now (omega arith))
