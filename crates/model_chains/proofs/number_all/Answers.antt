-- `model_chains::number_all` meets its contract: the equations are cut to the first n. Assumes nothing.
use native.Mathlib.Omega.{arith}
use Rattle.model_chains.specs.Numbers.{numbered-front}
use Rattle.model_chains.proofs.number_all.Goals as goal

pub returns : goal.returns
returns c = numbered-front c.args.n c.args.equations.now _ (omega arith) c.number_each.ensures
