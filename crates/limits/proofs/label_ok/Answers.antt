-- `limits::label_ok` meets its contract. Assumes nothing.
use native.Mathlib.Omega.{arith}
use lib.Count.{leading_le}
use Rattle.rules.specs.Model.{label_ok}
use Rattle.limits.specs.HighestBit.{highest-bit}
use Rattle.limits.proofs.label_ok.Goals as goal

pub overflow_sub-result : goal.overflow_sub-result
overflow_sub-result c = let h = leading_le 32 c.args.v in omega arith

pub returns : goal.returns
unfolding label_ok
returns c = highest-bit c.args.v c.args.z.propositions (omega arith)
