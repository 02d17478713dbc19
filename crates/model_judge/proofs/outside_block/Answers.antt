-- `model_judge::outside_block` meets its contract. Assumes nothing.
use native.Mathlib.Omega.{arith}
use Rattle.model_judge.specs.Due.{block-only}
use Rattle.model_judge.specs.Plain.{plain}
use Rattle.std.proofs.Common.{rules, ◌≡◌, ◌∙◌}
use Rattle.model_judge.specs.Progress.{sofar_of, judged_says, next_says}
use borrow.Enum.Refused.{opened}
use Rattle.model_judge.proofs.outside_block.Goals as goal

pub returns-in_default : goal.returns-in_default
returns-in_default c = block-only _ (sofar_of c.args.x) c.args.rec c.args.x.kept c.requires.due_value.0 (omega arith) (omega arith) (opened c.in_default.in_default-own.keys2)

pub returns : goal.returns
unfolding plain
returns c =
    let says : judged_says c.map-2.result ≡ next_says c.on_block.result = search rules in
    says ∙ rw c.in-Block.is c.on_block.ensures
