-- `model_judge::before_blocks` meets its contract. Assumes nothing.
use Rattle.model_judge.specs.Progress.{sofar_of}
use Rattle.model_judge.specs.Due.{label-or-block}
use borrow.Enum.Refused.{opened}
use Rattle.model_judge.proofs.before_blocks.Goals as goal

pub returns-in_default : goal.returns-in_default
returns-in_default c = λ l.
    label-or-block l (sofar_of c.args.x) c.args.rec c.args.x.kept c.requires.count_value.0 c.requires.count_value.1 (opened c.in_default.in_default-own.keys4)
