-- `model_judge::before_signs` meets its contract. Assumes nothing.
use Rattle.model_judge.specs.Due.{label-or-signed}
use Rattle.model_judge.specs.Progress.{sofar_of}
use borrow.Enum.Refused.{opened}
use Rattle.model_judge.proofs.before_signs.Goals as goal

pub returns-in_default : goal.returns-in_default
returns-in_default c = λ l.
    label-or-signed l (sofar_of c.args.x) c.args.rec c.args.x.kept c.requires.sizes_value.0 c.requires.sizes_value.1 (opened c.in_default.in_default-own.keys4)
