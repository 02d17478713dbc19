-- `model_judge::after_equations` meets its contract. Assumes nothing.
use Rattle.model_judge.specs.Progress.{sofar_of}
use Rattle.model_judge.specs.Due.{move-or-end}
use borrow.Enum.Refused.{opened}
use Rattle.model_judge.proofs.after_equations.Goals as goal

pub returns-in_default : goal.returns-in_default
returns-in_default c = move-or-end _ (sofar_of c.args.x) c.args.rec c.args.x.kept c.requires.moves_due (opened c.in_default.in_default-own.keys3)
