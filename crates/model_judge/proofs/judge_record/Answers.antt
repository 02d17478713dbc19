-- `model_judge::judge_record` meets its contract. Assumes nothing.
use mathlib.Core.Path.{sym}
use native.Mathlib.Omega.{arith}
use Rattle.model_judge.specs.Due.{equation-only}
use Rattle.std.proofs.Common.{◌∙◌}
use Rattle.model_judge.specs.Progress.{sofar_of}
use borrow.Enum.Refused.{opened}
use Rattle.model_judge.proofs.judge_record.Goals as goal

pub returns-in_default : goal.returns-in_default
returns-in_default c = equation-only _ (sofar_of c.args.x) c.args.rec c.args.x.kept (omega arith) (sym c.signed.ensures ∙ c.if-signed.false) (opened c.in_default.in_default-own.keys2)
