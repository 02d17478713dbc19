-- `model_judge::with_signs` meets its contract. Assumes nothing.
use native.Mathlib.Omega.{arith}
use Rattle.model_judge.specs.Due.{signed-only}
use Rattle.model_judge.specs.Plain.{plain}
use Rattle.std.proofs.Common.{rules, ◌≡◌, ◌∙◌}
use Rattle.model_judge.specs.Progress.{sofar_of, judged_says, next_says}
use borrow.Enum.Refused.{opened}
use Rattle.model_judge.proofs.with_signs.Goals as goal

pub returns-in_default : goal.returns-in_default
returns-in_default c = let k = c.args.x.kept in
    signed-only _ (sofar_of c.args.x) c.args.rec c.args.x.kept c.requires.sizes_value (omega arith) (omega arith) (opened c.in_default.in_default-own.keys2)

pub returns : goal.returns
unfolding plain
returns c =
    let says : judged_says c.map-2.result ≡ next_says c.on_signed.result = search rules in
    says ∙ rw c.in-Signed.is c.on_signed.ensures
