-- `model_judge::answered` meets its contract. Assumes nothing.
use mathlib.Core.Path.{◌∙◌}
use Rattle.model_judge.specs.AskedLaws.{some-guilty, none-guilty}
use Rattle.model_judge.proofs.answered.Goals as goal

pub returns-then-low-n : goal.returns-then-low-n
returns-then-low-n c = c.refused.ensures ∙ some-guilty _ c.args.h _ _ c.requires.0 c.signs_to-words.ensures c.first_guilty-low.ensures c.if-low-n.true

pub returns : goal.returns
returns c = none-guilty _ c.args.h _ _ c.requires.0 c.signs_to-words.ensures c.first_guilty-low.ensures c.if-low-n.false
