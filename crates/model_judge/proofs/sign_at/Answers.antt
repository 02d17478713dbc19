-- `model_judge::sign_at` meets its contract. Assumes nothing.
use mathlib.Core.Path.{ap, ◌∙◌}
use native.Mathlib.Omega.{arith}
use Rattle.rules.specs.Session.{word}
use Rattle.model_judge.specs.SignsRead.{sign_word}
use Rattle.model_judge.proofs.sign_at.Goals as goal

pub returns : goal.returns
returns c = sign_word c.args.bytes.now c.args.at _ (λ i. omega (arith, c.type_inv.bytes i)) c.requires.1 (c.word_of.ensures ∙ ap word c.signed_of-e.ensures)
