-- `model_chains::with_number` meets its contract. Assumes nothing.
use mathlib.Core.Path.{ap, ◌∙◌}
use Rattle.rules.specs.Session.{word}
use Rattle.rules.specs.declared.Equation.{Equation}
use Rattle.laws.specs.chains.Placed.{with_block}
use Rattle.model_chains.proofs.with_number.Goals as goal

pub returns : goal.returns
returns c = c.word_of.ensures ∙ ap (λ (e : Equation). word (with_block c.args.c e)) c.equation_in-e.ensures
