-- `model_chains::equation_at` meets its contract. Assumes nothing.
use mathlib.Core.Path.{sym, ◌∙◌}
use Rattle.model_chains.specs.Stored.{told_at}
use Rattle.model_chains.proofs.equation_at.Goals as goal

pub returns : goal.returns
returns c = c.equation_in.ensures ∙ sym (told_at c.args.equations.now c.args.x)
