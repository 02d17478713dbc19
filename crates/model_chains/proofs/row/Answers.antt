-- `model_chains::row` meets its contract: one case for each number of names. Assumes nothing.
use Rattle.std.proofs.Common.{ap, ◌∙◌, ℕ, get_or, arith}
use Rattle.model_chains.specs.Reaching.{row-none, row-two, row_one}
use Rattle.model_chains.proofs.row.Goals as goal

pub returns-then-e-lt4 : goal.returns-then-e-lt4
returns-then-e-lt4 c = row-none _ _ _ _ c.if-e-lt4.true c.only-own.ensures

pub returns-then-e-lt6 : goal.returns-then-e-lt6
returns-then-e-lt6 c = row-two _ _ _ _ _ _ (omega (arith, c.if-e-lt4.false)) c.if-e-lt6.true c.only-own.ensures (c.at_or-first.ensures ∙ ap (λ (k : ℕ). get_or c.args.old.now k 0) c.from.ensures) (c.at_or-second.ensures ∙ ap (λ (k : ℕ). get_or c.args.old.now k 0) c.from-2.ensures)

pub returns : goal.returns
returns c = row_one _ _ _ _ _ (omega (arith, c.if-e-lt6.false)) c.only-own.ensures (c.at_or-second.ensures ∙ ap (λ (k : ℕ). get_or c.args.old.now k 0) c.from-2.ensures)
