-- The first number of the queue stands for the pair. Assumes nothing.
use mathlib.Core.Path.{ap, ap₂, ◌∙◌}
use Prim.Native.Nat.{ℕ, ◌+◌, ◌*◌}
use lib.ListN.{get_or}
use Rattle.words.specs.Words.{variable_in, state_in}
use Rattle.engine_phase.proofs.first_value.Goals as goal

pub returns : goal.returns
returns c = let a = c.args in
    let w = c.at_or-w.ensures in
    c.at_or.ensures
    ∙ ap (λ (p : ℕ). get_or a.values.now p 0)
    (c.pair_of-p.ensures
    ∙ ap₂ {C = ℕ} (λ (x s : ℕ). x * a.sizes.states + s) (c.variable_of.ensures ∙ ap variable_in w) (c.state_of.ensures ∙ ap state_in w))
