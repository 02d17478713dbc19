-- `model_chains::stands` meets its contract: none of the reaches before x is x's. Assumes nothing.
use Rattle.std.proofs.Common.{ap, sym, ◌∙◌, arith, eqb, get_or}
use Rattle.std.specs.Prelude.{not}
use Rattle.lists.specs.Ranges.{same_truth}
use Rattle.lists.specs.Tests.{eqb-in, eqb-out}
use Rattle.model_chains.specs.Ranged.{any_front}
use Rattle.model_chains.specs.Numbering.{tied_by, stands_by}
use Rattle.model_chains.proofs.stands.Goals as goal

pub returns : goal.returns
unfolding stands_by tied_by
returns c = let a = c.args in
    let l = a.reach.now in
    let own = get_or l a.x 0 in
    ap not (c.contains.ensures.value ∙ any_front (λ y. eqb y own) (tied_by l a.x) 0 l a.x (omega arith)
    (λ k h. same_truth (λ t. eqb-in own _ (sym (eqb-out _ own t))) (λ t. eqb-in _ own (sym (eqb-out own _ t)))))
