-- `model_store::store_labels` meets its contract. Assumes nothing.
use Rattle.model_store.specs.RunLaws.{labels-stored, put-labels-kept}
use Rattle.model_store.specs.StoreLaws.{no-moves-yet}
use Rattle.model_store.proofs.store_labels.Goals as goal

pub invariant_of-so_far : goal.invariant_of-so_far
invariant_of-so_far c = record { kept = put-labels-kept _ c.args.h.so_far c.args.h.at _ _ _ c.requires.1 c.put_labels-run.ensures }

pub returns : goal.returns
returns c = let h = c.args.h in
    λ es ms. (
      labels-stored _ h.last h.so_far h.at _ es ms _ _ _ c.requires.0 c.requires.1 c.put_labels-run.ensures,
      no-moves-yet h.so_far h.so_far.kept c.requires.1.1,
    )
