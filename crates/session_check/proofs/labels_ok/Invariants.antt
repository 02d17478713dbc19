-- The loop's invariant: what is asked of the sets so far together, and of each of the others, is what is asked of all. Assumes nothing.
use Rattle.std.proofs.Common.{◌≡◌, ◌&&◌, drop}
use Rattle.lists.specs.Lists.{all}
use Rattle.rules.specs.Model.{label_ok}
use Rattle.session_check.proofs.labels_ok.Given as goal

abbrev pub invariant-loop-set : goal.invariant-loop-set
invariant-loop-set l = (label_ok l.sizes l.together && all (label_ok l.sizes) (drop l.set-index l.labels)) ≡ all (label_ok l.sizes) l.labels
