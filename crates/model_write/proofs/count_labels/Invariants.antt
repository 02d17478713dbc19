-- The loop's invariant: the labels passed and those among the others are all. Assumes nothing.
use Rattle.std.proofs.Common.{◌≡◌, ◌+◌, ◌≤◌, drop}
use Rattle.laws.specs.bytes.SpellingLength.{labelled}
use Rattle.model_write.proofs.count_labels.Given as goal

abbrev pub invariant-loop-v : goal.invariant-loop-v
invariant-loop-v l = (l.k ≤ l.v-index) × (l.k + labelled (drop l.v-index l.labels) ≡ labelled l.labels)
