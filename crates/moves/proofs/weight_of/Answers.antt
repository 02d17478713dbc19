-- One move is its own sums. Assumes nothing.
use Rattle.moves.proofs.weight_of.Goals as goal

pub returns : goal.returns
returns c = rw (
  c.weighed.ensures,
  c.from.ensures,
  c.from-2.ensures,
  c.from-3.ensures,
  c.source_of-from.ensures,
  c.action_of-by.ensures,
  c.target_of-to.ensures,
)
