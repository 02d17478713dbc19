-- `model_judge::at_end` meets its contract. Assumes nothing.
use mathlib.Core.Path.{refl}
use borrow.Author.Tests.{lt-ltb, le-ltb}
use Rattle.model_judge.specs.Turning.{end_turn}
use Rattle.model_judge.proofs.at_end.Goals as goal

pub returns-then-next-len : goal.returns-then-next-len
unfolding end_turn
returns-then-next-len c = rw (c.refused.ensures, lt-ltb _ _ c.if-next-len.true) refl

pub returns : goal.returns
unfolding end_turn
returns c = rw (le-ltb _ _ c.if-next-len.false) refl
