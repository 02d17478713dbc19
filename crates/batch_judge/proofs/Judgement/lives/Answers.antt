-- Only a live model is asked. Assumes nothing.
use mathlib.Core.Path.{refl}
use borrow.Author.Tests.{eq-eqb, ne_eqb}
use Rattle.laws.specs.moves.Emptied.{lives_by}
use Rattle.batch_judge.proofs.Judgement.lives.Goals as goal

pub returns-then-live-eq1 : goal.returns-then-live-eq1
unfolding lives_by
returns-then-live-eq1 c = rw (eq-eqb _ _ c.if-live-eq1.true) c.none_hangs.ensures

pub returns : goal.returns
unfolding lives_by
returns c = rw (ne_eqb _ _ c.if-live-eq1.false) refl
