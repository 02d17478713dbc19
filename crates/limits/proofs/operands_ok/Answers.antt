-- `limits::operands_ok` meets its contract. Assumes nothing.
use mathlib.Core.Path.{refl}
use borrow.Author.Tests.{lt-ltb, le-ltb}
use Rattle.rules.specs.Model.{operands_ok}
use Rattle.limits.proofs.operands_ok.Goals as goal

pub returns-then-o-lt2 : goal.returns-then-o-lt2
unfolding operands_ok
returns-then-o-lt2 c = rw (lt-ltb _ _ c.if-o-lt2.true) refl

pub returns-then-o-lt4 : goal.returns-then-o-lt4
unfolding operands_ok
returns-then-o-lt4 c = rw (le-ltb _ _ c.if-o-lt2.false, lt-ltb _ _ c.if-o-lt4.true) refl

pub returns-then-o-lt6 : goal.returns-then-o-lt6
unfolding operands_ok
returns-then-o-lt6 c = rw (le-ltb _ _ c.if-o-lt2.false, le-ltb _ _ c.if-o-lt4.false, lt-ltb _ _ c.if-o-lt6.true) refl

pub returns : goal.returns
unfolding operands_ok
returns c = rw (le-ltb _ _ c.if-o-lt2.false, le-ltb _ _ c.if-o-lt4.false, le-ltb _ _ c.if-o-lt6.false) refl
