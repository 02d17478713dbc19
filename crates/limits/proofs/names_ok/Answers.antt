-- `limits::names_ok` meets its contract. Assumes nothing.
use mathlib.Core.Path.{refl}
use borrow.Author.Tests.{lt-ltb, le-ltb}
use Rattle.rules.specs.Model.{names_ok}
use Rattle.limits.proofs.names_ok.Goals as goal

pub returns-then-o-lt4 : goal.returns-then-o-lt4
unfolding names_ok
returns-then-o-lt4 c = rw (lt-ltb _ _ c.if-o-lt4.true) refl

pub returns-then-o-lt6 : goal.returns-then-o-lt6
unfolding names_ok
returns-then-o-lt6 c = rw (le-ltb _ _ c.if-o-lt4.false, lt-ltb _ _ c.if-o-lt6.true) refl

pub returns : goal.returns
unfolding names_ok
returns c = rw (le-ltb _ _ c.if-o-lt4.false, le-ltb _ _ c.if-o-lt6.false) refl
