-- The test of the code is the four parts of `GoodChange`. Assumes nothing.
use mathlib.Core.Bool.{false≢true}
use native.Mathlib.Omega.{arith}
use Rattle.lists.specs.Tests.{and_is, ltb-is}
use Rattle.batch_read.specs.PassingLaws.{kind-is}
use Rattle.batch_read.proofs.good_change.Goals as goal

pub returns-then-bytes-at-lt6 : goal.returns-then-bytes-at-lt6
returns-then-bytes-at-lt6 c = λ e. absurd (false≢true e)

pub returns : goal.returns
returns c = λ e.
    let k = simp and_is at (rw (c.move_ok.ensures, c.move_at-m.ensures) at e) in
    record {
      inside_bytes = omega arith;
      few = (ltb-is _ _).0 k.0.0;
      kind = kind-is _ k.0.1;
      fits = k.1;
    }
