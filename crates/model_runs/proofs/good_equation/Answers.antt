-- `model_runs::good_equation` meets its contract. Assumes nothing.
use native.Mathlib.Omega.{arith}
use Rattle.lists.specs.Tests.{denials, and_is, eqb_is}
use Rattle.model_runs.proofs.good_equation.Goals as goal

pub returns : goal.returns
returns c = λ e.
    let d = simp denials at c.if-x-bytes.false in
    let k = simp and_is at (rw (c.names_ok.ensures, c.operands_ok.ensures) at e) in
    record {
      due = omega arith;
      inside_bytes = omega arith;
      kind = (eqb_is _ _).0 k.0.0;
      fits = k.0.1;
      names = k.1;
    }
