-- `program_lines::Pen::put_decimal` meets its contract. Assumes nothing.
use mathlib.Core.Path.{◌∙◌}
use native.Mathlib.Omega.{arith}
use Rattle.program_lines.specs.DecimalLaws.{decimal-is, decimal-few}
use Rattle.program_lines.proofs.Pen.put_decimal.Goals as goal

pub put_text-requires : goal.put_text-requires
put_text-requires c = let a = c.args in
    (omega arith, rw (c.decimal-k.ensures.digits ∙ decimal-is c.decimal-k.result a.n c.decimal-k.ensures.len) (decimal-few 20 a.n (omega arith) (omega arith)))

pub returns : goal.returns
returns c = let a = c.args in
    let w = rw (c.decimal-k.ensures.digits ∙ decimal-is c.decimal-k.result a.n c.decimal-k.ensures.len) at c.put_text.ensures in
    let l = decimal-few 20 a.n (omega arith) (omega arith) in
    (w, omega (arith, w.wrote.1))
