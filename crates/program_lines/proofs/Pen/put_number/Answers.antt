-- `program_lines::Pen::put_number` meets its contract. Assumes nothing.
use native.Mathlib.Omega.{arith}
use Rattle.program_lines.specs.Penned.{penned-more}
use Rattle.program_lines.proofs.Pen.put_number.Goals as goal

pub returns : goal.returns
returns c = (penned-more c.put_text.ensures c.put_decimal.ensures.0, omega (arith, c.put_text.ensures.wrote.1))
