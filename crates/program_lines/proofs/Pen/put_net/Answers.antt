-- `program_lines::Pen::put_net` meets its contract: a net change is a sign and a size. Assumes nothing.
use native.Mathlib.Omega.{arith}
use Rattle.std.proofs.Common.{to_z-of_z}
use Rattle.program_lines.specs.Penned.{penned-more}
use Rattle.program_lines.proofs.Pen.put_net.Goals as goal

pub returns : goal.returns
returns c = (penned-more c.put_text.ensures (rw (to_z-of_z c.ranges.net) at c.put_signed.ensures.0), omega (arith, c.put_text.ensures.wrote.1))
