-- `bytes_read::u16_at` meets its contract: the number by its two bytes. Assumes nothing.
use Rattle.std.proofs.Common.{arith}
use Rattle.bytes_read.proofs.u16_at.Goals as goal

pub returns : goal.returns
returns c = omega (arith, c.from_le_bytes.ensures)
