-- `program_lines::Pen::put_batch` meets its contract: the pieces of a batch's line, one after the other. Assumes nothing.
use Rattle.std.proofs.Common.{to_z-of_z}
use Rattle.program_lines.specs.Lines.{batch_line}
use Rattle.program_lines.specs.Penned.{penned-more}
use Rattle.program_lines.proofs.Pen.put_batch.Goals as goal

pub returns : goal.returns
unfolding batch_line
returns c =
    penned-more (rw (to_z-of_z c.ranges.net) at c.put_net.ensures.0)
    (penned-more (rw c.from.ensures at c.put_number.ensures.0)
    (penned-more (rw c.from-2.ensures at c.put_number-2.ensures.0) (penned-more c.put_text.ensures c.put_totals.ensures)))
