-- `program_lines::Pen::put_totals` meets its contract. Assumes nothing.
use Rattle.program_lines.specs.Lines.{totals}
use Rattle.program_lines.specs.Penned.{penned-more}
use Rattle.program_lines.proofs.Pen.put_totals.Goals as goal

pub returns : goal.returns
unfolding totals
returns c =
    penned-more c.put_number.ensures.0 (penned-more c.put_number-2.ensures.0 (penned-more c.put_number-3.ensures.0 c.put_text.ensures))
