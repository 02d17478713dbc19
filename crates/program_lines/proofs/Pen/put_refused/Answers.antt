-- `program_lines::Pen::put_refused` meets its contract. Assumes nothing.
use Rattle.program_lines.specs.Lines.{refused_line}
use Rattle.program_lines.specs.Penned.{penned-more}
use Rattle.program_lines.proofs.Pen.put_refused.Goals as goal

pub returns : goal.returns
unfolding refused_line
returns c = penned-more c.put_number.ensures.0 (penned-more c.put_number-2.ensures.0 c.put_text.ensures)
