-- `program_lines::Pen::put_loaded` meets its contract. Assumes nothing.
use Rattle.program_lines.specs.Lines.{loaded_line}
use Rattle.program_lines.specs.Penned.{penned-more}
use Rattle.program_lines.proofs.Pen.put_loaded.Goals as goal

pub returns : goal.returns
unfolding loaded_line
returns c = penned-more c.put_text.ensures c.put_totals.ensures
