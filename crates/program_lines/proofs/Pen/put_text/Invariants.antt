-- `program_lines::Pen::put_text` meets its contract. The loop keeps that the first i bytes of the text stand in the room from the pen's
-- place on, and that the pen keeps its room and its place. Assumes nothing.
use Rattle.std.proofs.Common.{◌≡◌, take}
use Rattle.std.proofs.lemmas.List.Edits.{sets}
use Rattle.program_lines.proofs.Pen.put_text.Given as goal

abbrev pub invariant-loop-i : goal.invariant-loop-i
invariant-loop-i l = record {
  same : l.self.out.ghost_name ≡ l.initial.self.out.ghost_name;
  place : l.self.at ≡ l.initial.self.at;
  copied : l.self.out.now ≡ sets l.initial.self.out.now l.self.at (take l.i l.text);
}
