-- `program_lines::Pen::put_signed` meets its contract: a minus sign is written exactly where the number lies below zero. Assumes nothing.
use Rattle.std.proofs.Common.{◌∙◌, ap, arith, to_z-of_z}
use lib.IntN.{nat_abs}
use Rattle.program_lines.specs.Penned.{penned-more}
use Rattle.program_lines.specs.Signs.{signed-below, signed-above}
use Rattle.program_lines.proofs.Pen.put_signed.Goals.{then-z-lt0, else-z-lt0}
use Rattle.program_lines.proofs.Pen.put_signed.Goals as goal

pub returns : goal.returns
returns c =
    let z = c.args.z in
    let t = to_z-of_z c.ranges.z in
    let d = rw (c.from.ensures ∙ c.unsigned_abs.ensures.value ∙ ap nat_abs t) at c.put_decimal.ensures in
    elim c.if-z-lt0.branch [
      | then-z-lt0 w ↦
          let s = w.put_text.ensures in
          let e = rw w.self-is at d in
          (rw (signed-below z (rw t at w.if-z-lt0.true)) (penned-more s e.0), omega (arith, s.wrote.1, e.1))
      | else-z-lt0 w ↦
          let e = rw w.self-is at d in
          (rw (signed-above z (rw t at w.if-z-lt0.false)) e.0, omega (arith, e.1))
    ]
