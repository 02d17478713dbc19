use Rattle.std.proofs.Common.{ap, ◌∙◌, ◌+◌, length, ℕ}
use Rattle.std.proofs.lemmas.List.Edits.{sets}
use Rattle.program_lines.specs.Copies.{copied_more, copied_all}
use Rattle.program_lines.proofs.Pen.put_text.Goals as goal

pub loop-i-preserved : goal.loop-i-preserved
loop-i-preserved c = let l = c.loop-i in
    record {
      same = l.invariant.same;
      place = l.invariant.place;
      copied = copied_more c.args.text.now _ _ _ l.self.at l.i c.loop-i-test.true l.invariant.copied c.put.ensures;
    }

pub returns : goal.returns
returns c = let l = c.loop-i in
    let text = c.args.text.now in
    record {
      same = l.invariant.same;
      wrote = (
        copied_all text _ _ l.self.at l.i c.loop-i-test.false l.invariant.copied ∙ ap (λ (k : ℕ). sets c.args.self.now.out.now k text) l.invariant.place,
        ap (λ (k : ℕ). k + length text) l.invariant.place,
      );
    }
