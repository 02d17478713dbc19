-- `program_cut::first_part` meets its contract. What is read stands at the reader's place of the lent bytes, so the walk goes on along
-- the part or ends it there. Assumes nothing.
use Rattle.std.proofs.Common.{ap, List, ℕ, Bor, arith}
use Rattle.program_cut.specs.CutLaws.{along-front, goes_on_lem, ends_there, ends_open}
use Rattle.program_cut.proofs.first_part.Goals as goal

pub loop-rec-init : goal.loop-rec-init
loop-rec-init c = record {
  same = ap (λ (b : Bor (List ℕ)). b.now) c.new-r.ensures.0;
  along = rw c.new-r.ensures.1 (along-front c.args.bytes.now);
}

pub overflow_add-result : goal.overflow_add-result
overflow_add-result c = let i = c.loop-rec.invariant in
    let h = ends_there c.args.bytes.now c.loop-rec.r.bytes.now c.loop-rec.r.at i.same i.along c.in-Some.rec c.in-Some.next c.in-Some.ensures c.if-is_end.ensures in
    record { fits = omega (arith, h.0) }

pub returns-then-is_end : goal.returns-then-is_end
returns-then-is_end c = let i = c.loop-rec.invariant in
    (ends_there c.args.bytes.now c.loop-rec.r.bytes.now c.loop-rec.r.at i.same i.along c.in-Some.rec c.in-Some.next c.in-Some.ensures c.if-is_end.ensures).1

pub loop-rec-smaller : goal.loop-rec-smaller
loop-rec-smaller c = let i = c.loop-rec.invariant in
    let h = goes_on_lem c.args.bytes.now c.loop-rec.r.bytes.now c.loop-rec.r.at i.same i.along c.in-Some.rec c.in-Some.next c.in-Some.ensures c.if-is_end.ensures in
    omega (arith, h.0, h.1.0)

pub loop-rec-preserved : goal.loop-rec-preserved
loop-rec-preserved c = let i = c.loop-rec.invariant in
    record {
      same = i.same;
      along = (goes_on_lem c.args.bytes.now c.loop-rec.r.bytes.now c.loop-rec.r.at i.same i.along c.in-Some.rec c.in-Some.next c.in-Some.ensures c.if-is_end.ensures).1;
    }

pub returns : goal.returns
returns c = let i = c.loop-rec.invariant in
    ends_open c.args.bytes.now c.loop-rec.r.bytes.now c.loop-rec.r.at i.same i.along c.in_default.ensures
