-- `program_cut::first_part` meets its contract. The loop's invariant: the reader holds the bytes that were lent, and its place stands in
-- the part that is being cut; the measure: the bytes left. Assumes nothing.
use Rattle.std.proofs.Common.{◌≡◌, ◌-◌, length}
use Rattle.program_cut.specs.CutLaws.{Along}
use Rattle.program_cut.proofs.first_part.Given as goal

abbrev pub invariant-loop-rec : goal.invariant-loop-rec
invariant-loop-rec l = record {
  same : l.r.bytes.now ≡ l.bytes;
  along : Along l.bytes l.r.at;
}

abbrev pub decreases-loop-rec : goal.decreases-loop-rec
decreases-loop-rec l = length l.bytes - l.r.at
