-- The kind of the record, the sign, and the operator with what it names. Assumes nothing.
use Rattle.std.proofs.Common.{◌≡◌, [], ◌∷◌, ◌%◌, arith}
use Rattle.std.proofs.lemmas.List.Edits.{sets}
use Rattle.rules.specs.Records.{widths}
use Rattle.bytes_write.proofs.write_signed.Goals as goal

pub returns : goal.returns
unfolding widths
returns c =
    let a = c.args in
    let run : c.put.new.out ≡ sets a.out.now a.at (11 ∷ a.e.kind ∷ a.e.operator ∷ a.e.first ∷ a.e.second ∷ []) = c.put.ensures in
    let f : a.e.kind % 256 ≡ a.e.kind = omega arith in
    let g : a.e.operator % 256 ≡ a.e.operator = omega arith in
    let h : a.e.first % 256 ≡ a.e.first = omega arith in
    let i : a.e.second % 256 ≡ a.e.second = omega arith in
    rw (f, g, h, i) run
