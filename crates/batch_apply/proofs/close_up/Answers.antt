-- One word is copied, and counted where it stays. Assumes nothing.
use Rattle.std.proofs.Common.{◌≡◌, not, eqb, get_or, length-set, sym, ◌∙◌, arith}
use Rattle.lists.specs.Lists.{bit}
use Rattle.lists.specs.Sums.{bit_le}
use Rattle.words.specs.WordLaws.{byte-bit}
use Rattle.batch_apply.specs.Kept.{mark}
use Rattle.batch_apply.specs.OnePass.{closing-on, closing-over}
use Rattle.batch_apply.proofs.close_up.Goals as goal

pub loop-i-preserved : goal.loop-i-preserved
loop-i-preserved c = let a = c.args in
    let s = c.loop-i in
    let stays = not (eqb (get_or s.moves s.i 0) mark) in
    let b = bit_le stays in
    let one : c.from-to.result ≡ bit stays = c.from-to.ensures ∙ byte-bit stays in
    rw one (simp length-set s.invariant.0, omega arith, closing-on a.n s.to s.i s.moves (omega arith) ∙ s.invariant.2)

pub returns-clause-closed : goal.returns-clause-closed
returns-clause-closed c = let a = c.args in
    let s = c.loop-i in
    sym (closing-over a.n s.to s.i s.moves (omega arith)) ∙ s.invariant.2
