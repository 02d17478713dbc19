use native.Mathlib.Omega.{arith}
use Rattle.std.proofs.Common.{ℕ, Bool, get_or, eqb, refl, ap, ◌∙◌}
use Rattle.std.specs.Prelude.{◌||◌}
use Rattle.lists.specs.Lists.{bit}
use Rattle.words.specs.WordLaws.{byte-bit}
use Rattle.engine_shift.specs.Adds.{adds-next}
use Rattle.engine_shift.specs.Seeds.{gone_to}
use Rattle.engine_shift.proofs.row.Row.add_gone.Goals as goal

pub loop-s-preserved : goal.loop-s-preserved
loop-s-preserved c = let a = c.args in
    let l = c.loop-s in
    let gone : ℕ → Bool = gone_to a.self.values.now a.self.marks.now a.b in
    let was : Bool = eqb (get_or l.bad l.s 0) 1 in
    adds-next gone a.bad.now l.bad l.s _ _ (omega arith) l.invariant (byte-bit (was || c.went.result) ∙ ap (λ (x : Bool). bit (was || x)) c.went.ensures) refl
