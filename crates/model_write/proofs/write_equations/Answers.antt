-- Equations have signs where there are no blocks. Assumes nothing.
use Rattle.std.proofs.Common.{◌≡◌, sym, ◌∙◌, subst, Bool, map, arith}
use Rattle.lists.specs.Tests.{eqb_is}
use Rattle.rules.specs.Session.{unword}
use Rattle.model_write.specs.Spelled.{HasRoom, equation_bytes}
use Rattle.model_write.proofs.write_equations.Goals as goal

pub write_signs-requires : goal.write_signs-requires
write_signs-requires c =
    let a = c.args in
    let none : a.z.blocks ≡ 0 = omega (arith, (eqb_is a.z.blocks 0).0 (sym c.signed.ensures ∙ c.if-signed.true)) in
    subst (λ (b : Bool). HasRoom a.out.now a.start (equation_bytes b 0 (map unword a.equations.now) 0)) ((eqb_is a.z.blocks 0).1 none) c.requires.0
