-- `model_chains::component_of` meets its contract: as many of the variables stand for a component before x's. Assumes nothing.
use Rattle.std.proofs.Common.{◌≡◌, ◌∙◌, refl, arith, length}
use mir.Val.{bool_byte}
use Rattle.lists.specs.Lists.{bit}
use Rattle.lists.specs.Sums.{bit_le}
use Rattle.words.specs.WordLaws.{byte-bit}
use Rattle.std.proofs.Math.Path.{ap}
use Rattle.model_chains.specs.Numbering.{component_by, before_more}
use Rattle.model_chains.proofs.component_of.Goals as goal

pub loop-y-preserved : goal.loop-y-preserved
loop-y-preserved c = let a = c.args in
    let k : bool_byte c.before-in-loop-y.result ≡ bit c.before-in-loop-y.result = byte-bit c.before-in-loop-y.result in
    let most = bit_le c.before-in-loop-y.result in (
      before_more a.reach.now a.x c.loop-y.y c.loop-y.count c.at_or-own.result a.set c.loop-y-test.true c.requires.1 c.at_or-own.ensures c.loop-y.invariant.0 _ (k ∙ ap bit c.before-in-loop-y.ensures),
      omega (arith, k, most, c.loop-y.invariant.1),
    )

pub returns : goal.returns
unfolding component_by
returns c = let e : c.loop-y.y ≡ length c.args.reach.now = omega arith in
    (rw (c.loop-y.invariant.0, e) refl, omega (arith, c.loop-y.invariant.1))
