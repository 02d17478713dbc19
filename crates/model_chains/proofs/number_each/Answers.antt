use mathlib.Core.Path.{◌≡◌, refl, sym}
use mathlib.Core.List.{map}
use native.Mathlib.Omega.{arith}
use lib.ListN.{length, take, length-map}
use lib.Seq.{length-take-le}
use Rattle.rules.specs.Session.{unword}
use Rattle.model_chains.specs.Filled.{filled-end}
use Rattle.model_chains.specs.Reaching.{reaches-cut}
use Rattle.model_chains.specs.Numbers.{numbered_next, numbered-list}
use Rattle.model_chains.proofs.number_each.Goals as goal

pub loop-x-preserved : goal.loop-x-preserved
loop-x-preserved c = let i = c.loop-x.invariant in
    let ws = c.args.equations.now in
    let l = c.reaches.new.reach in
    let cut = length-take-le (length ws) l (omega arith) in
    let reach = reaches-cut (map unword ws) (length ws) l (sym (length-map ws unword)) (omega arith) i.0 in
    (i.0, i.1, numbered_next ws (take (length ws) l) _ _ _ _ _ reach cut i.2 (omega arith) c.component_of-c.ensures.0 c.with_number.ensures refl)

pub returns : goal.returns
returns c = let e : c.loop-x.x ≡ length c.args.equations.now = omega arith in
    numbered-list _ _ (filled-end _ _ _ _ _ c.loop-x.invariant.2 e)
