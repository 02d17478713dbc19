use Rattle.std.proofs.Common.{◌≡◌, arith}
use Rattle.moves.specs.Searching.{wide, inside, narrower, found}
use Rattle.moves.proofs.search.Goals as goal

pub loop-left-init : goal.loop-left-init
loop-left-init c = let a = c.args in wide a.key a.moves.now a.from _ c.requires.0 (omega arith)

pub overflow_add-found : goal.overflow_add-found
overflow_add-found c = let a = c.args in
    let i = inside a.key a.moves.now a.from _ _ _ c.loop-left.invariant (omega arith) in omega arith

pub tested-found-requires : goal.tested-found-requires
tested-found-requires c = let a = c.args in
    let i = inside a.key a.moves.now a.from _ _ _ c.loop-left.invariant (omega arith) in (omega arith, omega arith)

pub loop-left-preserved : goal.loop-left-preserved
loop-left-preserved c = let a = c.args in
    let here = c.loop-left in
    narrower a.key a.moves.now a.from here.found.at here.left here.found.tests _ _ _ _ c.requires.0 here.invariant (omega arith)
    c.tested-found.ensures (omega arith) (omega arith)

pub returns : goal.returns
returns c = let a = c.args in
    let here = c.loop-left in
    let e : here.left ≡ 0 = omega arith in
    found a.key a.moves.now a.from here.found.at here.found.tests (rw e at here.invariant)
