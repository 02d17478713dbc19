use mathlib.Core.Path.{◌≡◌, sym, ap, subst, ◌∙◌}
use Prim.Native.Nat.{ℕ, ◌-◌}
use native.Mathlib.Omega.{arith}
use lib.ListN.{get_or, set}
use Rattle.engine_index.specs.ChainWalks.{last-le}
use Rattle.engine_index.specs.Walks.{key_by, one_comes, SetWhere, telling-begins, telling-goes, telling-ends}
use Rattle.engine_index.proofs.chains.set_sources.Goals as goal

pub loop-k-init : goal.loop-k-init
loop-k-init c = let a = c.args in
    let g = a.chains in
    telling-begins (key_by g.states) g.moves.now a.at a.v a.bad.now _ (c.from-k.ensures ∙ g.linked.ends a.at c.requires.at_in_bounds)

pub loop-k-smaller : goal.loop-k-smaller
loop-k-smaller c = let g = c.args.chains in
    let k = c.loop-k.k in
    let next = g.linked.steps (k - 1) (omega arith) in
    let low = last-le (key_by g.states) g.moves.now (key_by g.states (get_or g.moves.now (k - 1) 0)) (k - 1) in
    omega (arith, next, low)

pub loop-k-preserved : goal.loop-k-preserved
loop-k-preserved c = let a = c.args in
    let g = a.chains in
    let l = c.loop-k in
    telling-goes (key_by g.states) g.moves.now a.at a.v a.bad.now l.k (l.k - 1) _ l.bad _ l.invariant (omega arith)
    (ap (λ (x : ℕ). set l.bad x a.v) (c.from.ensures ∙ c.source_of-here.ensures))
    (c.from-k-in-loop-k.ensures ∙ g.linked.steps (l.k - 1) (omega arith))

pub returns : goal.returns
returns c = let a = c.args in
    let moves = a.chains.moves.now in
    let l = c.loop-k in
    let t = c.loop-k-test.false in
    let end : l.k ≡ 0 = omega arith in
    subst (λ (n : ℕ). SetWhere (one_comes (key_by n) a.at moves) a.v a.bad.now l.bad) (sym c.requires.bad_len)
    (telling-ends (key_by a.chains.states) moves a.at a.v a.bad.now l.k l.bad l.invariant end)
