-- A state that passes has its chain gone through, and one that does not adds nothing. Assumes nothing.
use Rattle.std.proofs.Common.{◌≡◌, ℕ, ◌+◌, ◌*◌, List, length, sym, ◌∙◌, subst, arith}
use Rattle.engine_index.specs.Walks.{key_by, one_comes, SetWhere}
use Rattle.engine_index.specs.Targets.{Reached, reached-none, reached-hit, reached-miss, reached-all}
use Rattle.engine_index.proofs.chains.set_leading.Goals.{then-passes, else-passes}
use Rattle.engine_index.proofs.chains.set_leading.Goals as goal

pub loop-t-init : goal.loop-t-init
loop-t-init g c = let a = c.args in
    λ test h. reached-none a.chains.states a.chains.moves.now a.chains.linked.into a.a.0 test a.v a.bad.now

pub loop-t-preserved : goal.loop-t-preserved
loop-t-preserved g c test h = let a = c.args in
    let l = c.loop-t in
    let n = a.chains.states in
    let moves = a.chains.moves.now in
    let inside = a.chains.linked.into in
    let r = l.invariant test h in
    let answer = h l.t c.passes.result (omega arith) c.passes.ensures in
    let R : List ℕ → Type 0 = λ bad. Reached moves a.a.0 test a.v a.bad.now (l.t + 1) bad in
    elim c.if-passes.branch [
      | then-passes w ↦
          subst R (sym w.bad-is)
          (reached-hit n moves inside a.a.0 test a.v a.bad.now l.t (length l.bad) l.bad w.set_sources.new.bad (omega arith) (omega arith) (sym answer ∙ w.if-passes.true) r
          w.set_sources.auto.bad (subst (λ (i : ℕ). SetWhere (one_comes (key_by (length l.bad)) (i * n + l.t) moves) a.v l.bad w.set_sources.new.bad) c.from.ensures w.set_sources.ensures))
      | else-passes w ↦ subst R (sym w.bad-is) (reached-miss n moves inside a.a.0 test a.v a.bad.now l.t l.bad (omega arith) (sym answer ∙ w.if-passes.false) r)
    ]

pub returns : goal.returns
returns g c test h = let a = c.args in
    let l = c.loop-t in
    let n : l.t ≡ a.chains.states = omega arith in
    reached-all a.chains.states a.chains.moves.now a.chains.linked.into a.a.0 test a.v a.bad.now l.bad
    (subst (λ (k : ℕ). Reached a.chains.moves.now a.a.0 test a.v a.bad.now k l.bad) n (l.invariant test h))
