use Rattle.std.proofs.Common.{ℕ, refl, sym, ap, ◌∙◌, Bool, List, ◌&&◌, ◌≡◌, ◌+◌, map, arith, length, eqb}
use Rattle.std.proofs.lemmas.List.{length-map, drop-map, take_rest}
use Rattle.rules.specs.Model.{run_of}
use Rattle.rules.specs.Session.{unword}
use Rattle.session_check.specs.EquationWalk.{equations-turn, equations-over}
use Rattle.session_check.proofs.equations_ok.Goals as goal

pub loop-i-init : goal.loop-i-init
loop-i-init c = refl

pub loop-i-preserved : goal.loop-i-preserved
loop-i-preserved c = let ws = c.args.equations.now in
    let long = length-map ws unword in
    let s = c.loop-i in
    let next = c.equation_at-e.result.block + 1 in
    let end = ap (λ (k : ℕ). s.i + 1 + k)
    (c.run_of.ensures.0 ∙ ap (λ (l : List ℕ). run_of next (map unword l)) (take_rest ws (s.i + 1)) ∙ ap (run_of next) (sym (drop-map unword (s.i + 1) ws))) in
    equations-turn (map unword ws) s.i c.args.sizes s.begun.blocks s.begun.kind _ _ s.ok _ _ c.equation_at-e.ensures end c.equation_ok-ok.ensures (omega arith) s.invariant

pub returns : goal.returns
returns c = let ws = c.args.equations.now in
    let long = length-map ws unword in
    let z = c.args.sizes in
    let s = c.loop-i in
    let all : length ws ≡ s.i = omega arith in
    ap (λ (j : ℕ). s.ok && (eqb j z.variables && eqb s.begun.blocks z.blocks)) all
    ∙ ap (λ (x : Bool). s.ok && x) (sym (equations-over (map unword ws) s.i z s.begun.blocks s.begun.kind (omega arith))) ∙ s.invariant
