use Rattle.std.proofs.Common.{refl, sym, ap, ◌∙◌, Bool, ◌&&◌, ◌+◌, arith, get_or, drop}
use Rattle.lists.specs.Lists.{all}
use Rattle.rules.specs.Model.{label_ok}
use Rattle.session_check.specs.FrontWalk.{all-turn, all-over, label-none, label-both}
use Rattle.session_check.proofs.labels_ok.Goals as goal

pub loop-set-init : goal.loop-set-init
loop-set-init c = ap (λ (x : Bool). x && all (label_ok c.args.sizes) c.args.labels.now) (label-none c.args.sizes)

pub loop-set-preserved : goal.loop-set-preserved
loop-set-preserved c = let z = c.args.sizes in
    let l = c.args.labels.now in
    let s = c.loop-set in
    ap (λ (x : Bool). x && all (label_ok z) (drop (s.set-index + 1) l)) (label-both z s.together (get_or l s.set-index 0))
    ∙ all-turn (label_ok z) l s.set-index (label_ok z s.together) _ _ refl (omega arith) s.invariant

pub returns : goal.returns
returns c = let z = c.args.sizes in
    c.label_ok.ensures ∙ sym (all-over (label_ok z) c.args.labels.now c.loop-set.set-index (label_ok z c.loop-set.together) (omega arith)) ∙ c.loop-set.invariant
