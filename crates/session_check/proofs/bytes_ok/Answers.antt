use Rattle.std.proofs.Common.{refl, sym, ◌∙◌, arith}
use Rattle.std.specs.Prelude.{leb}
use Rattle.session_check.specs.FrontWalk.{all-turn, all-over}
use Rattle.session_check.proofs.bytes_ok.Goals as goal

pub loop-v-init : goal.loop-v-init
loop-v-init c = refl

pub loop-v-preserved : goal.loop-v-preserved
loop-v-preserved c = all-turn (λ v. leb v c.args.most) c.args.room.now c.loop-v.v-index c.loop-v.ok _ _ refl (omega arith) c.loop-v.invariant

pub returns : goal.returns
returns c = sym (all-over (λ v. leb v c.args.most) c.args.room.now c.loop-v.v-index c.loop-v.ok (omega arith)) ∙ c.loop-v.invariant
