-- The first turn, moved on past the changes that stand after it, is what the whole reading may rely on. Assumes nothing.
use Rattle.batch_read.specs.GoingLaws.{going-first}
use Rattle.batch_read.specs.PassingLaws.{going-within, going-forward}
use Rattle.batch_read.proofs.begin.Goals as goal

pub forward-requires : goal.forward-requires
forward-requires c = let z = c.args.z in
    let s = c.args.bytes.now in
    let t = c.args.changes.now in
    let u = c.first_turn-first.result in
    going-within z s t u t (going-first z s t u (c.first_turn-first.ensures z s c.requires))

pub returns : goal.returns
returns c = let z = c.args.z in
    let s = c.args.bytes.now in
    let t = c.args.changes.now in
    let u = c.first_turn-first.result in
    going-forward z s t u _ t _ (going-first z s t u (c.first_turn-first.ensures z s c.requires)) c.forward.ensures
