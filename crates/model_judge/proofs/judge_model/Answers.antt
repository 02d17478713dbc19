-- `model_judge::judge_model` meets its contract. Assumes nothing.
use Rattle.std.proofs.Common.{◌≡◌, ◌<◌, List, ℕ, ap, Bor}
use Rattle.limits.specs.Lent.{lengths_by}
use Rattle.bytes_read.specs.Places.{record_at}
use Rattle.model_judge.specs.Going.{Going, left}
use Rattle.model_judge.specs.GoingLaws.{going-first, going_next, going-over}
use Rattle.model_judge.proofs.judge_model.Goals.{After-judge_turn-t}
use Rattle.model_judge.proofs.judge_model.Goals as goal

-- The turn that follows keeps the answer, and is nearer to the end.
follows : (c : After-judge_turn-t) → Going (lengths_by c.args.l) c.args.bytes.now c.judge_turn-t.result × (left c.args.bytes.now c.judge_turn-t.result < left c.args.bytes.now c.loop-t.t)
follows c = going_next _ _ c.loop-t.t c.judge_turn-t.result c.in-Continue.h c.in-Continue.is c.loop-t.invariant.1 c.judge_turn-t.ensures

pub loop-t-init : goal.loop-t-init
loop-t-init c =
    let same : c.new-r.result.bytes.now ≡ c.args.bytes.now = ap (λ (b : Bor (List ℕ)). b.now) c.new-r.ensures.0 in
    let front = c.new-r.ensures.1 in
    let read : c.read.result ≡ record_at c.args.bytes.now 0 = cc in
    (same, going-first _ _ _ (c.first_turn-t.ensures c.args.bytes.now read))

pub loop-t-smaller : goal.loop-t-smaller
loop-t-smaller c = (follows c).1

pub loop-t-preserved : goal.loop-t-preserved
loop-t-preserved c = (c.loop-t.invariant.0, (follows c).0)

pub returns-in-Break : goal.returns-in-Break
returns-in-Break c = going-over _ _ c.loop-t.t c.in-Break.answer c.in-Break.is c.loop-t.invariant.1
