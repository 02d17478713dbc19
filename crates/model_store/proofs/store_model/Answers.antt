use Rattle.std.proofs.Common.{◌≡◌, ◌<◌, List, ℕ, ap, ◌∙◌, Bor, arith}
use Rattle.limits.specs.Lent.{lengths_by}
use Rattle.bytes_read.specs.Places.{record_at}
use Rattle.model_judge.specs.Going.{place_of, left}
use Rattle.model_store.specs.Stored.{Storing, three}
use Rattle.model_store.specs.StoreLaws.{storing-first, storing-over}
use Rattle.model_store.proofs.store_model.Goals.{After-store_turn-t}
use Rattle.model_store.proofs.store_model.Goals as goal

-- After a turn the rooms hold what has been read, and the reading is nearer to the end.
stored : (c : After-store_turn-t) → let a = c.args in
    Storing (lengths_by a.l) a.bytes.now (three a.labels.now a.equations.now a.moves.now) c.store_turn-t.result (three c.store_turn-t.new.labels c.store_turn-t.new.equations c.store_turn-t.new.moves)
    × (left a.bytes.now c.store_turn-t.result < left a.bytes.now c.loop-t.t)
stored c =
    let g = rw c.in-Continue.is at c.loop-t.invariant.1 in
    let b = g.going.0.begun in
    rw c.in-Continue.is (c.store_turn-t.ensures _ g (λ e. omega arith))

pub loop-t-init : goal.loop-t-init
loop-t-init c =
    let same : c.new-r.result.bytes.now ≡ c.args.bytes.now = ap (λ (b : Bor (List ℕ)). b.now) c.new-r.ensures.0 in
    let front = c.new-r.ensures.1 in
    let read : c.read.result ≡ record_at c.args.bytes.now 0 = cc in
    (same, storing-first _ _ _ c.first_turn-t.result (c.first_turn-t.ensures c.args.bytes.now read))

pub store_turn-t-requires : goal.store_turn-t-requires
store_turn-t-requires c =
    let g = rw c.in-Continue.is at c.loop-t.invariant.1 in
    (g.going, c.read-in-Continue.ensures ∙ ap (λ (s : List ℕ). record_at s c.in-Continue.h.at) c.loop-t.invariant.0)

pub loop-t-smaller : goal.loop-t-smaller
loop-t-smaller c = (stored (goal.at.loop-t-smaller c).After-store_turn-t).1

pub loop-t-preserved : goal.loop-t-preserved
loop-t-preserved c = (c.loop-t.invariant.0, (stored (goal.at.loop-t-preserved c).After-store_turn-t).0)

pub returns : goal.returns
returns c = storing-over _ _ _ c.loop-t.t _ c.loop-t.invariant.1 (ap place_of c.in_default.is)
