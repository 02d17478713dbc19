-- One part after the other. Assumes nothing.
use Rattle.std.specs.Prelude.{ℕ, length, take}
use Rattle.std.proofs.Common.{◌∙◌, ap, arith, length-append}
use Rattle.std.specs.Slice.Iter.{chunks_rest}
use Rattle.rules.specs.Update.{trues}
use Rattle.rules.specs.Calls.{value_at}
use Rattle.engine_values.specs.Starts.{trues_in, trues-append, trues_few, trues-front}
use Rattle.engine_values.proofs.count_true.Goals as goal

pub loop-some-preserved : goal.loop-some-preserved
loop-some-preserved c = let i = c.loop-some.invariant in
    let e = c.in-Some.ensures.steps in
    let part = c.in-Some.some.now in
    let rest = chunks_rest c.next.new.self in
    let whole = ap trues_in e.1.0 in
    let both = trues-append part rest in
    let long = ap length e.1.0 in
    let parts = length-append part rest in
    let few = trues_few (length part) (value_at part) in
    let some = c.count_some.ensures in
    let size = e.0 ∙ i.2 in
    (omega arith, tt, size, omega arith, omega arith)

pub returns : goal.returns
returns c = let i = c.loop-some.invariant in
    let e = c.in-None.ensures.steps in
    let none = ap (λ (k : ℕ). trues k (value_at (chunks_rest c.loop-some.some-iterator))) e.1.0 in
    let all = trues-front c.args.values.now c.args.n in
    let end = ap (λ (k : ℕ). trues_in (take k c.args.values.now)) c.min-end.ensures in
    (omega arith, omega arith)
