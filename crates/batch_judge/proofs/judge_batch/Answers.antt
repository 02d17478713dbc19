-- The five questions in their order. Assumes nothing.
use mathlib.Core.Path.{◌≡◌, ap, ap₂, ◌∙◌}
use Rattle.std.specs.Result.{result_and}
use Rattle.rules.specs.Batch.{unless}
use Rattle.batch_judge.specs.Fits.{held-ascends, first-five, verdict-judges}
use Rattle.batch_judge.specs.Judging.{batch_in, fault_of, or_else}
use Rattle.batch_judge.proofs.judge_batch.Goals as goal

pub invariant_of-asked : goal.invariant_of-asked
invariant_of-asked c =
    record {
      few = c.requires.changes_len_bound;
      ascending = held-ascends c.args.session c.args.moves.now c.requires.held;
    }

pub returns : goal.returns
returns c = let a = c.args in
    let d = c.refused_unless-drawn.result in
    let n = c.repeats-named.result in
    let p = c.misplaces-placed.result in
    let s = c.refused_unless-small.result in
    let l = c.refused_unless-live.result in
    let one = c.and-2.ensures ∙ ap (λ v. result_and v p) c.and.ensures in
    let five : c.and-4.result ≡ result_and (result_and (result_and (result_and d n) p) s) l =
    c.and-4.ensures ∙ ap (λ v. result_and v l) (c.and-3.ensures ∙ ap (λ v. result_and v s) one) in
    verdict-judges a.session a.room a.moves.now (batch_in a.stamp a.changes.now) c.and-4.result c.requires.held
    (ap fault_of five ∙ first-five d n p s l
    ∙ ap₂ or_else c.refused_unless-drawn.ensures
    (ap₂ or_else c.repeats-named.ensures
    (ap₂ or_else c.misplaces-placed.ensures
    (ap₂ or_else (c.refused_unless-small.ensures ∙ ap (unless 10) c.fits.ensures)
    (c.refused_unless-live.ensures ∙ ap (unless 16) c.lives.ensures)))))
