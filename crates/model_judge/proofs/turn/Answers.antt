-- `model_judge::turn` meets its contract. Assumes nothing.
use mathlib.Core.Path.{sym, ap, ◌∙◌}
use Rattle.std.specs.Prelude.{Ok}
use Rattle.rules.specs.Load.{inside}
use Rattle.limits.specs.Lent.{lengths_by}
use Rattle.model_judge.specs.RecordTurns.{step_kept, turned-broken, turned-no, turned-next, turned-over}
use Rattle.model_judge.specs.Progress.{sofar_of, judged_says}
use Rattle.model_judge.proofs.turn.Goals as goal

pub returns-in_default : goal.returns-in_default
returns-in_default c =
    let h = c.in_ok-h.h in
    rw (c.in_ok-h.was, c.refused.ensures) (λ s e n. turned-broken (lengths_by c.args.l) s (inside (sofar_of h.so_far)) h.at (sym e ∙ c.in_default.is))

pub returns-in-Err : goal.returns-in-Err
returns-in-Err c =
    let h = c.in_ok-h.h in
    let j = sym c.judge_record.ensures ∙ ap judged_says c.in-Err.is in
    rw (c.in_ok-h.was, c.refused-in-Err.ensures) (λ s e n. turned-no (lengths_by c.args.l) s (inside (sofar_of h.so_far)) h.at c.in-Some.next c.in-Some.last (sym e ∙ c.in-Some.is) c.in-Err.why j)

pub returns-in-Ok-Some : goal.returns-in-Ok-Some
returns-in-Ok-Some c =
    let l = lengths_by c.args.l in
    let h = c.in_ok-h.h in
    let y = c.in-Ok-Some.so_far in
    let j = sym c.judge_record.ensures ∙ ap judged_says (c.in-Ok-Some.is ∙ ap Ok c.in-Ok-Some.field-0-is) in
    let k = step_kept l (sofar_of h.so_far) (sofar_of y) c.in-Some.last h.so_far.kept j in
    rw c.in_ok-h.was (λ s e n. turned-next l s (inside (sofar_of h.so_far)) h.at c.in-Some.next c.in-Some.last (sym e ∙ c.in-Some.is) y j k)

pub returns-in-Ok-None : goal.returns-in-Ok-None
returns-in-Ok-None c =
    let h = c.in_ok-h.h in
    let j = sym c.judge_record.ensures ∙ ap judged_says (c.in-Ok-None.is ∙ ap Ok c.in-Ok-None.field-0-is) in
    rw (c.in_ok-h.was, c.at_end.ensures) (λ s e n. rw n (turned-over (lengths_by c.args.l) s h.so_far h.at c.in-Some.next c.in-Some.last (sym e ∙ c.in-Some.is) j))
