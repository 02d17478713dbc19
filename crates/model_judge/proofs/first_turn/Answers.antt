-- `model_judge::first_turn` meets its contract. Assumes nothing.
use mathlib.Core.Path.{◌≡◌, refl, sym, ap, ◌∙◌}
use borrow.Author.Tests.{not-false}
use Rattle.rules.specs.Limits.{sizes_ok}
use Rattle.rules.specs.declared.Record.TheVariants as R
use Rattle.rules.specs.declared.Record.{Record}
use Rattle.rules.specs.declared.Refusal.TheVariants as Why
use Rattle.rules.specs.Load.{before}
use Rattle.limits.specs.Lent.{lengths_by}
use Rattle.bytes_read.specs.Places.{record_at}
use Rattle.model_judge.specs.RecordTurns.{turned-broken, turned-no, turned-next, sizes-no, sizes-next, sizes-due, started-kept}
use borrow.Enum.Refused.{opened}
use Rattle.std.specs.Prelude.{not, Some}
use Rattle.model_judge.proofs.first_turn.Goals as goal

pub returns-in_default : goal.returns-in_default
returns-in_default c = λ s e.
    rw c.refused.ensures (turned-broken (lengths_by c.args.l) s before 0 (sym e ∙ c.in_default.is))

pub returns-in_default-last : goal.returns-in_default-last
returns-in_default-last c = λ s e.
    let l = lengths_by c.args.l in
    rw c.refused-in_default-last.ensures
    (turned-no l s before 0 c.in-Some.at c.in-Some.last (sym e ∙ c.in-Some.is) Why.NotDue (sizes-due l c.in-Some.last (opened c.in_default-last.in_default-last-own.keys2)))

pub returns-then-not-sizes_ok : goal.returns-then-not-sizes_ok
returns-then-not-sizes_ok c = λ s e.
    let l = lengths_by c.args.l in
    let n = c.in-Some.at in
    let z = c.in-Sizes.z in
    let got : record_at s 0 ≡ Some (R.Sizes z, n) = sym e ∙ c.in-Some.is ∙ ap (λ (r : Record). Some (r, n)) c.in-Sizes.is in
    rw c.refused-then-not-sizes_ok.ensures
    (turned-no l s before 0 n (R.Sizes z) got Why.BadSize (sizes-no l z 1 (refl, rw c.sizes_ok.ensures at (ap not c.if-not-sizes_ok.true))))

pub returns-then-not-lent_ok : goal.returns-then-not-lent_ok
returns-then-not-lent_ok c = λ s e.
    let l = lengths_by c.args.l in
    let n = c.in-Some.at in
    let z = c.in-Sizes.z in
    let got : record_at s 0 ≡ Some (R.Sizes z, n) = sym e ∙ c.in-Some.is ∙ ap (λ (r : Record). Some (r, n)) c.in-Sizes.is in
    rw c.refused-then-not-lent_ok.ensures
    (turned-no l s before 0 n (R.Sizes z) got Why.ShortRoom (sizes-no l z 2 (refl, (rw c.sizes_ok.ensures at (ap not c.if-not-sizes_ok.false), rw c.lent_ok.ensures at (ap not c.if-not-lent_ok.true)))))

pub returns : goal.returns
returns c = λ s e.
    let l = lengths_by c.args.l in
    let n = c.in-Some.at in
    let z = c.in-Sizes.z in
    let got : record_at s 0 ≡ Some (R.Sizes z, n) = sym e ∙ c.in-Some.is ∙ ap (λ (r : Record). Some (r, n)) c.in-Sizes.is in
    let w = c.started_with.ensures in
    let fits = rw c.sizes_ok.ensures at (ap not c.if-not-sizes_ok.false) in
    let k = sizes-next l z (refl, (fits, (rw c.lent_ok.ensures at (ap not c.if-not-lent_ok.false), tt))) in
    turned-next l s before 0 n (R.Sizes z) got c.started_with.result (rw w k) (rw w (started-kept z (not-false (sizes_ok z) fits)))
