-- First the deletes, then the inserts. Assumes nothing.
use mathlib.Core.Path.{sym, ap, ◌∙◌, subst}
use mathlib.Core.Bool.{true}
use Rattle.words.specs.Words.{changes_of}
use Rattle.batch_apply.specs.Kept.{Kept, changed_all, AllOrderly}
use Rattle.batch_apply.specs.Orders.{ready-in}
use Rattle.batch_apply.proofs.apply.Goals as goal

pub insert_each-requires : goal.insert_each-requires
insert_each-requires c = let a = c.args in
    let cs = changes_of a.changes.now in
    subst (AllOrderly true cs) (sym c.delete_all-left.ensures) (ready-in cs a.n a.moves.now c.requires)

pub returns : goal.returns
returns c = let a = c.args in
    c.insert_each.ensures ∙ ap (λ (k : Kept). changed_all true (changes_of a.changes.now) k) c.delete_all-left.ensures
