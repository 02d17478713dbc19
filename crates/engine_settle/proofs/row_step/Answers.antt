-- Each place is the other number at first; those of the sources of a move that decides become v. Where the row nowhere has the value
-- that decides, no move leads to one, and the places stay. Assumes nothing.
use Rattle.std.proofs.Common.{rules, ℕ, ◌<◌, length, get_or, eqb, sym, ◌∙◌, subst}
use Rattle.rules.specs.Moves.{target}
use Rattle.engine_index.specs.Targets.{none-leads}
use Rattle.engine_settle.specs.Told.{leads_one}
use Rattle.engine_settle.specs.Settles.{step-told, step-untold}
use Rattle.engine_settle.proofs.row_step.Goals as goal

pub returns-then-row_has : goal.returns-then-row_has
returns-then-row_has c = let a = c.args in
    step-told (leads_one a.chains.moves.now a.a.0 a.row.now a.c) a.v (length a.bad.now) _ _
    (c.set_leading.auto.bad ∙ c.fill.auto.self) (c.fill.ensures.after (λ y h. h))
    (c.set_leading.ensures (λ t. eqb (get_or a.row.now t 0) a.c) (λ t r l p. search rules))

pub returns-else-row_has : goal.returns-else-row_has
returns-else-row_has c = let a = c.args in
    let moves = a.chains.moves.now in
    let inside = subst (λ (n : ℕ). (j : ℕ) → j < length moves → target (get_or moves j 0) < n) (sym c.requires.bad_len.1) a.chains.linked.into in
    step-untold (leads_one moves a.a.0 a.row.now a.c) a.v (length a.bad.now) _
    (none-leads moves a.a.0 (length a.row.now) (λ t. eqb (get_or a.row.now t 0) a.c) inside (sym c.row_has.ensures ∙ c.if-row_has.false)) (c.fill.ensures.after (λ y h. h))
