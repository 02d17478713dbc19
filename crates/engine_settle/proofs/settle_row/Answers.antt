-- No pair that could turn, a constant, or an equation that is told from its row. Assumes nothing.
use native.Mathlib.Omega.{arith}
use Rattle.std.proofs.Common.{◌≡◌, ℕ, ◌+◌, ◌*◌, ◌≤◌, List, length, refl, sym, ap, ◌∙◌, subst}
use Rattle.std.specs.Prelude.{not, eqb}
use Rattle.words.specs.WordLaws.{byte_small}
use Rattle.lists.specs.Lists.{listed}
use Rattle.lists.specs.Tests.{not-out}
use Rattle.engine_table.specs.Table.{table_in, reads_as}
use Rattle.engine_index.specs.Indexed.{heads_of}
use Rattle.engine_settle.specs.Told.{told, leads_one, Asked}
use Rattle.engine_settle.specs.Rows.{decides, becomes, row-long, asked-labels, asked-proposition, asked-first, asked-second, asked-heads, told-label, told-join, told-step, tells_row, tells-own, tells-other, tells-nothing}
use Rattle.engine_settle.proofs.settle_row.Goals.{After-equation_in-e}
use Rattle.engine_settle.proofs.settle_row.Goals as goal

-- What the row is told from, once the equation has been read.
asked : (c : After-equation_in-e) → let a = c.args in let e = c.equation_in-e.result in
    Asked (table_in a.known.now.sizes a.labels.now a.known.now.equations.now a.known.now.moves.now) a.values.now a.y.0 e.operator e.first e.second e.block e.kind (length a.bad.now)
asked c =
    record {
      drawn = c.requires.drawn;
      reads = reads_as c.equation_in-e.ensures;
      below = c.requires.y_lt_variables.0;
      pairs = c.requires.y_lt_variables.1.0;
      bits = c.requires.bits;
      places = c.requires.y_lt_variables.1.1;
    }

pub returns-then-not-row_has : goal.returns-then-not-row_has
returns-then-not-row_has c =
    tells-nothing (asked (goal.at.returns-then-not-row_has c).After-equation_in-e) _ _ refl c.row_in.ensures (sym c.row_has.ensures ∙ not-out _ (ap not c.if-not-row_has.true))

pub returns-in-Constant : goal.returns-in-Constant
returns-in-Constant c = tells-own (asked (goal.at.returns-in-Constant c).After-equation_in-e) _ refl c.in-Constant.ensures c.if-e.true

pub returns-in-Constant-2 : goal.returns-in-Constant-2
returns-in-Constant-2 c = tells-other (asked (goal.at.returns-in-Constant-2 c).After-equation_in-e) _ c.in-Constant-2.ensures c.if-e.false (c.fill.ensures.after (λ y h. h))

pub row_label-requires : goal.row_label-requires
row_label-requires c = let q = asked (goal.at.row_label-requires c).After-equation_in-e in
    let e = c.equation_in-e.result in
    (asked-labels q, (asked-proposition q c.in-Label.ensures.0 c.in-Label.ensures.1, byte_small (not (eqb (decides e.operator) e.kind))))

pub returns-in-Label : goal.returns-in-Label
returns-in-Label c = let q = asked (goal.at.returns-in-Label c).After-equation_in-e in
    tells_row q _ (told-label q _ c.in-Label.ensures.0 c.in-Label.ensures.1 c.row_label.ensures)

pub row_in-first-requires : goal.row_in-first-requires
row_in-first-requires c = asked-first (asked (goal.at.row_in-first-requires c).After-equation_in-e) c.in-Join.ensures.0 c.in-Join.ensures.1

pub row_in-second-requires : goal.row_in-second-requires
row_in-second-requires c = asked-second (asked (goal.at.row_in-second-requires c).After-equation_in-e) c.in-Join.ensures.0

pub row_join-requires : goal.row_join-requires
row_join-requires c = let q = asked (goal.at.row_join-requires c).After-equation_in-e in
    let a = c.args in
    let e = c.equation_in-e.result in (
      row-long e.first (length a.bad.now) _ a.values.now (asked-first q c.in-Join.ensures.0 c.in-Join.ensures.1) c.row_in-first.ensures,
      (
        row-long e.second (length a.bad.now) _ a.values.now (asked-second q c.in-Join.ensures.0) c.row_in-second.ensures,
        byte_small (not (eqb (decides e.operator) e.kind)),
      ),
    )

pub returns-in-Join : goal.returns-in-Join
returns-in-Join c = let q = asked (goal.at.returns-in-Join c).After-equation_in-e in
    tells_row q _ (told-join q _ _ _ c.in-Join.ensures.0 c.in-Join.ensures.1 c.row_in-first.ensures c.row_in-second.ensures c.row_join.ensures)

pub row_in-row-requires : goal.row_in-row-requires
row_in-row-requires c = asked-second (asked (goal.at.row_in-row-requires c).After-equation_in-e) (omega arith)

pub row_step-requires : goal.row_step-requires
row_step-requires c = let q = asked (goal.at.row_step-requires c).After-equation_in-e in
    let a = c.args in
    let e = c.equation_in-e.result in
    let g = c.chains_in.result in
    let n : length a.bad.now ≡ g.states = q.places ∙ sym c.chains_in.ensures.0 in
    let l = c.chains_in.ensures.1.1 in
    let h = subst (λ (n : ℕ). e.first * n + n ≤ heads_of a.known.now.sizes) n (asked-heads q _ refl c.in-Step.ensures) in
    record {
      bad_len = (n, row-long e.second (length a.bad.now) _ a.values.now (asked-second q (omega arith)) c.row_in-row.ensures ∙ n);
      heads_in_bounds = (omega (arith, h, l), byte_small (not (eqb (decides e.operator) e.kind)));
    }

pub returns-in-Step : goal.returns-in-Step
returns-in-Step c = let q = asked (goal.at.returns-in-Step c).After-equation_in-e in
    let a = c.args in
    let e = c.equation_in-e.result in
    let row = c.row_in-row.result.now in
    tells_row q _
    (told-step q row _ c.in-Step.ensures c.row_in-row.ensures
    (c.row_step.ensures
    ∙ ap (λ (m : List ℕ). listed 0 (length a.bad.now) (λ s. told (becomes e.operator e.kind) (leads_one m e.first row (decides e.operator) s))) c.chains_in.ensures.1.0))
