-- The row is cleared, and the changes and the moves are asked, where one of them may seed. Assumes nothing.
use native.Mathlib.Omega.{arith}
use mathlib.Core.Bool.{beq}
use Rattle.std.proofs.Common.{rules, ◌≡◌, ℕ, Bool, List, ◌<◌, ap, sym, ◌∙◌, subst}
use Rattle.std.specs.Prelude.{not, ◌&&◌, ◌||◌, eqb}
use Rattle.lists.specs.Lists.{is}
use Rattle.engine_table.specs.EquationWords.{drawn-sound}
use Rattle.engine_index.specs.Walks.{SetWhere}
use Rattle.engine_index.specs.Targets.{leads_where}
use Rattle.engine_shift.specs.Adds.{adds-set, adds-if, adds-not}
use Rattle.engine_shift.specs.ChangeSeeds.{change-inside, gains-is}
use Rattle.engine_shift.specs.Seeds.{gone_to, touches_at, step_seeds}
use Rattle.engine_shift.specs.RowSeeds.{shows-yes, shows-no, step-none}
use Rattle.engine_shift.specs.RowParts.{may-part, step-told}
use Rattle.engine_shift.proofs.shift_step.Goals.{After-may_have_gone-may}
use Rattle.engine_shift.proofs.shift_step.Goals as goal

pub returns-then-not-any_of_kind-may : goal.returns-then-not-any_of_kind-may
returns-then-not-any_of_kind-may c = let a = c.args in
    let t = a.known.now in
    let e = a.e in
    let g : Bool = not (beq (eqb e.operator 7) (eqb e.kind 1)) in
    let seeds : Bool → ℕ → Bool = λ b. step_seeds t.sizes t.equations.now t.moves.now a.changes.now a.values.now a.marks.now b e.first e.second e.block e.kind in
    shows-no t.sizes.states (seeds (is (not (eqb e.kind 1)) (eqb e.operator 7))) a.bad.now c.requires.changes_value.1
    (λ s h. ap (λ (b : Bool). seeds b s) (sym (gains-is (eqb e.operator 7) (eqb e.kind 1)))
    ∙ step-none t.sizes t.equations.now a.values.now a.marks.now e.block e.kind t.moves.now a.changes.now (drawn-sound t.drawn).moves g e.first e.second s _ _
    c.any_of_kind.ensures (c.may_have_gone-may.ensures ∙ may-part c.row_of-row.ensures) c.if-not-any_of_kind-may.true)

pub add_changes-requires : goal.add_changes-requires
add_changes-requires c = let a = c.args in
    let n = c.fill.ensures.len in
    let l = c.row_of-row.ensures.long in
    record {
      inside = λ i h. let k = change-inside a.known.now.sizes a.changes.now i c.requires.changes_value.0 h in (omega arith, omega arith);
    }

-- What is seeded, told from the row.
told : (c : After-may_have_gone-may) → let a = c.args in
    let t = a.known.now in
    let e = a.e in
    let r = c.row_of-row.result in
    (s : ℕ) → s < t.sizes.states
    → step_seeds t.sizes t.equations.now t.moves.now a.changes.now a.values.now a.marks.now (is (not (eqb e.kind 1)) (eqb e.operator 7)) e.first e.second e.block e.kind s
    ≡ (touches_at a.changes.now r.values.now r.marks.now r.earlier (not (beq (eqb e.operator 7) (eqb e.kind 1))) e.kind e.first 0 s
    || (c.may_have_gone-may.result && leads_where t.moves.now e.first (λ u. gone_to r.values.now r.marks.now e.kind u) s))
told c s h = let a = c.args in
    let t = a.known.now in
    let e = a.e in
    ap (λ (b : Bool). step_seeds t.sizes t.equations.now t.moves.now a.changes.now a.values.now a.marks.now b e.first e.second e.block e.kind s)
    (sym (gains-is (eqb e.operator 7) (eqb e.kind 1)))
    ∙ step-told c.row_of-row.ensures t.moves.now a.changes.now (drawn-sound t.drawn).moves c.requires.changes_value.0 (not (beq (eqb e.operator 7) (eqb e.kind 1)))
    c.may_have_gone-may.result e.kind e.first c.may_have_gone-may.ensures s

pub returns-then-may : goal.returns-then-may
returns-then-may c = let a = c.args in
    let t = a.known.now in
    let e = a.e in
    let r = c.row_of-row.result in
    let went : ℕ → Bool = λ u. gone_to r.values.now r.marks.now e.kind u in
    let mid = c.add_changes.new.bad in
    let bad = c.set_leading.new.bad in
    let led = subst (λ (m : List ℕ). SetWhere (leads_where m e.first went) 1 mid bad) c.chains_in-goes.ensures.1.0 (c.set_leading.ensures went (λ u x l p. search rules)) in
    shows-yes t.sizes.states (step_seeds t.sizes t.equations.now t.moves.now a.changes.now a.values.now a.marks.now (is (not (eqb e.kind 1)) (eqb e.operator 7)) e.first e.second e.block e.kind)
    (touches_at a.changes.now r.values.now r.marks.now r.earlier (not (beq (eqb e.operator 7) (eqb e.kind 1))) e.kind e.first 0)
    (λ s. c.may_have_gone-may.result && leads_where t.moves.now e.first went s) a.bad.now c.fill.new.self mid bad c.requires.changes_value.1
    (c.fill.ensures.after (λ y h. h)) c.add_changes.ensures
    (adds-if (leads_where t.moves.now e.first went) c.may_have_gone-may.result mid bad c.if-may.true (adds-set (leads_where t.moves.now e.first went) mid bad c.set_leading.auto.bad led))
    (told (goal.at.returns-then-may c).After-may_have_gone-may)

pub returns-else-may : goal.returns-else-may
returns-else-may c = let a = c.args in
    let t = a.known.now in
    let e = a.e in
    let r = c.row_of-row.result in
    let went : ℕ → Bool = λ u. gone_to r.values.now r.marks.now e.kind u in
    let mid = c.add_changes.new.bad in
    shows-yes t.sizes.states (step_seeds t.sizes t.equations.now t.moves.now a.changes.now a.values.now a.marks.now (is (not (eqb e.kind 1)) (eqb e.operator 7)) e.first e.second e.block e.kind)
    (touches_at a.changes.now r.values.now r.marks.now r.earlier (not (beq (eqb e.operator 7) (eqb e.kind 1))) e.kind e.first 0)
    (λ s. c.may_have_gone-may.result && leads_where t.moves.now e.first went s) a.bad.now c.fill.new.self mid mid c.requires.changes_value.1
    (c.fill.ensures.after (λ y h. h)) c.add_changes.ensures (adds-not (leads_where t.moves.now e.first went) c.may_have_gone-may.result mid c.if-may.false)
    (told (goal.at.returns-else-may c).After-may_have_gone-may)
