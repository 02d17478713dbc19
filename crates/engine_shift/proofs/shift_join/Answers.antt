-- The row is cleared, and both operands are asked, where one of them may have gone. Assumes nothing.
use Rattle.std.proofs.Common.{ℕ, Bool, sym, ◌∙◌, subst}
use Rattle.std.specs.Prelude.{◌&&◌}
use Rattle.engine_shift.specs.Adds.{Adds, adds-if, adds-not}
use Rattle.engine_shift.specs.Seeds.{gone_to, join_seeds}
use Rattle.engine_shift.specs.RowSeeds.{shows-yes, shows-no, join-none}
use Rattle.engine_shift.specs.RowParts.{may-part, join-rows-told}
use Rattle.engine_shift.proofs.shift_join.Goals.{then-first, else-first, Joined-first}
use Rattle.engine_shift.proofs.shift_join.Goals as goal

-- What the first operand adds.
first-added : (c : Joined-first) → let r = c.row_of-one.result in
    Adds (λ s. c.may_have_gone-first.result && gone_to r.values.now r.marks.now c.args.e.kind s) c.fill.new.self c.if-first.bad
first-added c =
    let r = c.row_of-one.result in
    let f : ℕ → Bool = gone_to r.values.now r.marks.now c.args.e.kind in
    let one = c.may_have_gone-first.result in
    elim c.if-first.branch [
      | then-first w ↦ subst (Adds (λ s. one && f s) c.fill.new.self) (sym w.bad-is) (adds-if f one c.fill.new.self _ w.if-first.true w.add_gone.ensures)
      | else-first w ↦ subst (Adds (λ s. one && f s) c.fill.new.self) (sym w.bad-is) (adds-not f one c.fill.new.self w.if-first.false)
    ]

pub returns-then-not-first-second : goal.returns-then-not-first-second
returns-then-not-first-second c = let a = c.args in
    let z = a.known.now.sizes in
    let e = a.e in
    shows-no z.states (join_seeds z a.known.now.equations.now a.values.now a.marks.now e.first e.second e.block e.kind) a.bad.now c.requires.bad_len
    (λ s h. join-none z a.known.now.equations.now a.values.now a.marks.now e.block e.kind e.first e.second s _ _
    (c.may_have_gone-first.ensures ∙ may-part c.row_of-one.ensures) (c.may_have_gone-second.ensures ∙ may-part c.row_of-two.ensures) c.if-not-first-second.true h)

pub returns-then-second : goal.returns-then-second
returns-then-second c = let a = c.args in
    let z = a.known.now.sizes in
    let e = a.e in
    let r = c.row_of-one.result in
    let q = c.row_of-two.result in
    let one = c.may_have_gone-first.result in
    let two = c.may_have_gone-second.result in
    shows-yes z.states (join_seeds z a.known.now.equations.now a.values.now a.marks.now e.first e.second e.block e.kind)
    (λ s. one && gone_to r.values.now r.marks.now e.kind s) (λ s. two && gone_to q.values.now q.marks.now e.kind s)
    a.bad.now c.fill.new.self c.if-first.bad _ c.requires.bad_len (c.fill.ensures.after (λ y h. h)) (first-added (goal.at.returns-then-second c).Joined-first)
    (adds-if (gone_to q.values.now q.marks.now e.kind) two c.if-first.bad _ c.if-second.true c.add_gone-then-second.ensures)
    (join-rows-told c.row_of-one.ensures c.row_of-two.ensures e.kind one two c.may_have_gone-first.ensures c.may_have_gone-second.ensures)

pub returns-else-second : goal.returns-else-second
returns-else-second c = let a = c.args in
    let z = a.known.now.sizes in
    let e = a.e in
    let r = c.row_of-one.result in
    let q = c.row_of-two.result in
    let one = c.may_have_gone-first.result in
    let two = c.may_have_gone-second.result in
    shows-yes z.states (join_seeds z a.known.now.equations.now a.values.now a.marks.now e.first e.second e.block e.kind)
    (λ s. one && gone_to r.values.now r.marks.now e.kind s) (λ s. two && gone_to q.values.now q.marks.now e.kind s)
    a.bad.now c.fill.new.self c.if-first.bad c.if-first.bad c.requires.bad_len (c.fill.ensures.after (λ y h. h)) (first-added (goal.at.returns-else-second c).Joined-first)
    (adds-not (gone_to q.values.now q.marks.now e.kind) two c.if-first.bad c.if-second.false)
    (join-rows-told c.row_of-one.ensures c.row_of-two.ensures e.kind one two c.may_have_gone-first.ensures c.may_have_gone-second.ensures)
