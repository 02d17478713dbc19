-- The row is told, and put where pairs must turn. Assumes nothing.
use mathlib.Core.Path.{◌≡◌, sym, ap, ◌∙◌, subst}
use mathlib.Core.Bool.{true, not}
use Prim.Native.Nat.{ℕ, ◌≤◌}
use lib.Dec.{eqb}
use Rattle.words.specs.WordLaws.{kind-small}
use Rattle.rules.specs.declared.Equation.{Equation}
use Rattle.lists.specs.Lists.{bit}
use Rattle.lists.specs.Tests.{not-out}
use Rattle.rules.specs.Session.{unword}
use Rattle.words.specs.Words.{changes_of}
use Rattle.engine_index.specs.At.{at_labels}
use Rattle.engine_table.specs.Table.{own_in}
use Rattle.engine_table.specs.Limits.{limits}
use Rattle.engine_phase.specs.PutRow.{turns_from}
use Rattle.engine_phase.specs.LookRow.{look-vals, look-marks, look-bits, look-small, look-told, look_none, look-room, look-left}
use Rattle.engine_phase.proofs.look_row.Goals.{After-turns_from-from}
use Rattle.engine_phase.proofs.look_row.Goals as goal

-- Pairs of the row may have to turn, and the byte is that of the value that they turn from.
tells : (c : After-turns_from-from) → c.tell_row.result ≡ true
tells c = c.if-not-tell_row.false

is-from : (c : After-turns_from-from) →
    let a = c.args in
    c.turns_from-from.result ≡ bit (turns_from a.settling (own_in (at_labels a.known.now a.labels.now) a.y.0))
is-from c =
    let settling = c.args.settling in
    c.turns_from-from.ensures
    ∙ ap (λ (k : ℕ). bit (turns_from settling (eqb k 1))) (ap (λ (e : Equation). e.kind) c.equation_in-e.ensures ∙ ap (λ (w : ℕ). (unword w).kind) c.at_or.ensures)

pub tell_row-requires : goal.tell_row-requires
tell_row-requires c = let a = c.args in
    let cs = changes_of a.changes.now in
    let lt = c.requires.y_lt_variables.0 in
    let low = c.requires.y_lt_variables.1.0 in
    let room = c.requires.y_lt_variables.1.1.1 in
    let own = c.requires.packed.1 in
    let look = a.values.now in
    record {
      drawn = c.requires.drawn;
      changes_value = c.requires.changes_value;
      y_lt_variables = (
        lt,
        (
          look-vals c.requires.drawn cs a.block a.settling low a.y.0 lt own look a.marks.now a.queue.now a.tail room c.requires.somewhere,
          (look-marks c.requires.drawn cs a.block a.settling low a.y.0 lt own look a.marks.now a.queue.now a.tail room c.requires.somewhere, c.requires.y_lt_variables.1.1.0),
        ),
      );
      bits = (
        look-bits c.requires.drawn cs a.block a.settling low a.y.0 lt own look a.marks.now a.queue.now a.tail room c.requires.somewhere,
        look-small c.requires.drawn cs a.block a.settling low a.y.0 lt own look a.marks.now a.queue.now a.tail room c.requires.somewhere,
      );
      told = look-told c.requires.drawn cs a.block a.settling low a.y.0 lt own look a.marks.now a.queue.now a.tail room c.requires.somewhere;
    }

pub returns-then-not-tell_row : goal.returns-then-not-tell_row
returns-then-not-tell_row c = let a = c.args in
    let cs = changes_of a.changes.now in
    let lt = c.requires.y_lt_variables.0 in
    let low = c.requires.y_lt_variables.1.0 in
    let room = c.requires.y_lt_variables.1.1.1 in
    let own = c.requires.packed.1 in
    look_none c.requires.drawn cs a.block a.settling low a.y.0 lt own a.values.now a.marks.now a.queue.now a.tail room c.requires.somewhere _ _ c.tell_row.ensures
    (not-out c.tell_row.result (ap not c.if-not-tell_row.true)) c.requires.packed.0

pub turns_from-from-requires : goal.turns_from-from-requires
turns_from-from-requires c = subst (λ (e : Equation). e.kind ≤ 1) (sym c.equation_in-e.ensures) (kind-small _)

pub put_row-requires : goal.put_row-requires
put_row-requires c = let a = c.args in
    let cs = changes_of a.changes.now in
    let lt = c.requires.y_lt_variables.0 in
    let low = c.requires.y_lt_variables.1.0 in
    let room = c.requires.y_lt_variables.1.1.1 in
    let own = c.requires.packed.1 in
    let told = c.tell_row.ensures in
    let l = limits c.requires.drawn in
    record {
      y_lt_variables = (lt, (l.1.1.0, l.0.1));
      values_len = (
        look-vals c.requires.drawn cs a.block a.settling low a.y.0 lt own a.values.now a.marks.now a.queue.now a.tail room c.requires.somewhere,
        (look-marks c.requires.drawn cs a.block a.settling low a.y.0 lt own a.values.now a.marks.now a.queue.now a.tail room c.requires.somewhere, told.long),
      );
      packed = (c.requires.packed.0, look-room c.requires.drawn cs a.block a.settling low a.y.0 lt own a.values.now a.marks.now a.queue.now a.tail room c.requires.somewhere _ _ told _ (is-from (goal.at.put_row-requires c).After-turns_from-from) (tells (goal.at.put_row-requires c).After-turns_from-from));
    }

pub returns : goal.returns
returns c = let a = c.args in
    let cs = changes_of a.changes.now in
    let lt = c.requires.y_lt_variables.0 in
    let low = c.requires.y_lt_variables.1.0 in
    let room = c.requires.y_lt_variables.1.1.1 in
    let own = c.requires.packed.1 in
    let told = c.tell_row.ensures in
    look-left c.requires.drawn cs a.block a.settling low a.y.0 lt own a.values.now a.marks.now a.queue.now a.tail room c.requires.somewhere _ _ told _ (is-from (goal.at.returns c).After-turns_from-from) (tells (goal.at.returns c).After-turns_from-from) _ _ _
    c.put_row.auto.queue c.put_row.ensures
