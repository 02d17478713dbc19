-- What the moves, the machine and the stamp come to is what the rule says. Assumes nothing.
use Rattle.engine_table.specs.Lent.{pairs-few}
use mir.ValLaws.{to_z-of_z}
use mir.Syntax.{w32}
use mathlib.Core.Path.{◌∙◌}
use Rattle.call_batch.specs.Reports.{net-small, update-reports}
use Rattle.call_batch.specs.Moving.{able-ready, made-drawn, made-started, made-few}
use native.Mathlib.Omega.{arith}
use lib.ListN.{length-map}
use Rattle.words.specs.Words.{change_of, changes_of}
use Rattle.rules.specs.Rooms.{Rooms, rooms_with}
use Rattle.call_batch.proofs.move_on.Goals.{Start}
use Rattle.call_batch.proofs.move_on.Goals as goal

-- The rooms as they are lent.
abbrev lent : Start → Rooms
lent s =
    let a = s.args in
    rooms_with a.labels.now a.equations.now a.values.now a.marks.now a.moves.now a.index.now a.queue.now

pub apply-n-requires : goal.apply-n-requires
apply-n-requires c = able-ready c.args.session (lent (goal.at.apply-n-requires c).Start) (changes_of c.args.changes.now) c.requires

pub update-done-requires : goal.update-done-requires
update-done-requires c = let a = c.args in
    let p = c.requires in
    let cs = changes_of a.changes.now in
    let e = c.apply-n.ensures in
    let long = c.apply-n.auto.moves in
    let n = length-map a.changes.now change_of in
    record {
      drawn = made-drawn a.session (lent (goal.at.update-done-requires c).Start) cs p _ _ e;
      changes_value = p.in_range;
      started = made-started a.session (lent (goal.at.update-done-requires c).Start) cs p _ _ e;
      sizes_in_bounds = ((p.is_sane.fits.values_room, p.is_sane.fits.marks_room), omega (arith, p.short));
      moves_in_bounds = (omega (arith, long, p.is_sane.index_room), p.is_sane.queue_room);
    }

pub overflow_cast-held : goal.overflow_cast-held
overflow_cast-held c = let a = c.args in
    let few = made-few a.session (lent (goal.at.overflow_cast-held c).Start) (changes_of a.changes.now) c.requires _ _ c.apply-n.ensures in
    record { fits = omega arith }

pub returns : goal.returns
returns c = let a = c.args in
    let l = lent (goal.at.returns c).Start in
    let cs = changes_of a.changes.now in
    let f = c.update-done.ensures in
    let left = f.0 in
    let few = pairs-few a.session.sizes a.labels.now a.equations.now _ _ (made-drawn a.session l cs c.requires _ _ c.apply-n.ensures) in
    let net = to_z-of_z w32 _ (record { sfits = net-small _ _ _ _ _ _ _ _ _ few left }) ∙ left.net_is in
    update-reports a.session l cs c.requires _ _ c.apply-n.ensures c.apply-n.auto.moves _ _ _ _ _ _ _ _ (record { values_are = left.values_are; marks_are = left.marks_are; shift_is = left.shift_is; settle_is = left.settle_is; net_is = net }) f.1.0 f.1.1 c.carried.ensures
