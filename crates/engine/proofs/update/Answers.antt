-- The level tells how many more pairs are true than before. Assumes nothing.
use mir.Syntax.{w32}
use mir.ValLaws.{to_z-of_z}
use lib.IntN.{ℤ}
use lib.Signed.{mag}
use mathlib.Core.Bool.{true}
use Prim.Native.Nat.{◌≤◌, ◌<◌, ◌^◌}
use mathlib.Core.Path.{◌≡◌, sym, ap, ◌∙◌, subst}
use native.Mathlib.Omega.{arith}
use lib.ListN.{length, take}
use Rattle.words.specs.Words.{changes_of}
use Rattle.engine_table.specs.Lent.{table_of, pairs-few}
use Rattle.rules.specs.Rooms.{pairs_of}
use Rattle.engine_values.specs.Differences.{mag-sub}
use Rattle.engine_phase.specs.Levels.{trues-le, level-of}
use Rattle.engine_phase.specs.Started.{Started}
use Rattle.rules.specs.Batch.{changes_ok}
use Rattle.rules.specs.Model.{Model}
use Rattle.rules.specs.declared.Sizes.{Sizes}
use Rattle.engine.specs.Held.{Leads, leads_by, rooms_fit}
use Rattle.engine.specs.Updates.{update-leaves}
use Rattle.engine.proofs.update.Goals.{After-move_in_rooms-turns}
use Rattle.engine.proofs.update.Goals as goal

-- What is moved is the model that the rooms hold.
moved : (c : After-move_in_rooms-turns) → (let a = c.args in
    Leads a.sizes a.labels.now a.equations.now a.moves.now a.n (changes_of a.changes.now) a.values.now a.marks.now a.index.now a.queue.now
    c.move_in_rooms-turns.new.values c.move_in_rooms-turns.new.marks c.move_in_rooms-turns.new.index c.move_in_rooms-turns.new.queue c.move_in_rooms-turns.result)
moved c = let a = c.args in leads_by c.cut_out-held.result a.sizes a.labels.now a.equations.now a.moves.now a.n c.cut_out-held.ensures _ _ _ a.index.now a.queue.now _ _ _ _ _ c.move_in_rooms-turns.ensures

pub move_in_rooms-turns-requires : goal.move_in_rooms-turns-requires
move_in_rooms-turns-requires c = let a = c.args in
    let is = c.cut_out-held.ensures in
    let size = ap (λ (m : Model). m.sizes) is in
    let cs = changes_of a.changes.now in
    record {
      changes_value = subst (λ (z : Sizes). changes_ok z cs ≡ true) (sym size) c.requires.changes_value;
      started = subst (λ (m : Model). Started m cs (take (pairs_of m.sizes) a.values.now)) (sym is) c.requires.started;
      sizes_in_bounds = subst (λ (z : Sizes). (pairs_of z ≤ length a.values.now) × (pairs_of z ≤ length a.marks.now)) (sym size) c.requires.sizes_in_bounds.0;
      moves_in_bounds = rooms_fit c.cut_out-held.result a.sizes a.labels.now a.equations.now a.moves.now a.n is a.index.now a.queue.now c.requires.drawn.long_moves c.requires.moves_in_bounds;
    }

pub net-requires : goal.net-requires
net-requires c = let a = c.args in
    let few = pairs-few a.sizes a.labels.now a.equations.now a.moves.now a.n c.requires.drawn in
    let is-pairs = c.pairs_of-p.ensures.0 in
    let level = level-of a.sizes c.move_in_rooms-turns.result.level a.values.now c.move_in_rooms-turns.new.values (moved (goal.at.net-requires c).After-move_in_rooms-turns).0.levelled in
    let most = trues-le (pairs_of a.sizes) c.move_in_rooms-turns.new.values in
    (omega arith, omega (arith, level.1))

pub returns : goal.returns
returns c = let a = c.args in
    let few = pairs-few a.sizes a.labels.now a.equations.now a.moves.now a.n c.requires.drawn in
    let is-pairs = c.pairs_of-p.ensures.0 in
    let m = table_of a.sizes a.labels.now a.equations.now a.moves.now a.n in
    let cs = changes_of a.changes.now in
    let done = moved (goal.at.returns c).After-move_in_rooms-turns in
    let level = level-of a.sizes c.move_in_rooms-turns.result.level a.values.now c.move_in_rooms-turns.new.values done.0.levelled in
    let most = trues-le (pairs_of a.sizes) c.move_in_rooms-turns.new.values in
    let x = update-leaves m cs a.values.now a.marks.now _ _ _ _ c.move_in_rooms-turns.result.level c.pairs_of-p.result _ c.requires.started done.0 is-pairs c.net.ensures in (
      record {
        values_are = x.values_are;
        marks_are = x.marks_are;
        shift_is = x.shift_is;
        settle_is = x.settle_is;
        net_is = to_z-of_z w32 c.net.result (record { sfits = subst (λ (z : ℤ). mag z < 2 ^ 31) (sym c.net.ensures) (mag-sub c.move_in_rooms-turns.result.level c.pairs_of-p.result (omega (arith, level.1)) (omega arith)) }) ∙ x.net_is;
      },
      done.1,
    )
