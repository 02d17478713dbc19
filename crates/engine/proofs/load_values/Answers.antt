-- From each block's own value the update finds the fixpoints. Assumes nothing.
use mathlib.Core.Path.{◌≡◌, refl, sym, ap, ◌∙◌, subst}
use mathlib.Core.List.{[]}
use Prim.Native.Nat.{ℕ, ◌≤◌}
use lib.ListN.{length, take}
use native.Mathlib.Omega.{arith}
use lib.Dec.{eqb}
use Rattle.lists.specs.Lists.{fill}
use Rattle.systems.specs.machine.Machine.{own}
use Rattle.rules.specs.Calls.{bits}
use Rattle.rules.specs.Model.{Model}
use Rattle.rules.specs.Rooms.{pairs_of}
use Rattle.laws.specs.model.ModelSystem.{frame}
use Rattle.engine_table.specs.Lent.{table_of, kind_in, drawn-sound}
use Rattle.engine_values.specs.Starts.{own-filled}
use Rattle.engine.specs.Updates.{load-starts, load-leaves, load-clears}
use Rattle.engine_phase.specs.Started.{Started}
use Rattle.rules.specs.declared.Sizes.{Sizes}
use Rattle.engine.specs.Held.{Leads, leads_by, rooms_fit}
use Rattle.engine.proofs.load_values.Goals.{After-move_in_rooms, After-own_values, Start}
use Rattle.engine.proofs.load_values.Goals as goal

-- The model that the rooms hold.
abbrev model_of : Start → Model
model_of c = table_of c.args.sizes c.args.labels.now c.args.equations.now c.args.moves.now c.args.n

-- The pairs begin with the values of their blocks.
begins-own : (c : After-own_values) →
    c.own_values.new.values ≡ fill (bits (pairs_of c.args.sizes) (own (frame (table_of c.args.sizes c.args.labels.now c.args.equations.now c.args.moves.now c.args.n)))) c.args.values.now
begins-own c =
    let a = c.args in
    c.own_values.ensures ∙ ap (λ (q : ℕ). fill (bits q (λ p. eqb (kind_in a.sizes a.equations.now p) 1)) a.values.now) c.pairs_of-p.ensures.0
    ∙ own-filled a.sizes a.labels.now a.equations.now a.moves.now a.n c.requires.drawn a.values.now

pub own_values-requires : goal.own_values-requires
own_values-requires c = let a = c.args in
    let d = c.requires.drawn in
    let is-pairs = c.pairs_of-p.ensures.0 in
    ((drawn-sound a.sizes a.labels.now a.equations.now a.moves.now a.n d).some, omega (arith, c.requires.sizes_in_bounds.0))

-- What is moved is the model that the rooms hold.
moved : (c : After-move_in_rooms) → (let a = c.args in
    Leads a.sizes a.labels.now a.equations.now a.moves.now a.n [] c.own_values.new.values a.marks.now a.index.now a.queue.now
    c.move_in_rooms.new.values c.move_in_rooms.new.marks c.move_in_rooms.new.index c.move_in_rooms.new.queue c.move_in_rooms.result)
moved c = let a = c.args in leads_by c.cut_out-held.result a.sizes a.labels.now a.equations.now a.moves.now a.n c.cut_out-held.ensures _ _ _ a.index.now a.queue.now _ _ _ _ _ c.move_in_rooms.ensures

pub move_in_rooms-requires : goal.move_in_rooms-requires
move_in_rooms-requires c = let a = c.args in
    let d = c.requires.drawn in
    let rooms = c.requires.sizes_in_bounds in
    let ok = drawn-sound a.sizes a.labels.now a.equations.now a.moves.now a.n d in
    let kept = c.own_values.auto.values in
    let is = c.cut_out-held.ensures in
    let starts = load-starts (model_of (goal.at.move_in_rooms-requires c).Start) ok a.values.now _ rooms.0 (begins-own (goal.at.move_in_rooms-requires c).After-own_values) in
    let long : (pairs_of a.sizes ≤ length c.own_values.new.values) × (pairs_of a.sizes ≤ length a.marks.now) = (omega (arith, rooms.0), rooms.1) in
    record {
      changes_value = refl;
      started = subst (λ (m : Model). Started m [] (take (pairs_of m.sizes) c.own_values.new.values)) (sym is) starts;
      sizes_in_bounds = subst (λ (z : Sizes). (pairs_of z ≤ length c.own_values.new.values) × (pairs_of z ≤ length a.marks.now)) (sym (ap (λ (m : Model). m.sizes) is)) long;
      moves_in_bounds = rooms_fit c.cut_out-held.result a.sizes a.labels.now a.equations.now a.moves.now a.n is a.index.now a.queue.now d.long_moves c.requires.moves_in_bounds;
    }

pub set_first-requires : goal.set_first-requires
set_first-requires c = let is-pairs = c.pairs_of-p.ensures.0 in
    let marked = c.move_in_rooms.auto.marks in
    omega (arith, c.requires.sizes_in_bounds.1)

pub returns : goal.returns
returns c = let a = c.args in
    let rooms = c.requires.sizes_in_bounds in
    let ok = drawn-sound a.sizes a.labels.now a.equations.now a.moves.now a.n c.requires.drawn in
    let is-own = begins-own (goal.at.returns c).After-own_values in
    let done = moved (goal.at.returns c).After-move_in_rooms in (
      (
        load-leaves (model_of (goal.at.returns c).Start) ok a.values.now _ rooms.0 is-own a.marks.now _ _ _ _ _ done.0,
        load-clears (model_of (goal.at.returns c).Start) ok a.values.now _ rooms.0 is-own a.marks.now _ _ _ _ _ _ c.pairs_of-p.result done.0 c.pairs_of-p.ensures.0 c.set_first.ensures,
      ),
      done.1,
    )
