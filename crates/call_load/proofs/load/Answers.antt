-- `call_load::load` meets its contract. Assumes nothing.
use Rattle.std.proofs.Common.{arith}
use Rattle.std.proofs.lemmas.Result.{err_from_is_err_and}
use Rattle.laws.specs.bytes.RecordLaws.{AreBytes, are-bytes}
use Rattle.rules.specs.Rooms.{rooms_with}
use Rattle.call_load.specs.LoadLaws.{load-refused, found, load-good}
use Rattle.call_load.proofs.load.Goals.{After-read_model, In_ok-found}
use Rattle.call_load.proofs.load.Goals as goal

-- The model's bytes are bytes.
model-bytes : (c : After-read_model) → AreBytes c.args.bytes.now
model-bytes c = are-bytes c.args.bytes.now (λ i. omega (arith, c.type_inv.bytes i))

pub load_values-requires : goal.load_values-requires
load_values-requires c = let a = c.args in
    let rooms = rooms_with a.labels.now a.equations.now a.values.now a.marks.now a.moves.now a.index.now a.queue.now in
    let f = found rooms _ (model-bytes (goal.at.load_values-requires c).After-read_model) _ _ c.read_model.ensures _ c.in_ok-found.was in
    let values = f.values_room in
    let marks = f.marks_room in
    record {
      drawn = f.drawn;
      sizes_in_bounds = (omega (arith, values, marks), omega (arith, values, marks));
      moves_in_bounds = (f.index_room, f.queue_room);
    }

pub returns-in_err-found : goal.returns-in_err-found
returns-in_err-found c =
    let p = err_from_is_err_and c.from_residual.result c.from_residual.ensures.1 in
    rw (p.1, p.2) (load-refused _ _ (model-bytes (goal.at.returns-in_err-found c).After-read_model) _ _ c.read_model.ensures _ c.in_err-found.was)

pub returns : goal.returns
returns c = let solved = c.load_values.ensures in
    load-good _ _ (model-bytes (goal.at.returns c).After-read_model) _ _ c.read_model.ensures _ c.in_ok-found.was _ _ _ _ _ solved.0.0 solved.0.1 solved.1.0 solved.1.1 c.stamp_of-stamp.ensures
