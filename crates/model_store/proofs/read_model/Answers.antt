-- `model_store::read_model` meets its contract. Assumes nothing.
use Rattle.std.proofs.Common.{arith}
use Rattle.std.proofs.lemmas.Result.{err_from_is_err_and}
use Rattle.laws.specs.bytes.RecordLaws.{are-bytes}
use Rattle.model_store.specs.StoreLaws.{read-refused, read-good, read_fits}
use Rattle.model_store.specs.Stored.{three}
use Rattle.model_store.proofs.read_model.Goals as goal

pub returns-in_err-summary : goal.returns-in_err-summary
returns-in_err-summary c = let a = c.args in
    let p = err_from_is_err_and c.from_residual.result c.from_residual.ensures.1 in
    rw (p.1, p.2) (read-refused a.bytes.now _ (three a.labels.now a.equations.now a.moves.now) c.judge_model.result _ c.in_err-summary.was c.judge_model.ensures)

pub put_components-requires : goal.put_components-requires
put_components-requires c = let a = c.args in
    let f = read_fits a.bytes.now _ (three a.labels.now a.equations.now a.moves.now) _ _ (are-bytes a.bytes.now (λ i. omega (arith, c.type_inv.bytes i))) c.requires c.in_ok-summary.was c.judge_model.ensures in
    let r = f.room in
    (f.few, omega arith)

pub returns : goal.returns
returns c = let a = c.args in
    read-good a.bytes.now _ (three a.labels.now a.equations.now a.moves.now) _ _ _ _ (are-bytes a.bytes.now (λ i. omega (arith, c.type_inv.bytes i))) c.requires c.in_ok-summary.was c.judge_model.ensures c.store_model.ensures c.put_components.ensures
