-- `model_store::put_components` meets its contract. Assumes nothing.
use mathlib.Core.Path.{sym, ◌∙◌}
use Rattle.model_store.specs.Stored.{with_components}
use Rattle.model_store.proofs.put_components.Goals as goal

pub returns-then-signed : goal.returns-then-signed
unfolding with_components
returns-then-signed c = rw (sym c.signed.ensures ∙ c.if-signed.true) c.number_all.ensures
