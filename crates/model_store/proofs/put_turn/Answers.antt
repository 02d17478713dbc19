-- `model_store::put_turn` meets its contract. Assumes nothing.
use Rattle.std.proofs.Common.{refl}
use Rattle.model_store.proofs.put_turn.Goals as goal

pub returns-in_default : goal.returns-in_default
returns-in_default c = λ ms. rw c.in_default.is refl

pub returns-in_default-u : goal.returns-in_default-u
returns-in_default-u c = λ ms. rw (c.in-Continue.is, c.in_default-u.is) refl

pub returns : goal.returns
returns c = λ ms. rw (c.in-Continue.is, c.in-Continue-u.is) (c.put_record.ensures ms)
