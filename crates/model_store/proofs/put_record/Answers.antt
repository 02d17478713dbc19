-- `model_store::put_record` meets its contract: case by case as `put_rooms` says. Assumes nothing.
use mathlib.Core.Path.{refl}
use Rattle.model_store.specs.StoreLaws.{puts-nothing, sign_fits}
use Rattle.model_store.specs.Stored.{put_rooms}
use borrow.Enum.Refused.{opened}
use Rattle.model_store.proofs.put_record.Goals as goal

pub word_of-w-requires : goal.word_of-w-requires
word_of-w-requires c = sign_fits c.args.r _ _ _ _ _ c.in-Signed.is c.requires c.signed_of.ensures

pub returns-in-Label : goal.returns-in-Label
unfolding put_rooms
returns-in-Label c = λ ms. rw (c.in-Label.is, c.put_label.ensures) refl

pub returns-in-Block : goal.returns-in-Block
unfolding put_rooms
returns-in-Block c = λ ms. rw (c.in-Block.is, c.zeros.ensures) refl

pub returns-in-Equation : goal.returns-in-Equation
unfolding put_rooms
returns-in-Equation c = λ ms. rw (c.in-Equation.is, c.put.ensures, c.equation_word-w.ensures) refl

pub returns-in-Signed : goal.returns-in-Signed
unfolding put_rooms
returns-in-Signed c = λ ms. rw (c.in-Signed.is, c.put-in-Signed.ensures, c.word_of-w.ensures, c.signed_of.ensures, c.zeros-in-Signed.ensures) refl

pub returns-in_default : goal.returns-in_default
returns-in_default c = λ ms. puts-nothing _ c.args.r _ c.requires (opened c.in_default.in_default-own.keys5)
