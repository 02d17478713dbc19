-- By whether the change is an insert. Assumes nothing.
use mathlib.Core.Path.{ap, ◌∙◌}
use Prim.Native.Nat.{ℕ, ◌-◌}
use lib.ListN.{set}
use Rattle.moves.specs.Ascending.{below}
use Rattle.batch_apply.proofs.note_one.Goals as goal

pub returns-then-inserts : goal.returns-then-inserts
returns-then-inserts c = rw (← c.inserts.ensures, c.if-inserts.true)

pub returns : goal.returns
returns c = let a = c.args in
    let place = c.place_of-at.ensures.place ∙ ap (λ (q : ℕ). below q a.moves.now) c.move_of.ensures in
    let e = ap (λ (at : ℕ). set a.places.now (a.top - 1) at) place in
    rw (← c.inserts.ensures, c.if-inserts.false) (λ i. record { places = e i; top = a.top - 1 })
