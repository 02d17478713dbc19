-- By whether there is room. Assumes nothing.
use mathlib.Core.Path.{sym, ap, ◌∙◌}
use Prim.Native.Nat.{ℕ, ◌+◌}
use native.Mathlib.Omega.{arith}
use borrow.Author.Tests.{lt-ltb, le-ltb}
use lib.ListN.{length, set}
use mathlib.Core.List.{List}
use Rattle.batch_apply.specs.Shifts.{pushed-copy}
use lib.Seq.{length-take-le}
use Rattle.batch_apply.specs.Kept.{kept, pushed_in, inserted_into}
use Rattle.batch_apply.specs.Orders.{place-leads, place_inside}
use Rattle.batch_apply.proofs.insert_move.Goals as goal

pub returns-then-moves-n : goal.returns-then-moves-n
unfolding inserted_into
returns-then-moves-n c = let a = c.args in
    rw (le-ltb a.n (length a.moves.now) c.if-moves-n.true)

pub slice_bounds-place_of-end-2 : goal.slice_bounds-place_of-end-2
slice_bounds-place_of-end-2 c = sym (length-take-le c.args.n c.args.moves.now c.requires.fits)

pub returns : goal.returns
unfolding inserted_into
returns c = let a = c.args in
    let place = c.place_of-at.ensures.place ∙ place-leads a.p (kept a.moves.now a.n) c.requires in
    let k = place_inside a.p (kept a.moves.now a.n) c.requires in
    let e = ap (λ (x : List ℕ). set x c.place_of-at.result a.p) c.copy_within.ensures.after
    ∙ pushed-copy a.moves.now c.place_of-at.result a.n a.p (omega arith) (omega arith)
    ∙ ap (λ (j : ℕ). pushed_in j (a.n + 1) a.p a.moves.now) place in
    rw (lt-ltb a.n (length a.moves.now) c.if-moves-n.false) (λ i. record { moves = e i; count = a.n + 1 })
