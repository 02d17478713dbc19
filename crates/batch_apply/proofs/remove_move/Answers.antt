-- By whether a place was found below n. Assumes nothing.
use mathlib.Core.Path.{◌≡◌, sym, ap, ◌∙◌}
use mathlib.Core.List.{List}
use Prim.Native.Nat.{ℕ, ◌-◌, ◌≤◌, ◌<◌}
use borrow.Author.Tests.{lt-ltb, le-ltb}
use lib.ListN.{take, set}
use lib.Seq.{length-take-le}
use Rattle.moves.specs.Ascending.{leading}
use Rattle.batch_apply.specs.Kept.{kept, pulled_in, removed_from}
use Rattle.batch_apply.specs.Orders.{place-leads}
use Rattle.batch_apply.specs.Shifts.{pulled-copy}
use native.Mathlib.Omega.{arith}
use Rattle.batch_apply.proofs.remove_move.Goals.{After-place_of-at}
use Rattle.batch_apply.proofs.remove_move.Goals as goal

-- The place found is the one that the definition names.
abbrev its-place : (c : After-place_of-at) → let a = c.args in c.place_of-at.result ≡ leading a.p (take a.n a.moves.now)
its-place c =
    let a = c.args in
    c.place_of-at.ensures.place ∙ place-leads a.p (kept a.moves.now a.n) c.requires

pub slice_bounds-place_of-end-2 : goal.slice_bounds-place_of-end-2
slice_bounds-place_of-end-2 c = sym (length-take-le c.args.n c.args.moves.now c.requires.fits)

pub returns-then-n-at : goal.returns-then-n-at
unfolding removed_from
returns-then-n-at c = let a = c.args in
    let e = its-place (goal.at.returns-then-n-at c).After-place_of-at in
    let h : a.n ≤ leading a.p (take a.n a.moves.now) = omega (arith, c.if-n-at.true) in
    rw (le-ltb (leading a.p (take a.n a.moves.now)) a.n h)

pub returns : goal.returns
unfolding removed_from
returns c = let a = c.args in
    let at = leading a.p (take a.n a.moves.now) in
    let place = its-place (goal.at.returns c).After-place_of-at in
    let h : at < a.n = omega (arith, c.if-n-at.false) in
    let e = ap (λ (x : List ℕ). set x (a.n - 1) 0) (c.copy_within.ensures.after ∙ pulled-copy a.moves.now c.place_of-at.result a.n (omega arith) (omega (arith, c.requires.fits)) ∙ ap (λ (j : ℕ). pulled_in j (a.n - 1) a.moves.now) place) in
    rw (lt-ltb at a.n h) (λ i. record { moves = e i; count = a.n - 1 })
