-- Inserts and deletes together are the changes, so no count falls below 0. Assumes nothing.
use mathlib.Core.Path.{◌≡◌, ap₂}
use Prim.Native.Nat.{ℕ, ◌+◌, ◌-◌, min}
use lib.ListN.{length}
use lib.Dec.{leb}
use Rattle.rules.specs.Limits.{most_moves}
use Rattle.rules.specs.Batch.{inserts, deletes}
use Rattle.words.specs.Words.{changes_of}
use Rattle.batch_judge.specs.Changes.{changes-count}
use native.Mathlib.Omega.{arith}
use Rattle.batch_judge.proofs.Judgement.fits.Goals as goal

pub overflow_sub-deleted : goal.overflow_sub-deleted
overflow_sub-deleted c = let k = changes-count c.args.self.now.changes.now in omega arith

pub returns : goal.returns
returns c = let a = c.args in
    let cs = changes_of a.self.now.changes.now in
    let inserted = c.inserts-inserted.result in
    let k = changes-count a.self.now.changes.now in
    let e : length a.self.now.moves.now + inserted ≡ length a.self.now.moves.now + length (inserts cs) = omega arith in
    let f : c.min-most.result + (length a.self.now.changes.now - inserted) ≡ min most_moves a.room + length (deletes cs) = omega arith in
    ap₂ (λ (x y : ℕ). leb x y) e f
