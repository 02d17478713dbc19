-- In an ascending list the search finds exactly what lies below. Assumes nothing.
use Rattle.std.proofs.Common.{ℕ, ltb, ap, ◌∙◌, zero-add, arith}
use Rattle.lists.specs.Counts.{count-le}
use Rattle.moves.specs.Ascending.{below, leading-below}
use Rattle.moves.proofs.place_of.Goals as goal

pub returns : goal.returns
returns c = let q = c.args.q in
    let ms = c.args.moves.now in
    let e = c.search-found.ensures.0 ∙ zero-add _ ∙ leading-below _ 0 ms c.requires ∙ ap (λ (p : ℕ). below p ms) c.from.ensures in
    let k = count-le (λ p. ltb p q) ms in
    record { place = e; inside = omega arith }
