-- The entry at the place of the move, if there is one, tells. Assumes nothing.
use Rattle.std.proofs.Common.{◌≡◌, ℕ, Bool, Option, ◌&&◌, eqb, ltb, List, length, get_or, Some, None, ◌∙◌, Bor, arith}
use Rattle.std.specs.Option.{option_eq, option_map, unwrap_or, is_some}
use Rattle.moves.specs.Members.{held_at}
use Rattle.moves.proofs.holds_move.Goals as goal

-- What is read at a place, compared with a number.
read_as : (o : Option (Bor ℕ)) (x : Bor ℕ) (at : ℕ) (l : List ℕ) (r : Bool) → r ≡ option_eq (λ y z. eqb y.now z.now) o (Some x)
    → is_some o ≡ ltb at (length l) → unwrap_or (option_map (λ y. y.now) o) 0 ≡ get_or l at 0 → r ≡ (ltb at (length l) && eqb (get_or l at 0) x.now)
read_as None x at l r e s v = rw (← s) e
read_as (Some y) x at l r e s v = rw (← s, ← v) e

pub returns : goal.returns
returns c = let a = c.args in
    let g = c.get.ensures.lookup in
    read_as _ _ c.place_of.result a.moves.now _ c.eq.ensures g.0 (g.4 (omega arith) 0) ∙ held_at a.q _ a.moves.now c.requires c.place_of.ensures.place
