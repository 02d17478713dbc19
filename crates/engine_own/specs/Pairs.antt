-- The pair of a variable and a state lies in the room, and a move to the state leads to it. Assumes nothing.
use Rattle.std.specs.Prelude.{◌≡◌, Bool, List, ℕ, ◌<◌, eqb, get_or}
use Rattle.std.proofs.Common.{sym, ap, ◌∙◌, mul-le-mul_right, arith}
use Rattle.rules.specs.Moves.{target}
use Rattle.rules.specs.Rooms.{pairs_of}
use Rattle.rules.specs.declared.Sizes.{Sizes}
use Rattle.engine_table.specs.Table.{pair_in}
use Rattle.engine_own.specs.Looks.{reaches}

-- The pair of a variable and a state is a pair.
pub pair-low : (z : Sizes) (x s : ℕ) → x < z.variables → s < z.states → pair_in z x s < pairs_of z
pair-low z x s h l = let k = mul-le-mul_right z.states h in omega arith

-- What is said of the pair at the target is said of the move.
pub target-tells : (z : Sizes) (values : List ℕ) (from x q t : ℕ) (r b : Bool) → t ≡ target q → r ≡ eqb (get_or values (pair_in z x t) 0) from
    → r ≡ b → reaches z values from x q ≡ b
target-tells z values from x q t r b e f g = ap (λ (s : ℕ). eqb (get_or values (pair_in z x s) 0) from) (sym e) ∙ sym f ∙ g
