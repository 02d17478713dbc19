-- The session's check, in the words of the code. Assumes nothing.
use Rattle.std.specs.Prelude.{◌≡◌, refl, Bool, cond, ◌&&◌, List, map, ℕ, suc, min, length, eqb, ltb, leb}
use Rattle.rules.specs.Limits.{most_moves, sizes_ok}
use Rattle.rules.specs.Model.{Model, operands_ok, names_ok}
use Rattle.rules.specs.declared.Equation.{Equation}
use Rattle.rules.specs.Rooms.{Rooms}
use Rattle.rules.specs.Session.{unword, counts_ok}
use Rattle.rules.specs.declared.Sizes.{Sizes}
use Rattle.rules.specs.declared.Session.{Session}

-- 12 for the sizes, where the move room has that length.
unfoldable pub counts_by : Session → ℕ → Bool
counts_by s room = sizes_ok s.sizes && (leb s.live 1 && leb s.moves (min most_moves room))

-- It is what the rules ask.
pub counts-by : (s : Session) (l : Rooms) → counts_ok s l ≡ counts_by s (length l.moves)
unfolding counts_ok counts_by
counts-by s l = refl

-- The model that a session holds in rooms that are cut to their lengths.
abbrev pub model_in : Session → List ℕ → List ℕ → List ℕ → Model
model_in s labels equations moves = record { sizes = s.sizes; live = s.live; labels = labels; equations = map unword equations; moves = moves }

-- After b blocks of which the last has kind k, the equation goes on with that block or begins the next.
unfoldable pub goes_on : Sizes → ℕ → ℕ → Equation → Bool
goes_on z b k e = cond (eqb (suc e.block) b) (eqb e.kind k) (eqb e.block b && ltb b z.blocks && leb e.kind 1)

-- All that is asked of one equation; `end` is the first variable after its block.
unfoldable pub equation_ok : Sizes → ℕ → ℕ → ℕ → Equation → Bool
equation_ok z b k end e =
    goes_on z b k e && operands_ok z e.operator e.first e.second && names_ok end e.operator e.first e.second
