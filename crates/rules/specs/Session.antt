-- A session: the small part and the rooms together, when they hold a model, and which. Definitions only.
use Rattle.std.specs.Prelude.{Bool, ◌&&◌, List, [], ◌∷◌, map, ℕ, ◌+◌, ◌*◌, ◌/◌, ◌%◌, min, length, take, eqb, leb}
use Rattle.lists.specs.Lists.{all}
use Rattle.rules.specs.Limits.{most_moves, sizes_ok}
use Rattle.rules.specs.Moves.{stamp_of}
use Rattle.rules.specs.Model.{Model, well_formed}
use Rattle.rules.specs.declared.Equation.{Equation}
use Rattle.rules.specs.Rooms.{Rooms, Lengths, lengths_of, pairs_of}
use Rattle.rules.specs.declared.Sizes.{Sizes}
use Rattle.rules.specs.declared.Session.{Session}

-- An equation as one number: operator, first, second, and 2 × block + kind, a byte each.
abbrev pub word : Equation → ℕ
word e = e.operator + 256 * e.first + 65536 * e.second + 16777216 * (2 * e.block + e.kind)

abbrev pub unword : ℕ → Equation
unword w =
    record { operator = w % 256; first = w / 256 % 256; second = w / 256 / 256 % 256; block = w / 256 / 256 / 256 / 2; kind = w / 256 / 256 / 256 % 2 }

-- The model that a session holds, as its sizes and its move count cut it out of the rooms.
abbrev pub held : Session → Rooms → Model
held s l =
    record {
      sizes = s.sizes;
      live = s.live;
      labels = take s.sizes.states l.labels;
      equations = map unword (take s.sizes.variables l.equations);
      moves = take s.moves l.moves;
    }

-- The small part that belongs to a model.
abbrev pub session_of : Model → Session
session_of m = record { sizes = m.sizes; live = m.live; moves = length m.moves; stamp = stamp_of m.moves }

-- 12 for the sizes: each is inside its limits, and so are the flag and the move count, which is not over the move room either.
unfoldable pub counts_ok : Session → Rooms → Bool
counts_ok s l = sizes_ok s.sizes && (leb s.live 1 && leb s.moves (min most_moves (length l.moves)))

-- 12 for the rest: a model that load accepts, no value over 1, no mark over 3, and the stamp of its moves.
unfoldable pub rest_ok : Session → Rooms → Bool
rest_ok s l =
    well_formed (held s l) && all (λ v. leb v 1) (take (pairs_of s.sizes) l.values)
    && all (λ v. leb v 3) (take (pairs_of s.sizes) l.marks) && eqb s.stamp (stamp_of (held s l).moves)

-- What a batch and a writing ask of a session, in order. Of which rooms they ask the length is `long`.
abbrev pub session_demands : (Lengths → Sizes → Bool) → Session → Rooms → List (ℕ × Bool)
session_demands long s l = (12, counts_ok s l) ∷ (13, long (lengths_of l) s.sizes) ∷ (12, rest_ok s l) ∷ []
