-- The rooms that a caller lends. Definitions only.
use Rattle.std.specs.Prelude.{Bool, ◌&&◌, List, [], ℕ, suc, ◌+◌, ◌*◌, min, length, replicate, leb}
use Rattle.lists.specs.Lists.{fill}
use Rattle.rules.specs.Limits.{most_moves}
use Rattle.rules.specs.declared.Sizes.{Sizes}

-- What lies in them: a set of propositions per state, an equation per variable, a value and a mark per pair, the moves; and
-- two rooms to work in, for an index of the moves and for a queue of waiting pairs, which hold nothing between two calls.
pub record Rooms : Type 0 where
  pub labels : List ℕ
  pub equations : List ℕ
  pub values : List ℕ
  pub marks : List ℕ
  pub moves : List ℕ
  pub index : List ℕ
  pub queue : List ℕ

-- All rooms, as a load and a batch have them; and those that a session lies in, as a writing has them.
abbrev pub rooms_with : List ℕ → List ℕ → List ℕ → List ℕ → List ℕ → List ℕ → List ℕ → Rooms
rooms_with labels equations values marks moves index queue =
    record { labels = labels; equations = equations; values = values; marks = marks; moves = moves; index = index; queue = queue }

abbrev pub rooms_of : List ℕ → List ℕ → List ℕ → List ℕ → List ℕ → Rooms
rooms_of labels equations values marks moves = rooms_with labels equations values marks moves [] []

-- How long they are.
pub record Lengths : Type 0 where
  pub labels : ℕ
  pub equations : ℕ
  pub values : ℕ
  pub marks : ℕ
  pub moves : ℕ
  pub index : ℕ
  pub queue : ℕ

abbrev pub lengths_of : Rooms → Lengths
lengths_of l = record {
  labels = length l.labels;
  equations = length l.equations;
  values = length l.values;
  marks = length l.marks;
  moves = length l.moves;
  index = length l.index;
  queue = length l.queue;
}

-- How many pairs there are.
abbrev pub pairs_of : Sizes → ℕ
pairs_of z = z.variables * z.states

-- No room for labels, equations, values or marks is shorter than the sizes need.
unfoldable pub rooms_ok : Lengths → Sizes → Bool
rooms_ok n z =
    leb z.states n.labels && leb z.variables n.equations && leb (pairs_of z) n.values && leb (pairs_of z) n.marks

-- The places used of the index: a head for each action and target, and a link for each move that the move room can hold. `room`
-- is the length of that room.
abbrev pub index_needs : Sizes → ℕ → ℕ
index_needs z room = z.states * z.actions + min most_moves room

-- The places used of the queue: one for each pair, and one more.
abbrev pub queue_needs : Sizes → ℕ
queue_needs z = suc (pairs_of z)

-- Neither room to work in is shorter than needed.
unfoldable pub work_ok : Lengths → Sizes → Bool
work_ok n z = leb (index_needs z n.moves) n.index && leb (queue_needs z) n.queue

-- No room at all is shorter than needed: what a load and a batch ask.
unfoldable pub lent_ok : Lengths → Sizes → Bool
lent_ok n z = rooms_ok n z && work_ok n z

-- The rooms to work in after an accepted call: the places used are 0, those past them are as they were.
abbrev pub index_after : Sizes → ℕ → List ℕ → List ℕ
index_after z room index = fill (replicate (index_needs z room) 0) index

abbrev pub queue_after : Sizes → List ℕ → List ℕ
queue_after z queue = fill (replicate (queue_needs z) 0) queue
