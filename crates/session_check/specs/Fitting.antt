-- A session whose counts are good and whose rooms are long enough: what is known before the rest of it is asked. Assumes nothing.
use Rattle.std.specs.Prelude.{◌≡◌, true, List, ℕ, ◌≤◌, length, take}
use Rattle.std.proofs.Common.{arith, length-take-le}
use Rattle.lists.specs.Tests.{tests, and_is}
use Rattle.laws.specs.bytes.Walks.{small}
use Rattle.rules.specs.Limits.{most_states, most_variables, most_moves, sizes_ok}
use Rattle.rules.specs.Rooms.{Rooms, lengths_of, pairs_of, rooms_ok}
use Rattle.rules.specs.Session.{counts_ok}
use Rattle.rules.specs.declared.Session.{Session}

-- The counts are inside the limits, and the rooms are long enough for them.
pub record Fits (s : Session) (l : Rooms) : Type 0 where
  pub sizes : sizes_ok s.sizes ≡ true
  pub live : s.live ≤ 1
  pub states : s.sizes.states ≤ most_states
  pub variables : s.sizes.variables ≤ most_variables
  pub moves : s.moves ≤ most_moves
  pub labels_room : s.sizes.states ≤ length l.labels
  pub equations_room : s.sizes.variables ≤ length l.equations
  pub values_room : pairs_of s.sizes ≤ length l.values
  pub marks_room : pairs_of s.sizes ≤ length l.marks
  pub moves_room : s.moves ≤ length l.moves

-- The first two questions say so.
pub fits : (s : Session) (l : Rooms) → counts_ok s l ≡ true → rooms_ok (lengths_of l) s.sizes ≡ true → Fits s l
unfolding counts_ok rooms_ok
fits s l a b =
    let c = simp tests at a in
    let r = simp tests at b in
    let k = ((and_is _ _).0 a).0 in
    let z = small s.sizes k in
    record {
      sizes = k;
      live = omega arith;
      states = omega arith;
      variables = omega arith;
      moves = omega arith;
      labels_room = r.0.0.0;
      equations_room = r.0.0.1;
      values_room = r.0.1;
      marks_room = r.1;
      moves_room = omega arith;
    }

-- Rooms that are cut to the lengths that the counts tell.
pub record Sized (s : Session) (labels equations moves : List ℕ) : Type 0 where
  pub sizes : sizes_ok s.sizes ≡ true
  pub live : s.live ≤ 1
  pub variables : s.sizes.variables ≤ most_variables
  pub states : length labels ≡ s.sizes.states
  pub named : length equations ≡ s.sizes.variables
  pub few : length moves ≤ most_moves

-- Rooms that are long enough can be cut so.
pub sized : (s : Session) (l : Rooms) → Fits s l → Sized s (take s.sizes.states l.labels) (take s.sizes.variables l.equations) (take s.moves l.moves)
sized s l f =
    let count = length-take-le s.moves l.moves f.moves_room in
    let most = f.moves in
    record {
      sizes = f.sizes;
      live = f.live;
      variables = f.variables;
      states = length-take-le s.sizes.states l.labels f.labels_room;
      named = length-take-le s.sizes.variables l.equations f.equations_room;
      few = omega arith;
    }
