-- What the session's check says of the moves. Assumes nothing.
use Rattle.std.specs.Prelude.{◌≡◌, true, take}
use Rattle.lists.specs.Tests.{and_is, eqb_is}
use Rattle.rules.specs.Moves.{stamp_of}
use Rattle.rules.specs.Model.{moves_ok, well_formed}
use Rattle.rules.specs.Rooms.{Rooms}
use Rattle.rules.specs.Session.{rest_ok}
use Rattle.rules.specs.declared.Session.{Session}
use Rattle.moves.specs.Ascending.{ascends, moves-ascend}

-- Where it passes, they are in range, they ascend, and the stamp kept is theirs.
pub record Checked (s : Session) (l : Rooms) : Type 0 where
  pub in_range : moves_ok s.sizes 0 (take s.moves l.moves) ≡ true
  pub ascend : ascends 0 (take s.moves l.moves) ≡ true
  pub stamp : s.stamp ≡ stamp_of (take s.moves l.moves)

-- The check says all three.
pub checked-moves : (s : Session) (l : Rooms) → rest_ok s l ≡ true → Checked s l
unfolding rest_ok well_formed
checked-moves s l h =
    let k = simp and_is at h in
    let m = k.0.0.0.0.1 in
    record { in_range = m; ascend = moves-ascend s.sizes 0 (take s.moves l.moves) m; stamp = (eqb_is _ _).0 k.1 }
