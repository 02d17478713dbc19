-- What is known of a session in which the check finds nothing wrong. Assumes nothing.
use Rattle.std.specs.Prelude.{◌≡◌, Bool, true, Result, Ok}
use Rattle.std.proofs.Common.{sym, ap, ◌∙◌}
use Rattle.laws.specs.bytes.RecordLaws.{Met}
use Rattle.lists.specs.Tests.{and_in, and_is}
use Rattle.rules.specs.Model.{WellFormed}
use Rattle.rules.specs.Rooms.{Rooms, lengths_of, rooms_ok}
use Rattle.rules.specs.Session.{held}
use Rattle.rules.specs.declared.Session.{Session}
use Rattle.laws.specs.session.SessionHolds.{session_ok, Holds, session-holds}
use Rattle.laws.specs.session.Accepted.{asked-out}
use Rattle.session_check.specs.CheckedMoves as Moves
use Rattle.session_check.specs.Fitting.{Fits, fits}
use Rattle.session_judge.specs.Checks.{all_well, demands_with, check_of, checked_says}
use Rattle.rules.specs.declared.Refusal.{Refusal}

module _ (work : Bool) (s : Session) (l : Rooms) (k : Result (Unit {0}) Refusal) (h : checked_says k ≡ check_of work s l) (g : k ≡ Ok tt) where
  -- All three questions are answered yes.
  passed-yes : Met (demands_with work s l)
  passed-yes = (asked-out (demands_with work s l) all_well tt (sym h ∙ ap checked_says g)).0

  -- No room is too short.
  passed-rooms : (rooms_ok (lengths_of l) s.sizes ≡ true) × (work ≡ true)
  passed-rooms = (and_is (rooms_ok (lengths_of l) s.sizes) work).0 passed-yes.1.0

  pub passed-work : work ≡ true
  passed-work = passed-rooms.1

  -- The session is good, and nothing in it is too large for its room.
  pub passed-session : session_ok s l ≡ true
  passed-session = and_in (and_in passed-yes.0 passed-rooms.0) passed-yes.1.1.0

  pub passed-fits : Fits s l
  passed-fits = fits s l passed-yes.0 passed-rooms.0

  -- The rooms hold a model inside the limits.
  pub passed-holds : WellFormed (held s l) × Holds s l (held s l)
  passed-holds = session-holds s l passed-session

  -- The moves are in range, they ascend, and the stamp kept is theirs.
  pub passed-moves : Moves.Checked s l
  passed-moves = Moves.checked-moves s l passed-yes.1.1.0
