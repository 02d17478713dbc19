-- The program: bytes read, lines printed. Definitions only.
use Rattle.std.specs.Prelude.{List, [], ◌∷◌, ◌++◌, ℕ, suc, ◌+◌, ◌*◌, take, drop, replicate}
use Rattle.rules.specs.Calls.{load, batch}
use Rattle.rules.specs.Limits.{most_states, most_actions, most_variables, most_moves}
use Rattle.rules.specs.Records.{Outcome, refused, accepted}
use Rattle.rules.specs.Rooms.{Rooms}
use Rattle.rules.specs.declared.Report.{Report}
use Rattle.rules.specs.declared.Session.{Session}
use Rattle.program_cut.specs.Cut.{cut, all_pieces}
use Rattle.program_answers.specs.AnswerLines.{load_prints, batch_prints}

-- The rooms of the program's session: as long as the limits ask, and all 0 before the model is loaded.
unfoldable pub fresh_rooms : Rooms
fresh_rooms = record {
  labels = replicate most_states 0;
  equations = replicate most_variables 0;
  values = replicate (most_states * most_variables) 0;
  marks = replicate (most_states * most_variables) 0;
  moves = replicate most_moves 0;
  index = replicate (most_states * most_actions + most_moves) 0;
  queue = replicate (suc (most_states * most_variables)) 0;
}

-- The session after a batch: a refused one leaves it.
abbrev pub session_after : Session → Outcome Report → Session
session_after s (refused n p) = s
session_after s (accepted r) = r.session

-- What the batches print, one after the other, each against what the one before it left. Refused ones are passed over.
unfoldable pub batches_print : List (List ℕ) → Session → Rooms → List ℕ
batches_print [] s l = []
batches_print (b ∷ bs) s l =
    let left = batch s l b in
    batch_prints left.answer left.rooms.values ++ batches_print bs (session_after s left.answer) left.rooms

-- What is printed after the line of the load: nothing where it was refused.
abbrev pub after_load : Outcome Session → Rooms → List ℕ → List ℕ
after_load (refused n p) l rest = []
after_load (accepted s) l rest = batches_print (all_pieces rest) s l

-- What is printed for the bytes by a session in these rooms: the first part is the model, and all others are batches.
unfoldable pub printed_in : Rooms → List ℕ → List ℕ
printed_in l s =
    let left = load l (take (cut s) s) in
    load_prints left.answer left.rooms.values ++ after_load left.answer left.rooms (drop (cut s) s)

-- What the program prints for the bytes that it has read.
unfoldable pub printed : List ℕ → List ℕ
printed s = printed_in fresh_rooms s
