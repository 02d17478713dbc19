-- The calls as other languages see them: for each, what is answered and what every room lent holds afterwards.
-- Definitions only.
use Rattle.std.specs.Prelude.{cond, ◌||◌, List, ℕ, ℤ, length, ltb}
use Rattle.lists.specs.Lists.{bit}
use Rattle.rules.specs.Rooms.{Rooms}
use Rattle.rules.specs.Values.{state, variable}
use Rattle.rules.specs.Calls.{Left, load, batch, write, ask}
use Rattle.rules.specs.declared.Session.{Session}
use Rattle.rules.specs.declared.Report.{Report}
use Rattle.boundary_numbers.specs.Numbers.{session_in, packed, told, session_after, moved_to, report_after}

-- What a load leaves: its answer, the room of the session, the rooms lent.
pub record LoadLeft : Type 0 where
  pub answer : ℕ
  pub session : List ℕ
  pub rooms : Rooms

-- The call left this answer, this session and these rooms.
abbrev pub loaded_to : ℕ → List ℕ → Rooms → LoadLeft
loaded_to answer session l = record { answer = answer; session = session; rooms = l }

-- What the rules' load leaves, as numbers: nothing is told of an acceptance but its session.
abbrev pub load_left : List ℕ → Left Session Rooms → LoadLeft
load_left session l = loaded_to (told (λ _. 0) l.answer) (session_after session l.answer) l.rooms

-- A load: 13 where the room of the session is too short for its numbers, else the rules' load.
unfoldable pub load_call : List ℕ → Rooms → List ℕ → LoadLeft
load_call session l bytes =
    cond (ltb (length session) 8) (loaded_to (packed 13 0) session l) (load_left session (load l bytes))

-- What a batch leaves: its answer, the room of the session, the rooms lent, the room of the report.
pub record BatchLeft : Type 0 where
  pub answer : ℕ
  pub session : List ℕ
  pub rooms : Rooms
  pub report : List ℤ

-- The call left this answer, this session, these rooms and this report.
abbrev pub batched_to : ℕ → List ℕ → Rooms → List ℤ → BatchLeft
batched_to answer session l report = record { answer = answer; session = session; rooms = l; report = report }

-- What the rules' batch leaves, as numbers: nothing is told of an acceptance but its session and its report.
abbrev pub batch_left : List ℕ → List ℤ → Left Report Rooms → BatchLeft
batch_left session report l =
    batched_to (told (λ _. 0) l.answer) (session_after session (moved_to l.answer)) l.rooms (report_after report l.answer)

-- A batch: 13 where the room of the session or of the report is too short for its numbers, else the rules' batch.
unfoldable pub batch_call : List ℕ → Rooms → List ℤ → List ℕ → BatchLeft
batch_call session l report bytes =
    cond (ltb (length session) 8 || ltb (length report) 3) (batched_to (packed 13 0) session l report)
    (batch_left session report (batch (session_in session) l bytes))

-- What a writing leaves: its answer, which tells the number of bytes written, and the output.
pub record WriteLeft : Type 0 where
  pub answer : ℕ
  pub out : List ℕ

-- The call left this answer and this output.
abbrev pub wrote_to : ℕ → List ℕ → WriteLeft
wrote_to answer out = record { answer = answer; out = out }

-- What the rules' writing leaves, as numbers: the number of bytes is told of an acceptance.
abbrev pub write_left : Left ℕ (List ℕ) → WriteLeft
write_left l = wrote_to (told (λ n. n) l.answer) l.rooms

-- A writing: 13 where the room of the session is too short for its numbers, else the rules' writing.
unfoldable pub write_call : List ℕ → Rooms → List ℕ → WriteLeft
write_call session l out =
    cond (ltb (length session) 8) (wrote_to (packed 13 0) out) (write_left (write (session_in session) l out))

-- A question about one pair: 13 where the room of the session is too short for its numbers, else the rules' question, which
-- tells 1 for true and 0 for false.
unfoldable pub ask_call : List ℕ → List ℕ → ℕ → ℕ → ℕ
ask_call session values here x =
    cond (ltb (length session) 8) (packed 13 0) (told bit (ask (session_in session) values (state here) (variable x)))
