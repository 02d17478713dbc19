-- The four calls, whole: for any bytes and any rooms, what is answered and what every room holds afterwards.
-- Definitions only.
use Rattle.std.specs.Prelude.{Bool, cond, ◌&&◌, List, [], ◌∷◌, ◌++◌, map, ℕ, ◌-◌, length, get_or, replicate, eqb, ltb, leb}
use Rattle.lists.specs.Marks.{mark_of}
use Rattle.lists.specs.Lists.{bit, listed, fill}
use Rattle.lists.specs.Smallest.{at}
use Rattle.rules.specs.Limits.{sizes_ok}
use Rattle.rules.specs.Model.{Model}
use Rattle.rules.specs.Records.{Outcome, refused, accepted}
use Rattle.rules.specs.Rooms.{Rooms, lengths_of, pairs_of, rooms_ok, lent_ok, index_after, queue_after}
use Rattle.rules.specs.Load.{read_model}
use Rattle.rules.specs.Spelling.{encode}
use Rattle.rules.specs.Batch.{Batch, read_batch, judge}
use Rattle.rules.specs.Values.{Values, pair, solve}
use Rattle.rules.specs.Update.{changed, Turned, turn_all, visits_on, net_of}
use Rattle.rules.specs.Session.{word, held, session_of, session_demands}
use Rattle.rules.specs.declared.State.{State}
use Rattle.rules.specs.declared.Variable.{Variable}
use Rattle.rules.specs.declared.Session.{Session}
use Rattle.rules.specs.declared.Report.{Report}

-- What a call leaves behind: its answer, and the rooms lent.
pub record Left (A R : Type 0) : Type 0 where
  pub answer : Outcome A
  pub rooms : R

-- The same, from the answer and the rooms: a call's contract says what its answer and its rooms at the end are together.
abbrev pub leaves : {A R : Type 0} → Outcome A → R → Left A R
leaves o l = record { answer = o; rooms = l }

-- Questions asked in order, each with the number of its refusal, at place 0: the first that fails decides.
abbrev pub asked : {B : Type 0} → List (ℕ × Bool) → Outcome B → Outcome B
asked [] o = o
asked (d ∷ ds) o = cond d.1 (asked ds o) (refused d.0 0)

-- What comes after an outcome that is no refusal.
abbrev pub and_then : {A B : Type 0} → Outcome A → (A → Outcome B) → Outcome B
and_then (refused n p) f = refused n p
and_then (accepted a) f = f a

-- The values that a room holds, 1 for true; and values as they are written into a room.
abbrev pub value_at : List ℕ → Values
value_at vs p = eqb (get_or vs p 0) 1

abbrev pub bits : ℕ → Values → List ℕ
bits n v = listed 0 n (λ p. bit (v p))

-- Load: the model read, its values found, all marks 0, the rooms to work in cleared.
abbrev pub load_by : Rooms → Outcome Model → Left Session Rooms
load_by l (refused n p) = record { answer = refused n p; rooms = l }
load_by l (accepted m) = record {
  answer = accepted (session_of m);
  rooms = record {
    labels = fill m.labels l.labels;
    equations = fill (map word m.equations) l.equations;
    values = fill (bits (pairs_of m.sizes) (at (solve m))) l.values;
    marks = fill (replicate (pairs_of m.sizes) 0) l.marks;
    moves = fill m.moves l.moves;
    index = index_after m.sizes (length l.moves) l.index;
    queue = queue_after m.sizes l.queue;
  };
}

unfoldable pub load : Rooms → List ℕ → Left Session Rooms
load l s = load_by l (read_model (lengths_of l) s)

-- Batch: asked of the session 12, 13 and 12, then 1 to 4 of the bytes, then 11, 9, 7 and 8, 10, and 16.
unfoldable pub judged : Session → Rooms → List ℕ → Outcome Batch
judged s l bytes =
    asked (session_demands lent_ok s l) (and_then (read_batch s.sizes bytes) (judge s (length l.moves) (held s l).moves))

-- The report of an update, and the rooms after it. Places that the move list frees at its end become 0.
abbrev pub marks_of : ℕ → Turned → List ℕ
marks_of n t = listed 0 n (λ p. mark_of (at t.shifted p) (at t.settled p))

abbrev pub report_of : Model → Values → Turned → Report
report_of m old t = record {
  session = session_of m;
  visits = record { shift = visits_on m (at t.shifted); settle = visits_on m (at t.settled) };
  net = net_of (pairs_of m.sizes) old (at t.values);
}

abbrev pub rooms_after : Session → Rooms → Model → Turned → Rooms
rooms_after s l m t = record {
  labels = l.labels;
  equations = l.equations;
  values = fill (bits (pairs_of m.sizes) (at t.values)) l.values;
  marks = fill (marks_of (pairs_of m.sizes) t) l.marks;
  moves = fill (m.moves ++ replicate (s.moves - length m.moves) 0) l.moves;
  index = index_after m.sizes (length l.moves) l.index;
  queue = queue_after m.sizes l.queue;
}

abbrev pub batch_by : Session → Rooms → Outcome Batch → Left Report Rooms
batch_by s l (refused n p) = record { answer = refused n p; rooms = l }
batch_by s l (accepted b) =
    let m = changed b.changes (held s l) in
    let t = turn_all m b.changes (value_at l.values) in
    record { answer = accepted (report_of m (value_at l.values) t); rooms = rooms_after s l m t }

unfoldable pub batch : Session → Rooms → List ℕ → Left Report Rooms
batch s l bytes = batch_by s l (judged s l bytes)

-- Write: asked of the session 12, 13 and 12, then 13 for the room of the output. The answer is the length.
abbrev pub write_by : Model → List ℕ → Outcome ℕ → Left ℕ (List ℕ)
write_by m out (refused n p) = record { answer = refused n p; rooms = out }
write_by m out (accepted n) = record { answer = accepted n; rooms = fill (encode m) out }

unfoldable pub writable : Session → Rooms → List ℕ → Outcome ℕ
writable s l out =
    let n = length (encode (held s l)) in
    asked (session_demands rooms_ok s l) (asked ((13, leb n (length out)) ∷ []) (accepted n))

unfoldable pub write : Session → Rooms → List ℕ → Left ℕ (List ℕ)
write s l out = write_by (held s l) out (writable s l out)

-- A question about one pair: 12 for the sizes, 13 for the room of the values, 4 for a state or a variable not below its
-- count, and 12 for the one byte read.
abbrev pub ask_demands : Session → List ℕ → State → Variable → List (ℕ × Bool)
ask_demands s values here x =
    (12, sizes_ok s.sizes)
    ∷ (13, leb (pairs_of s.sizes) (length values))
    ∷ (4, ltb here.0 s.sizes.states && ltb x.0 s.sizes.variables)
    ∷ (12, leb (get_or values (pair s.sizes here x) 0) 1)
    ∷ []

unfoldable pub ask : Session → List ℕ → State → Variable → Outcome Bool
ask s values here x = asked (ask_demands s values here x) (accepted (value_at values (pair s.sizes here x)))
