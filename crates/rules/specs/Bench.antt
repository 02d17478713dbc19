-- The bench cases A to F, with the box and the diamond of no move, as one table under one claim: from the bytes of a model
-- and of its batches to the answers and the rooms. Two more rows have an equation that names one variable twice, and one
-- that leans on an earlier block. Each model is also written, into room enough and into one place too few. Two further tables have
-- models with signs and live models, and a last one the rooms to work in. Assumes nothing.
use Rattle.std.specs.Prelude.{◌≡◌, refl, List, [], ◌∷◌, ◌++◌, ℕ, ◌-◌, ℤ, pos, negsuc, length, replicate}
use Rattle.lists.specs.Lists.{fill}
use Rattle.lists.specs.Smallest.{smallest}
use Rattle.rules.specs.Limits.{sizes_ok}
use Rattle.rules.specs.Moves.{stamp_of}
use Rattle.rules.specs.Model.{label_ok, move_ok, operands_ok, names_ok, guilty, component_in, placed, signs_ok, style_ok, none_hangs, live_ok, well_formed}
use Rattle.rules.specs.Chains.{leads, together, mixed, reach, stands, component}
use Rattle.rules.specs.Records.{Outcome, refused, accepted, widths, parts_from, run}
use Rattle.rules.specs.Rooms.{Rooms, rooms_ok, work_ok, lent_ok}
use Rattle.rules.specs.Load.{block_fits, step, put, last, read_model}
use Rattle.rules.specs.Spelling.{records}
use Rattle.rules.specs.Batch.{step_batch, put_batch, read_batch, edited, judge}
use Rattle.rules.specs.Values.{term_at, block_of, greatest, leanings, gives, settles, solve_to, solve}
use Rattle.rules.specs.Update.{shifts, turn_block, turn_to, turn_all, visits_on}
use Rattle.rules.specs.Session.{counts_ok, rest_ok}
use Rattle.rules.specs.Calls.{Left, load, judged, batch, writable, write}
use Rattle.rules.specs.declared.Session.{Session}
use Rattle.rules.specs.declared.Report.{Report}

-- What is seen of a load: the values, the stamp, and what a writing answers and leaves in an output of 44 places and in one
-- a place too short. What is seen of a batch: the values, the marks, the net change, the visits and the stamp.
pub data Seen : Type 0 where
  loaded : List ℕ → ℕ → Left ℕ (List ℕ) → Left ℕ (List ℕ) → Seen
  moved : List ℕ → List ℕ → ℤ → ℕ → ℕ → ℕ → Seen
  no : ℕ → ℕ → Seen

-- Rooms with places to spare, filled with 9.
abbrev lent : Rooms
lent = record {
  labels = replicate 3 9;
  equations = replicate 4 9;
  values = replicate 7 9;
  marks = replicate 7 9;
  moves = replicate 4 9;
  index = replicate 8 9;
  queue = replicate 8 9;
}

abbrev after_batch : Left Report Rooms → Outcome Report → (Session → Rooms → List Seen) → List Seen
after_batch c (refused n p) k = no n p ∷ []
after_batch c (accepted r) k =
    moved c.rooms.values c.rooms.marks r.net r.visits.shift r.visits.settle r.session.stamp
    ∷ k r.session c.rooms

abbrev batches : Session → Rooms → List (List ℕ) → List Seen
batches s l [] = []
batches s l (b ∷ bs) = let c = batch s l b in after_batch c c.answer (λ s' l'. batches s' l' bs)

abbrev after_load : ℕ → Left Session Rooms → Outcome Session → List (List ℕ) → List Seen
after_load short c (refused n p) bs = no n p ∷ []
after_load short c (accepted s) bs =
    loaded c.rooms.values s.stamp (write s c.rooms (replicate 44 9)) (write s c.rooms (replicate short 9))
    ∷ batches s c.rooms bs

-- A model loaded and written, and then its batches.
abbrev see : List ℕ → List (List ℕ) → List Seen
see m bs = let c = load lent m in after_load (length m - 1) c c.answer bs

-- Two states, one action, one greatest block, X = o 0 X, no moves. Where o is 6, diamond, this is model G.
abbrev one : ℕ → List ℕ
one o = 1 ∷ 2 ∷ 0 ∷ 1 ∷ 0 ∷ 1 ∷ 1 ∷ 3 ∷ 1 ∷ 1 ∷ 4 ∷ o ∷ 0 ∷ 0 ∷ 6 ∷ []

-- One least block, X0 = X1 or X2, X1 = proposition 0 (true at state 1 only), X2 = diamond 0 X0, moves (0,0,0) and (0,0,1).
abbrev e : List ℕ
e =
    1 ∷ 2 ∷ 0 ∷ 1 ∷ 1 ∷ 3 ∷ 1
    ∷ 2 ∷ 1 ∷ 0 ∷ 1 ∷ 0 ∷ 0 ∷ 0
    ∷ 3 ∷ 0 ∷ 3 ∷ 4 ∷ 4 ∷ 1 ∷ 2 ∷ 4 ∷ 2 ∷ 0 ∷ 0 ∷ 4 ∷ 6 ∷ 0 ∷ 0
    ∷ 5 ∷ 0 ∷ 0 ∷ 0 ∷ 0 ∷ 0 ∷ 5 ∷ 0 ∷ 0 ∷ 0 ∷ 1 ∷ 0 ∷ 6 ∷ []

-- X0 = diamond 0 X0 and X1 = X0 and X0, both greatest: in one block, and in two.
abbrev twice : List ℕ
twice =
    1 ∷ 2 ∷ 0 ∷ 1 ∷ 0 ∷ 2 ∷ 1 ∷ 3 ∷ 1 ∷ 2 ∷ 4 ∷ 6 ∷ 0 ∷ 0 ∷ 4 ∷ 5 ∷ 0 ∷ 0 ∷ 6 ∷ []

abbrev later : List ℕ
later =
    1 ∷ 2 ∷ 0 ∷ 1 ∷ 0 ∷ 2 ∷ 2 ∷ 3 ∷ 1 ∷ 1 ∷ 4 ∷ 6 ∷ 0 ∷ 0 ∷ 3 ∷ 1 ∷ 1 ∷ 4 ∷ 5 ∷ 0 ∷ 0 ∷ 6 ∷ []

-- A batch of one change, an insert (8) or a delete (9) of the move (s, 0, t), against the stamp a + 256 b + 65,536 c.
abbrev change : ℕ → ℕ → ℕ → ℕ → ℕ → ℕ → List ℕ
change a b c kind s t = 7 ∷ a ∷ b ∷ c ∷ 0 ∷ kind ∷ s ∷ 0 ∷ 0 ∷ t ∷ 0 ∷ 6 ∷ []

-- The batches A to F. F changes nothing, against the stamp that E leaves.
abbrev A : List ℕ
A = change 0 0 0 8 0 0

abbrev B : List ℕ
B = change 1 0 0 8 1 0

abbrev C : List ℕ
C = change 3 0 1 9 0 0

abbrev D : List ℕ
D = change 0 0 0 8 0 1

abbrev E : List ℕ
E = change 3 1 0 9 0 1

abbrev F : List ℕ
F = 7 ∷ 1 ∷ 0 ∷ 0 ∷ 0 ∷ 6 ∷ []

-- A room of n places, filled with 9 past what was written.
abbrev room : ℕ → List ℕ → List ℕ
room n l = fill l (replicate n 9)

-- The bytes written, with their length for an answer; and an output one place too short, refused with 13 and left alone.
abbrev wrote : List ℕ → Left ℕ (List ℕ)
wrote m = record { answer = accepted (length m); rooms = room 44 m }

abbrev short : List ℕ → Left ℕ (List ℕ)
short m = record { answer = refused 13 0; rooms = replicate (length m - 1) 9 }

abbrev cases : List (List Seen)
cases =
    see (one 6) (A ∷ B ∷ C ∷ [])
    ∷ see (one 6) (D ∷ [])
    ∷ see e (E ∷ F ∷ [])
    ∷ see (one 7) []
    ∷ see twice (A ∷ [])
    ∷ see later (A ∷ [])
    ∷ []

-- Values, stamp and both writings of each load; values, marks, net change, visits and stamp of each batch.
pub bench :
    cases
    ≡ (loaded (room 7 (0 ∷ 0 ∷ [])) 0 (wrote (one 6)) (short (one 6))
    ∷ moved (room 7 (1 ∷ 0 ∷ [])) (room 7 (1 ∷ 0 ∷ [])) (pos 1) 1 0 1
    ∷ moved (room 7 (1 ∷ 1 ∷ [])) (room 7 (0 ∷ 1 ∷ [])) (pos 1) 0 0 65539
    ∷ moved (room 7 (0 ∷ 0 ∷ [])) (room 7 (3 ∷ 3 ∷ [])) (negsuc 1) 0 1 65538
    ∷ [])
    ∷ (loaded (room 7 (0 ∷ 0 ∷ [])) 0 (wrote (one 6)) (short (one 6))
    ∷ moved (room 7 (0 ∷ 0 ∷ [])) (room 7 (2 ∷ 0 ∷ [])) (pos 0) 0 0 258
    ∷ [])
    ∷ (loaded (room 7 (1 ∷ 1 ∷ 0 ∷ 1 ∷ 1 ∷ 0 ∷ [])) 259 (wrote e) (short e)
    ∷ moved (room 7 (0 ∷ 1 ∷ 0 ∷ 1 ∷ 0 ∷ 0 ∷ [])) (room 7 (1 ∷ 0 ∷ 0 ∷ 0 ∷ 1 ∷ 0 ∷ [])) (negsuc 1) 2 0 1
    ∷ moved (room 7 (0 ∷ 1 ∷ 0 ∷ 1 ∷ 0 ∷ 0 ∷ [])) (room 7 (0 ∷ 0 ∷ 0 ∷ 0 ∷ 0 ∷ 0 ∷ [])) (pos 0) 0 0 1
    ∷ [])
    ∷ (loaded (room 7 (1 ∷ 1 ∷ [])) 0 (wrote (one 7)) (short (one 7)) ∷ [])
    ∷ (loaded (room 7 (0 ∷ 0 ∷ 0 ∷ 0 ∷ [])) 0 (wrote twice) (short twice)
    ∷ moved (room 7 (1 ∷ 0 ∷ 1 ∷ 0 ∷ [])) (room 7 (1 ∷ 0 ∷ 1 ∷ 0 ∷ [])) (pos 2) 3 0 1
    ∷ [])
    ∷ (loaded (room 7 (0 ∷ 0 ∷ 0 ∷ 0 ∷ [])) 0 (wrote later) (short later)
    ∷ moved (room 7 (1 ∷ 0 ∷ 1 ∷ 0 ∷ [])) (room 7 (1 ∷ 0 ∷ 1 ∷ 0 ∷ [])) (pos 2) 1 0 1
    ∷ [])
    ∷ []
unfolding
    load read_model run parts_from widths step put last sizes_ok rooms_ok work_ok lent_ok block_fits label_ok move_ok operands_ok names_ok solve solve_to settles smallest
    block_of greatest term_at gives leanings write writable counts_ok rest_ok well_formed stamp_of records batch judged read_batch step_batch put_batch judge edited
    turn_all turn_to turn_block shifts visits_on style_ok live_ok
bench = refl

-- Equations with signs. E rewritten: X1 is component 0, X0 and X2 are component 1.
abbrev e_signed : List ℕ
e_signed =
    1 ∷ 2 ∷ 0 ∷ 1 ∷ 1 ∷ 3 ∷ 0
    ∷ 2 ∷ 1 ∷ 0 ∷ 1 ∷ 0 ∷ 0 ∷ 0
    ∷ 11 ∷ 0 ∷ 4 ∷ 1 ∷ 2 ∷ 11 ∷ 0 ∷ 2 ∷ 0 ∷ 0 ∷ 11 ∷ 0 ∷ 6 ∷ 0 ∷ 0
    ∷ 5 ∷ 0 ∷ 0 ∷ 0 ∷ 0 ∷ 0 ∷ 5 ∷ 0 ∷ 0 ∷ 0 ∷ 1 ∷ 0 ∷ 6 ∷ []

-- One state, one action, no moves, and n equations with signs.
abbrev signs : ℕ → List ℕ → List ℕ
signs n es = 1 ∷ 1 ∷ 0 ∷ 1 ∷ 0 ∷ n ∷ 0 ∷ es

-- X0 = false; X1 = X2 and X2, greatest; X2 = X1 or X1, least. The lowest equation on a mixed chain is X1. No end record: 5
-- is asked before the next record is.
abbrev second : List ℕ
second = signs 3 (11 ∷ 0 ∷ 0 ∷ 0 ∷ 0 ∷ 11 ∷ 1 ∷ 5 ∷ 2 ∷ 2 ∷ 11 ∷ 0 ∷ 4 ∷ 1 ∷ 1 ∷ [])

-- X0 = X1 or X1 and X1 = X0 or X2, both greatest; X2 = X1 or X1, least. X0 is on a mixed chain that holds X1 twice.
abbrev repeated : List ℕ
repeated = signs 3 (11 ∷ 1 ∷ 4 ∷ 1 ∷ 1 ∷ 11 ∷ 1 ∷ 4 ∷ 0 ∷ 2 ∷ 11 ∷ 0 ∷ 4 ∷ 1 ∷ 1 ∷ 6 ∷ [])

-- X0 = X1 or X1, least; X1 = X1 and X1, greatest: two components, the named one first.
abbrev upward : List ℕ
upward = signs 2 (11 ∷ 0 ∷ 4 ∷ 1 ∷ 1 ∷ 11 ∷ 1 ∷ 5 ∷ 1 ∷ 1 ∷ 6 ∷ [])

-- X0 = X1 or X1, least, and X1 = X0 and X0, greatest, are a mixed chain; but chains are asked after the last equation, and X2
-- has an operator over 7.
abbrev late : List ℕ
late = signs 3 (11 ∷ 0 ∷ 4 ∷ 1 ∷ 1 ∷ 11 ∷ 1 ∷ 5 ∷ 0 ∷ 0 ∷ 11 ∷ 0 ∷ 8 ∷ 0 ∷ 0 ∷ [])

-- The other style's record is not due.
abbrev other_style : List ℕ
other_style = signs 1 (4 ∷ 0 ∷ 0 ∷ 0 ∷ 6 ∷ [])

abbrev signed_cases : List (List Seen)
signed_cases = see e_signed (E ∷ F ∷ []) ∷ see second [] ∷ see repeated [] ∷ see upward [] ∷ see late [] ∷ see other_style [] ∷ []

pub signed-bench :
    signed_cases
    ≡ (loaded (room 7 (1 ∷ 1 ∷ 0 ∷ 1 ∷ 1 ∷ 0 ∷ [])) 259 (wrote e_signed) (short e_signed)
    ∷ moved (room 7 (0 ∷ 1 ∷ 0 ∷ 1 ∷ 0 ∷ 0 ∷ [])) (room 7 (1 ∷ 0 ∷ 0 ∷ 0 ∷ 1 ∷ 0 ∷ [])) (negsuc 1) 2 0 1
    ∷ moved (room 7 (0 ∷ 1 ∷ 0 ∷ 1 ∷ 0 ∷ 0 ∷ [])) (room 7 (0 ∷ 0 ∷ 0 ∷ 0 ∷ 0 ∷ 0 ∷ [])) (pos 0) 0 0 1
    ∷ [])
    ∷ (no 5 12 ∷ [])
    ∷ (no 5 7 ∷ [])
    ∷ (loaded (room 7 (1 ∷ 1 ∷ [])) 0 (wrote upward) (short upward) ∷ [])
    ∷ (no 4 17 ∷ [])
    ∷ (no 2 7 ∷ [])
    ∷ []
unfolding
    load read_model run parts_from widths step put last sizes_ok rooms_ok work_ok lent_ok block_fits label_ok move_ok operands_ok names_ok solve solve_to settles smallest
    block_of greatest term_at gives leanings write writable counts_ok rest_ok well_formed stamp_of records batch judged read_batch step_batch put_batch judge edited
    turn_all turn_to turn_block shifts visits_on style_ok signs_ok guilty component_in placed leads together mixed reach stands component live_ok
signed-bench = refl

-- Live models. Two states, one action, one greatest block, X = diamond 0 X, and the records `between` after the sizes and
-- before the moves `ms`.
abbrev live : List ℕ → List ℕ → List ℕ
live between ms = 1 ∷ 2 ∷ 0 ∷ 1 ∷ 0 ∷ 1 ∷ 1 ∷ (between ++ (3 ∷ 1 ∷ 1 ∷ 4 ∷ 6 ∷ 0 ∷ 0 ∷ ms))

-- The move (s, 0, t).
abbrev from : ℕ → ℕ → List ℕ → List ℕ
from s t rest = 5 ∷ s ∷ 0 ∷ 0 ∷ t ∷ 0 ∷ rest

-- Each state has one move, to the other.
abbrev strip : List ℕ
strip = live (10 ∷ []) (from 0 1 (from 1 0 (6 ∷ [])))

-- Deletes (1, 0, 0), the last move of state 1, to which (0, 0, 1) still leads.
abbrev last_move : List ℕ
last_move = change 4 1 1 9 1 0

-- Moves the last move of state 1 in one batch; and then deletes it.
abbrev turned : List ℕ
turned = 7 ∷ 4 ∷ 1 ∷ 1 ∷ 0 ∷ 9 ∷ 1 ∷ 0 ∷ 0 ∷ 0 ∷ 0 ∷ 8 ∷ 1 ∷ 0 ∷ 0 ∷ 1 ∷ 0 ∷ 6 ∷ []

abbrev then_last : List ℕ
then_last = change 5 2 1 9 1 1

-- State 1 has no move, though one leads to it; state 0 has none, and state 1 two. A byte after the end is not looked at.
abbrev led_into : List ℕ
led_into = live (10 ∷ []) (from 0 0 (from 0 1 (6 ∷ 0 ∷ [])))

abbrev passed_over : List ℕ
passed_over = live (10 ∷ []) (from 1 0 (from 1 1 (6 ∷ [])))

-- Three states with four moves, which fill the room. The batch deletes the last move of state 2 and inserts two of others.
abbrev three_states : List ℕ
three_states =
    1 ∷ 3 ∷ 0 ∷ 1 ∷ 0 ∷ 1 ∷ 1 ∷ 10 ∷ 3 ∷ 1 ∷ 1 ∷ 4 ∷ 6 ∷ 0 ∷ 0 ∷ from 0 0 (from 0 1 (from 1 0 (from 2 0 (6 ∷ []))))

abbrev too_many : List ℕ
too_many =
    7 ∷ 8 ∷ 1 ∷ 3 ∷ 0 ∷ 9 ∷ 2 ∷ 0 ∷ 0 ∷ 0 ∷ 0 ∷ 8 ∷ 0 ∷ 0 ∷ 0 ∷ 2 ∷ 0 ∷ 8 ∷ 1 ∷ 0 ∷ 0 ∷ 1 ∷ 0 ∷ 6 ∷ []

-- One state with a move to itself, X = diamond 0 X with a sign.
abbrev live_signed : List ℕ
live_signed = 1 ∷ 1 ∷ 0 ∷ 1 ∷ 0 ∷ 1 ∷ 0 ∷ 10 ∷ 11 ∷ 1 ∷ 6 ∷ 0 ∷ 0 ∷ from 0 0 (6 ∷ [])

abbrev live_cases : List (List Seen)
live_cases =
    see strip (turned ∷ then_last ∷ [])
    ∷ see strip (last_move ∷ [])
    ∷ see led_into []
    ∷ see passed_over []
    ∷ see three_states (too_many ∷ [])
    ∷ see live_signed []
    ∷ see (live (10 ∷ 10 ∷ []) []) []
    ∷ see (live [] (10 ∷ [])) []
    ∷ see strip ((7 ∷ 4 ∷ 1 ∷ 1 ∷ 0 ∷ 10 ∷ 6 ∷ []) ∷ [])
    ∷ []

pub live-bench :
    live_cases
    ≡ (loaded (room 7 (1 ∷ 1 ∷ [])) 65796 (wrote strip) (short strip)
    ∷ moved (room 7 (1 ∷ 1 ∷ [])) (room 7 (0 ∷ 0 ∷ [])) (pos 0) 0 0 66053
    ∷ no 16 0
    ∷ [])
    ∷ (loaded (room 7 (1 ∷ 1 ∷ [])) 65796 (wrote strip) (short strip) ∷ no 16 0 ∷ [])
    ∷ (no 16 27 ∷ [])
    ∷ (no 16 27 ∷ [])
    ∷ (loaded (room 7 (1 ∷ 1 ∷ 1 ∷ [])) 196872 (wrote three_states) (short three_states) ∷ no 10 0 ∷ [])
    ∷ (loaded (room 7 (1 ∷ [])) 1 (wrote live_signed) (short live_signed) ∷ [])
    ∷ (no 2 8 ∷ [])
    ∷ (no 2 14 ∷ [])
    ∷ (loaded (room 7 (1 ∷ 1 ∷ [])) 65796 (wrote strip) (short strip) ∷ no 2 5 ∷ [])
    ∷ []
unfolding
    load read_model run parts_from widths step put last sizes_ok rooms_ok work_ok lent_ok block_fits label_ok move_ok operands_ok names_ok solve solve_to settles smallest
    block_of greatest term_at gives leanings write writable counts_ok rest_ok well_formed stamp_of records batch judged read_batch step_batch put_batch judge edited
    turn_all turn_to turn_block shifts visits_on style_ok signs_ok guilty component_in placed leads together mixed reach stands component live_ok none_hangs
live-bench = refl

-- The rooms of l, with n places to work in for the index and k for the queue, filled with 9.
abbrev working : ℕ → ℕ → Rooms → Rooms
working n k l = record {
  labels = l.labels;
  equations = l.equations;
  values = l.values;
  marks = l.marks;
  moves = l.moves;
  index = replicate n 9;
  queue = replicate k 9;
}

-- What a call answers and leaves in the rooms to work in: a refusal, or that it was accepted.
pub data Worked : Type 0 where
  did : List ℕ → List ℕ → Worked
  did_not : ℕ → List ℕ → List ℕ → Worked

abbrev worked : {A : Type 0} → Rooms → Outcome A → Worked
worked l (refused n p) = did_not n l.index l.queue
worked l (accepted a) = did l.index l.queue

-- Model E loaded, then batch E, each in rooms of n and k places to work in; E has two states, one action and six pairs, and the
-- room of its moves has four places. Then it is written with none.
abbrev batch_with : ℕ → ℕ → Left Session Rooms → Outcome Session → Worked
batch_with n k c (refused q p) = did_not q [] []
batch_with n k c (accepted s) = let d = batch s (working n k c.rooms) E in worked d.rooms d.answer

abbrev write_with : Left Session Rooms → Outcome Session → Worked
write_with c (refused q p) = did_not q [] []
write_with c (accepted s) =
    let l = working 0 0 c.rooms in worked l (write s l (replicate 44 9)).answer

abbrev work : ℕ → ℕ → List Worked
work n k =
    let c = load (working n k lent) e in let d = load lent e in worked c.rooms c.answer ∷ batch_with n k d d.answer ∷ []

-- Six places for the index and seven for the queue are enough, and no more are touched; with one place too few of either, a load and
-- a batch are refused with 13 and change nothing.
pub work-bench :
    work 8 8 ++ work 6 7 ++ work 5 7 ++ work 6 6 ++ (let d = load lent e in write_with d d.answer ∷ [])
    ≡ (did (room 8 (replicate 6 0)) (room 8 (replicate 7 0)) ∷ did (room 8 (replicate 6 0)) (room 8 (replicate 7 0)) ∷ [])
    ++ (did (replicate 6 0) (replicate 7 0) ∷ did (replicate 6 0) (replicate 7 0) ∷ [])
    ++ (did_not 13 (replicate 5 9) (replicate 7 9) ∷ did_not 13 (replicate 5 9) (replicate 7 9) ∷ [])
    ++ (did_not 13 (replicate 6 9) (replicate 6 9) ∷ did_not 13 (replicate 6 9) (replicate 6 9) ∷ [])
    ++ (did [] [] ∷ [])
unfolding
    load read_model run parts_from widths step put last sizes_ok rooms_ok work_ok lent_ok block_fits label_ok move_ok operands_ok names_ok solve solve_to settles smallest
    block_of greatest term_at gives leanings write writable counts_ok rest_ok well_formed stamp_of records batch judged read_batch step_batch put_batch judge edited
    turn_all turn_to turn_block shifts visits_on style_ok live_ok
work-bench = refl
