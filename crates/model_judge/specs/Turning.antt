-- Reading on from a place of the bytes, where no chain is asked, and what one turn of it promises. Definitions only.
use Rattle.std.specs.Prelude.{◌≡◌, cond, List, ℕ, ◌+◌, ◌≤◌, ◌<◌, ltb, length, Some, Result, Ok, Err}
use Rattle.rules.specs.Answers.{says}
use Rattle.rules.specs.Load.{State, before, inside, put, last}
use Rattle.rules.specs.Model.{Model}
use Rattle.rules.specs.Records.{Rec, Parts, part, next, Outcome, refused, accepted, run, numbers_of}
use Rattle.rules.specs.Rooms.{Lengths}
use Rattle.rules.specs.declared.Refusal.TheVariants as Why
use Rattle.rules.specs.declared.Record.{Record}
use Rattle.rules.specs.declared.Refusal.{Refusal}
use Rattle.rules.specs.declared.Refused.{Refused}
use Rattle.bytes_read.specs.PartsAt.{parts_at}
use Rattle.bytes_read.specs.Places.{record_at}
use Rattle.model_judge.specs.Plain.{plain}
use Rattle.model_judge.specs.Progress.{sofar_of, KeptIn}
use Rattle.model_judge.specs.declared.progress.Progress.{Progress}
use Rattle.model_judge.specs.declared.Summary.{Summary}
use Rattle.model_judge.specs.declared.HalfRead.{HalfRead}
use Rattle.std.specs.declared.ops.ControlFlow.{ControlFlow}
use Rattle.std.specs.declared.ops.ControlFlow.TheVariants.{Continue, Break}

-- The summary of what is still to come, where k moves have been read.
abbrev pub summary_after : ℕ → Outcome Model → Outcome Summary
summary_after k (refused n p) = refused n p
summary_after k (accepted m) = accepted (record { sizes = m.sizes; live = m.live; moves = k + length m.moves })

abbrev pub summary : Outcome Model → Outcome Summary
summary o = summary_after 0 o

-- What the code's answer says.
abbrev pub read_says : Result Summary Refused → Outcome Summary
read_says a = says a

-- One turn; one that stops with a refusal at a place, and one that goes on.
abbrev pub OneTurn : Type 0
OneTurn = ControlFlow (Result Summary Refused) HalfRead

abbrev pub stop : Refusal → ℕ → OneTurn
stop e p = Break (Err (record { why = e; place = p }))

abbrev pub go : Record → Progress → ℕ → OneTurn
go r x n = Continue (record { last = r; so_far = x; at = n })

-- How many moves have been read.
abbrev pub moves_of : State → ℕ
moves_of before = 0
moves_of (inside x) = x.moves.count

-- What reading on in a state from a place comes to.
unfoldable pub read_on : Lengths → List ℕ → State → ℕ → Outcome Model
read_on l s st at = run (plain l) put last st (parts_at s at)

abbrev pub from : Lengths → List ℕ → State → ℕ → Outcome Summary
from l s st at = summary_after (moves_of st) (read_on l s st at)

-- After the end record.
unfoldable pub end_turn : Progress → ℕ → ℕ → OneTurn
end_turn x n len = cond (ltb n len) (stop Why.NotDue n) (Break (Ok (record { sizes = x.sizes; live = x.live; moves = x.moves.count })))

-- A turn that stops has the answer, and no record that goes on stands there. A turn that goes on has read the record at the
-- place, and the step leads to what it hands on.
pub record Goes (l : Lengths) (s : List ℕ) (st : State) (at : ℕ) (r : Record) (y : Progress) (n : ℕ) : Type 0 where
  pub on : at < n
  pub inside_bytes : n ≤ length s
  pub stands : parts_at s at ≡ part at (numbers_of r) (parts_at s n)
  pub got : record_at s at ≡ Some (r, n)
  pub steps : plain l st (numbers_of r) ≡ next (inside (sofar_of y))
  pub kept : KeptIn y

-- No record that goes on stands at the place.
abbrev pub Stops : Lengths → State → Parts → Type 0
Stops l st t = (p : ℕ) (r : Rec) (u : Parts) (st' : State) → t ≡ part p r u → plain l st r ≡ next st' → ⊥

abbrev pub Turned : Lengths → List ℕ → State → ℕ → OneTurn → Type 0
Turned l s st at (Break a) = (read_says a ≡ from l s st at) × Stops l st (parts_at s at)
Turned l s st at (Continue h) = Goes l s st at h.last h.so_far h.at
