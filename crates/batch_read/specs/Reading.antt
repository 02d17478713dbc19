-- Reading a batch on from a place of the bytes, and the numbers that its changes are put down as. Definitions only.
use Rattle.std.specs.Prelude.{◌≡◌, Bool, cond, List, [], ◌∷◌, map, ℕ, suc, ◌+◌, ◌≤◌, ◌<◌, eqb, ltb, length, Result, Ok, Err}
use Rattle.std.proofs.lemmas.List.Edits.{sets}
use Rattle.rules.specs.Answers.{number_of}
use Rattle.rules.specs.Batch.{Batch, Change, Place, after, step_batch, put_batch, empty_batch, read_batch}
use Rattle.rules.specs.Limits.{most_changes}
use Rattle.rules.specs.Model.{move_ok}
use Rattle.rules.specs.Moves.{pack}
use Rattle.rules.specs.Records.{Rec, field, Parts, ends, broken, part, parts, Turn, no, back, next, over, Outcome, refused, accepted, run}
use Rattle.rules.specs.declared.Move.{Move}
use Rattle.rules.specs.declared.Refusal.{Refusal}
use Rattle.rules.specs.declared.Refusal.TheVariants as Why
use Rattle.rules.specs.declared.Refused.{Refused}
use Rattle.rules.specs.declared.Sizes.{Sizes}
use Rattle.words.specs.Words.{pack_of, code_of}
use Rattle.bytes_read.specs.PartsAt.{parts_at}
use Rattle.batch_read.specs.declared.Summary.{Summary}
use Rattle.batch_read.specs.declared.HalfRead.{HalfRead}
use Rattle.std.specs.declared.ops.ControlFlow.{ControlFlow}
use Rattle.std.specs.declared.ops.ControlFlow.TheVariants.{Continue, Break}

-- Changes as numbers.
abbrev pub codes : List Change → List ℕ
codes cs = map (λ c. code_of c.move c.insert) cs

-- One turn; one that stops with a refusal at a place, and one that goes on.
abbrev pub ChangeTurn : Type 0
ChangeTurn = ControlFlow (Result Summary Refused) HalfRead

abbrev pub stop : Refusal → ℕ → ChangeTurn
stop why place = Break (Err (record { why = why; place = place }))

abbrev pub go : ℕ → ℕ → ℕ → ℕ → ChangeTurn
go stamp count change at = Continue (record { stamp = stamp; count = count; change = change; at = at })

-- What the turn at a change, and the one at the end record, come to.
unfoldable pub change_turn : Sizes → ℕ → ℕ → Move → Bool → ℕ → ℕ → ChangeTurn
change_turn z stamp n m insert at k =
    cond (ltb n most_changes)
    (cond (move_ok z m.source.0 m.action.0 m.target.0) (go stamp (n + 1) (code_of (pack_of m) insert) k) (stop Why.BadNumber at))
    (stop Why.BadSize at)

unfoldable pub end_turn : ℕ → ℕ → ℕ → ℕ → ChangeTurn
end_turn stamp n k len = cond (ltb k len) (stop Why.NotDue k) (Break (Ok (record { stamp = stamp; changes = n })))

-- The summary of what is still to come, after a stamp and k changes.
abbrev pub summary_after : ℕ → ℕ → Outcome Batch → Outcome Summary
summary_after stamp k (refused n p) = refused n p
summary_after stamp k (accepted b) = accepted (record { stamp = stamp; changes = k + length b.changes })

abbrev pub summary : Outcome Batch → Outcome Summary
summary (refused n p) = refused n p
summary (accepted b) = accepted (record { stamp = b.stamp; changes = length b.changes })

-- What the code's answer says.
abbrev pub batch_says : Result Summary Refused → Outcome Summary
batch_says (Err r) = refused (number_of r.why) r.place
batch_says (Ok b) = accepted b

-- What reading on from a place comes to, after n changes.
unfoldable pub read_on : Sizes → ℕ → Parts → Outcome Batch
read_on z n t = run (step_batch z) put_batch empty_batch (after n) t

abbrev pub from : Sizes → List ℕ → ℕ → ℕ → ℕ → Outcome Summary
from z s stamp n at = summary_after stamp n (read_on z n (parts_at s at))

-- The changes up to the first record that is none, as numbers.
abbrev pub codes_by : List ℕ → Rec → Turn Place → List ℕ
codes_by l r (no k) = []
codes_by l r (back k d) = []
codes_by l r (next p) = code_of (pack (field r 0) (field r 1) (field r 2)) (eqb r.kind 8) ∷ l
codes_by l r over = []

unfoldable pub codes_from : Sizes → ℕ → Parts → List ℕ
codes_from z n (ends p) = []
codes_from z n (broken p) = []
codes_from z n (part p r t) = codes_by (codes_from z (suc n) t) r (step_batch z (after n) r)

-- The changes after the stamp.
unfoldable pub codes_of : Sizes → Parts → List ℕ
codes_of z (ends p) = []
codes_of z (broken p) = []
codes_of z (part p r t) = cond (eqb r.kind 7) (codes_from z 0 t) []

-- What a turn promises.
pub record Goes (z : Sizes) (s : List ℕ) (stamp n at p j code k : ℕ) : Type 0 where
  pub stamped : p ≡ stamp
  pub counted : j ≡ n + 1
  pub on : at < k
  pub inside : k ≤ length s
  pub same : from z s stamp n at ≡ from z s stamp (n + 1) k
  pub codes : codes_from z n (parts_at s at) ≡ code ∷ codes_from z (n + 1) (parts_at s k)

abbrev pub Turned : Sizes → List ℕ → ℕ → ℕ → ℕ → ChangeTurn → Type 0
Turned z s stamp n at (Break a) = (batch_says a ≡ from z s stamp n at) × (codes_from z n (parts_at s at) ≡ [])
Turned z s stamp n at (Continue h) = Goes z s stamp n at h.stamp h.count h.change h.at

-- A reading into a room t that answers r and leaves u: it says what the rules' reading comes to, and puts the changes down.
pub record ReadInto (z : Sizes) (s t : List ℕ) (r : Result Summary Refused) (u : List ℕ) : Type 0 where
  pub says : batch_says r ≡ summary (read_batch z s)
  pub holds : u ≡ sets t 0 (codes_of z (parts s))
