-- A batch judged in the order of the code: what is found wrong, and where. Assumes nothing.
use Rattle.std.specs.Prelude.{◌≡◌, refl, Bool, true, false, cond, List, [], ◌∷◌, ℕ, zero, suc, ◌+◌, ◌≤◌, ◌<◌, length, get_or}
use Rattle.std.proofs.Math.Option.{Option, none, some}
use Rattle.std.specs.Prelude.{Result, Ok, Err}
use Rattle.std.proofs.Common.{add-one}
use Rattle.lists.specs.Lists.{is, elem}
use Rattle.rules.specs.Records.{Outcome, refused, accepted}
use Rattle.rules.specs.Batch.{Change, Batch, repeated, misplaced}
use Rattle.rules.specs.Answers.{number_of}
use Rattle.words.specs.Words.{change_of, changes_of}
use Rattle.batch_judge.specs.Changes.{changes_from, changes-more, changes-over}
use Rattle.rules.specs.declared.Refused.{Refused}

-- A batch whose changes are held by numbers.
abbrev pub batch_in : ℕ → List ℕ → Batch
batch_in stamp l = record { stamp = stamp; changes = changes_of l }

-- What a verdict finds wrong: a refusal's number and its place.
abbrev pub fault_of : Result (Unit {0}) Refused → Option (ℕ × ℕ)
fault_of (Err r) = some (number_of r.why, r.place)
fault_of (Ok u) = none

-- What a verdict says of a batch.
abbrev pub verdict_says : Batch → Result (Unit {0}) Refused → Outcome Batch
verdict_says b (Err r) = refused (number_of r.why) r.place
verdict_says b (Ok u) = accepted b

-- The first of two faults.
abbrev pub or_else : Option (ℕ × ℕ) → Option (ℕ × ℕ) → Option (ℕ × ℕ)
or_else none o = o
or_else (some r) o = some r

-- The moves that the changes before place i name, the last first.
abbrev pub seen_at : List ℕ → ℕ → List ℕ
seen_at l zero = []
seen_at l (suc i) = (change_of (get_or l i 0)).move ∷ seen_at l i

module _ (l : List ℕ) (i at : ℕ) where
  -- A change whose move was named before is the first that repeats.
  pub repeated-here : i < length l → elem (change_of (get_or l i 0)).move (seen_at l i) ≡ true
      → repeated (seen_at l i) at (changes_from l i) ≡ some (9, at)
  repeated-here h t = rw (changes-more l i h, t) refl

  -- One that was not is passed.
  pub repeated-on : i < length l → elem (change_of (get_or l i 0)).move (seen_at l i) ≡ false
      → repeated (seen_at l i) at (changes_from l i) ≡ repeated (seen_at l (i + 1)) (at + 6) (changes_from l (i + 1))
  repeated-on h t = rw (changes-more l i h, t, add-one i) refl

  -- At the end nothing repeats.
  pub repeated-over : length l ≤ i → repeated (seen_at l i) at (changes_from l i) ≡ none
  repeated-over h = rw (changes-over l i h) refl

-- An insert of a move that is present, or a delete of one that is absent.
abbrev pub wrong : List ℕ → Change → Bool
wrong ms c = is c.insert (elem c.move ms)

module _ (ms l : List ℕ) (i at : ℕ) where
  -- A change that is wrong is the first that is.
  pub misplaced-here : i < length l → wrong ms (change_of (get_or l i 0)) ≡ true
      → misplaced ms at (changes_from l i) ≡ some (cond (change_of (get_or l i 0)).insert 7 8, at)
  misplaced-here h t = rw (changes-more l i h, t) refl

  -- One that is not is passed.
  pub misplaced-on : i < length l → wrong ms (change_of (get_or l i 0)) ≡ false
      → misplaced ms at (changes_from l i) ≡ misplaced ms (at + 6) (changes_from l (i + 1))
  misplaced-on h t = rw (changes-more l i h, t) refl

  -- At the end nothing is wrong.
  pub misplaced-over : length l ≤ i → misplaced ms at (changes_from l i) ≡ none
  misplaced-over h = rw (changes-over l i h) refl
