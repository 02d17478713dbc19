-- What a model leaves in the rooms for labels, equations and moves. Definitions only.
use Rattle.std.specs.Prelude.{◌≡◌, false, cond, List, [], ◌∷◌, map, ℕ, zero, suc, ◌+◌, ◌-◌, ◌≤◌, ◌<◌, length, get_or, set, replicate, eqb, Result}
use Rattle.std.proofs.lemmas.List.Edits.{sets}
use Rattle.lists.specs.Lists.{fill}
use Rattle.rules.specs.Load.{Sofar, inside, started, equation_of, signed_of, sign_of, read_model}
use Rattle.rules.specs.Rooms.{Lengths}
use Rattle.words.specs.Words.{pack_of}
use Rattle.bytes_read.specs.Places.{le16, le32, move_at, record_at, Read}
use Rattle.model_runs.specs.Runs.{GoodLabel, with_label, GoodEquation, with_equation}
use Rattle.model_runs.specs.declared.LabelRun.{LabelRun}
use Rattle.model_runs.specs.declared.EquationRun.{EquationRun}
use Rattle.model_judge.specs.Going.{place_of, InsideTurn, left}
use Rattle.model_judge.specs.Passing.{block_end, equation_run}
use Rattle.model_judge.specs.Plain.{read_plain}
use Rattle.model_judge.specs.Progress.{sofar_of, moves_due_in}
use Rattle.model_judge.specs.Turning.{read_on, read_says, summary, OneTurn}
use Rattle.model_judge.specs.declared.progress.Progress.{Progress}
use Rattle.model_judge.specs.declared.Summary.{Summary}
use Rattle.rules.specs.declared.Refused.{Refused}
use Rattle.std.specs.declared.ops.ControlFlow.TheVariants.{Continue, Break}
use Rattle.rules.specs.Model.{Model, signed, placed}
use Rattle.rules.specs.Moves.{wrap, pack}
use Rattle.rules.specs.Records.{Outcome, refused, accepted, numbers_of, field}
use Rattle.rules.specs.Session.{word}
use Rattle.rules.specs.declared.Equation.{Equation}
use Rattle.rules.specs.declared.Record.{Record}
use Rattle.rules.specs.declared.Sizes.{Sizes}
use Rattle.model_chains.specs.Stored.{held}

-- The three rooms that a reading fills.
pub record Stored : Type 0 where
  pub labels : List ℕ
  pub equations : List ℕ
  pub moves : List ℕ

-- They, by what lies in each.
abbrev pub three : List ℕ → List ℕ → List ℕ → Stored
three labels equations moves = record { labels = labels; equations = equations; moves = moves }

-- The equation that three numbers say, inside a block.
abbrev pub equation_by : Progress → ℕ → ℕ → ℕ → Equation
equation_by x o a b = equation_of (sofar_of x) o a b

-- What one record does to them, by its kind k and its numbers a, b, c, d: a label with zeros for the states before it, zeros for the
-- states after the last label, an equation, a move. An equation with a sign is stored without its component.
abbrev pub put_by : Sofar → ℕ → ℕ → ℕ → ℕ → ℕ → Stored → Stored
put_by x k a b c d t =
    cond (eqb k 2) (three (set (sets t.labels x.labels (replicate (a - x.labels) 0)) a b) t.equations t.moves)
    (cond (eqb k 3) (three (sets t.labels x.labels (replicate (x.sizes.states - x.labels) 0)) t.equations t.moves)
    (cond (eqb k 4) (three t.labels (set t.equations x.blocks.equations (word (equation_of x a b c))) t.moves)
    (cond (eqb k 5) (three t.labels t.equations (set t.moves x.moves.count (wrap (pack a b c))))
    (cond (eqb k 11)
    (three (sets t.labels x.labels (replicate (x.sizes.states - x.labels) 0)) (set t.equations x.blocks.equations (word (signed_of a b c d))) t.moves)
    t))))

unfoldable pub put_rooms : Sofar → Record → Stored → Stored
put_rooms x r t =
    put_by x (numbers_of r).kind (field (numbers_of r) 0) (field (numbers_of r) 1) (field (numbers_of r) 2) (field (numbers_of r) 3) t

abbrev pub put_record : Progress → Record → Stored → Stored
put_record x r t = put_rooms (sofar_of x) r t

-- A record that is stored by itself: it is no move, and the sign of an equation is 0 or 1.
abbrev pub Storable : Record → Type 0
Storable r = ((numbers_of r).kind ≡ 5 → ⊥) × ((numbers_of r).kind ≡ 11 → (sign_of (numbers_of r)).kind ≤ 1)

abbrev pub StorableTurn : OneTurn → Type 0
StorableTurn (Break a) = Unit {0}
StorableTurn (Continue h) = Storable h.last

-- What the record of a turn does to them, after what the turn before it had read.
abbrev pub put_turn : OneTurn → OneTurn → Stored → Stored
put_turn (Break a) u t = t
put_turn (Continue h) (Break a) t = t
put_turn (Continue h) (Continue k) t = put_record h.so_far k.last t

-- What is still to come, written from where the reading stands on.
unfoldable pub laid : Sofar → Model → Stored → Stored
laid x m t =
    record {
      labels = sets t.labels x.labels m.labels;
      equations = sets t.equations x.blocks.equations (map word m.equations);
      moves = sets t.moves x.moves.count m.moves;
    }

-- Rooms t with the whole model that bytes spell, if they are accepted, are u.
abbrev pub StoredWhole : Lengths → List ℕ → Stored → Stored → Type 0
StoredWhole l s t u = (m : Model) → read_plain l s ≡ accepted m → u ≡ laid (started m.sizes) m t

-- Equations with signs and their components; equations in blocks as they are.
unfoldable pub with_components : Sizes → List ℕ → List ℕ
with_components z ws = cond (signed z) (fill (map word (placed (held z.variables ws))) ws) ws

-- The rooms after a reading: unchanged where it refused, with the model in front where it accepted.
abbrev pub stored_by : Outcome Model → Stored → Stored
stored_by (refused n p) t = t
stored_by (accepted m) t =
    record { labels = fill m.labels t.labels; equations = fill (map word m.equations) t.equations; moves = fill m.moves t.moves }

-- The lengths lent are those of the three rooms.
pub record Spans (l : Lengths) (t : Stored) : Type 0 where
  pub labels : l.labels ≡ length t.labels
  pub equations : l.equations ≡ length t.equations
  pub moves : l.moves ≡ length t.moves

-- A reading into rooms t that answers r and leaves u: it says what the rules' reading comes to, and stores the model.
pub record ReadInto (s : List ℕ) (l : Lengths) (t : Stored) (r : Result Summary Refused) (u : Stored) : Type 0 where
  pub says : read_says r ≡ summary (read_model l s)
  pub stores : u ≡ stored_by (read_model l s) t

-- Where the reading stands: if the whole is accepted, so is the rest, and storing the rest gives the whole.
abbrev pub Here : Lengths → List ℕ → Stored → Sofar → ℕ → Stored → Type 0
Here l s t₀ x at t =
    (m : Model) → read_plain l s ≡ accepted m → (n : Model) × (read_on l s (inside x) at ≡ accepted n) × (laid x n t ≡ laid (started m.sizes) m t₀)

-- Between two turns: what was stored so far, and where the reading is over, the whole.
abbrev pub Holds : Lengths → List ℕ → Stored → OneTurn → Stored → Type 0
Holds l s t₀ (Break a) t = StoredWhole l s t₀ t
Holds l s t₀ (Continue h) t = Here l s t₀ (sofar_of h.so_far) h.at t

-- After a turn, before what follows it is stored.
pub record Reached (l : Lengths) (s : List ℕ) (t₀ : Stored) (u : OneTurn) (t : Stored) : Type 0 where
  pub inside : InsideTurn s u
  pub holds : Holds l s t₀ u t

-- No move is due: where moves are, they are stored at once, and the reading is over.
abbrev pub NoMoves : OneTurn → Type 0
NoMoves (Break a) = Unit {0}
NoMoves (Continue h) = moves_due_in h.so_far ≡ false

abbrev pub Between : List ℕ → OneTurn → Type 0
Between s u = InsideTurn s u × NoMoves u

-- Once that is stored.
pub record Storing (l : Lengths) (s : List ℕ) (t₀ : Stored) (u : OneTurn) (t : Stored) : Type 0 where
  pub going : Between s u
  pub holds : Holds l s t₀ u t

-- What one turn that stores is handed: what was read at the place of the turn before.
abbrev pub StoresAt : List ℕ → Read → OneTurn → Type 0
StoresAt s read t = Between s t × (read ≡ record_at s (place_of t))

-- What it does: from what was stored so far to what is stored with it, nearer to the end.
abbrev pub Stores : Lengths → List ℕ → OneTurn → Stored → OneTurn → Stored → Type 0
Stores l s t h u k = (t₀ : Stored) → Storing l s t₀ t h → (place_of t ≡ 0 → ⊥) → Storing l s t₀ u k × (left s u < left s t)

-- What is stored beside the turns: from a turn and rooms to another turn and other rooms, no further from the end.
abbrev pub RunStored : List ℕ → OneTurn → Stored → OneTurn → Stored → Type 0
RunStored s u h v k = (l : Lengths) (t₀ : Stored) → Reached l s t₀ u h → Reached l s t₀ v k × (left s v ≤ left s u)

-- The same, up to where no move is due.
abbrev pub RunOver : List ℕ → OneTurn → Stored → OneTurn → Stored → Type 0
RunOver s u h v k = RunStored s u h v k × NoMoves v

-- The label that stands next, after zeros for the states before it that have none.
abbrev pub label_put : List ℕ → LabelRun → List ℕ → List ℕ
label_put s x ls = set (sets ls x.labels (replicate (le16 s (x.at + 1) - x.labels) 0)) (le16 s (x.at + 1)) (le32 s (x.at + 3))

-- From one place to another there are good labels and nothing else, and each is put into the room.
pub data LabelsPut (s : List ℕ) (z : Sizes) (x : LabelRun) (ls : List ℕ) : LabelRun → List ℕ → Type 0 where
  none : LabelsPut s z x ls x ls
  more : (y : LabelRun) (ms : List ℕ) → LabelsPut s z x ls y ms → GoodLabel s z y → LabelsPut s z x ls (with_label s y) (label_put s y ms)

-- The equation of the block that stands next.
abbrev pub equation_put : List ℕ → Progress → EquationRun → List ℕ → List ℕ
equation_put s x y es = set es (block_end x - y.due) (word (equation_by x (get_or s (y.at + 1) 0) (get_or s (y.at + 2) 0) (get_or s (y.at + 3) 0)))

-- From one place to another there are good equations of the block and nothing else, and each is put into the room.
pub data EquationsPut (s : List ℕ) (x : Progress) (n : ℕ) (es : List ℕ) : EquationRun → List ℕ → Type 0 where
  none : EquationsPut s x n es (equation_run x n) es
  more : (y : EquationRun) (fs : List ℕ) → EquationsPut s x n es y fs → GoodEquation s x.sizes (block_end x) y → EquationsPut s x n es (with_equation y) (equation_put s x y fs)

-- The numbers of so many moves that stand from a place on.
abbrev pub moves_from : List ℕ → ℕ → ℕ → List ℕ
moves_from s p zero = []
moves_from s p (suc k) = wrap (pack_of (move_at s (p + 1))) ∷ moves_from s (p + 6) k
