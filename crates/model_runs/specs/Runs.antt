-- Labels, equations and moves that stand one after another in some bytes. Definitions only.
use Rattle.std.specs.Prelude.{◌≡◌, true, List, ℕ, suc, ◌+◌, ◌-◌, ◌≤◌, ◌<◌, length, get_or}
use Rattle.rules.specs.Load.{moving_with}
use Rattle.rules.specs.Model.{label_ok, operands_ok, names_ok, move_ok}
use Rattle.rules.specs.declared.Sizes.{Sizes}
use Rattle.words.specs.Words.{pack_of}
use Rattle.bytes_read.specs.Places.{le16, le32, move_at}
use Rattle.model_runs.specs.declared.LabelRun.{LabelRun}
use Rattle.model_runs.specs.declared.EquationRun.{EquationRun}
use Rattle.model_runs.specs.declared.MoveRun.{MoveRun}

-- From one place to another by steps, each from a place where a good one stands to the place past it.
pub data Steps {A : Type 0} (Good : A → Type 0) (past : A → A) (x : A) : A → Type 0 where
  none : Steps Good past x x
  more : (y : A) → Steps Good past x y → Good y → Steps Good past x (past y)

-- A good label stands next: whole, of a state, of a set that is not empty and not too high, and in order.
pub record GoodLabel (s : List ℕ) (z : Sizes) (x : LabelRun) : Type 0 where
  pub inside_bytes : x.at + 7 ≤ length s
  pub kind : get_or s x.at 0 ≡ 2
  pub state : le16 s (x.at + 1) < z.states
  pub some : 0 < le32 s (x.at + 3)
  pub low : label_ok z (le32 s (x.at + 3)) ≡ true
  pub order : x.labels ≤ le16 s (x.at + 1)

-- Past it.
abbrev pub with_label : List ℕ → LabelRun → LabelRun
with_label s x = record { labels = suc (le16 s (x.at + 1)); at = x.at + 7 }

-- From one place to another there are good labels and nothing else.
abbrev pub Labelled : List ℕ → Sizes → LabelRun → LabelRun → Type 0
Labelled s z x y = Steps (GoodLabel s z) (with_label s) x y

-- An equation is due and a good one stands next: whole, in range, and it names no variable from `end` on.
pub record GoodEquation (s : List ℕ) (z : Sizes) (end : ℕ) (x : EquationRun) : Type 0 where
  pub due : 0 < x.due
  pub inside_bytes : x.at + 4 ≤ length s
  pub kind : get_or s x.at 0 ≡ 4
  pub fits : operands_ok z (get_or s (x.at + 1) 0) (get_or s (x.at + 2) 0) (get_or s (x.at + 3) 0) ≡ true
  pub names : names_ok end (get_or s (x.at + 1) 0) (get_or s (x.at + 2) 0) (get_or s (x.at + 3) 0) ≡ true

-- Past it.
abbrev pub with_equation : EquationRun → EquationRun
with_equation x = record { due = x.due - 1; at = x.at + 4 }

-- From one place to another there are good equations of a block that ends before the variable `end`, and nothing else.
abbrev pub Equated : List ℕ → Sizes → ℕ → EquationRun → EquationRun → Type 0
Equated s z end x y = Steps (GoodEquation s z end) with_equation x y

-- A good move stands next: whole, in range, and in order.
pub record GoodMove (s : List ℕ) (z : Sizes) (x : MoveRun) : Type 0 where
  pub inside_bytes : x.at + 6 ≤ length s
  pub kind : get_or s x.at 0 ≡ 5
  pub fits : move_ok z (move_at s (x.at + 1)).source.0 (move_at s (x.at + 1)).action.0 (move_at s (x.at + 1)).target.0 ≡ true
  pub order : x.moves.least ≤ pack_of (move_at s (x.at + 1))

-- Past it.
abbrev pub with_move : List ℕ → MoveRun → MoveRun
with_move s x =
    record {
      moves = record {
        count = suc x.moves.count;
        least = suc (pack_of (move_at s (x.at + 1)));
        moving = moving_with x.moves.moving (move_at s (x.at + 1)).source.0;
      };
      at = x.at + 6;
    }

-- From one place to another there are good moves and nothing else, and room for each.
abbrev pub Moved : List ℕ → Sizes → ℕ → MoveRun → MoveRun → Type 0
Moved s z room x y = Steps (λ w. (w.moves.count < room) × GoodMove s z w) (with_move s) x y
