-- What the loops over a row leave, place by place. Definitions only.
use Rattle.std.specs.Prelude.{◌≡◌, Bool, cond, ◌&&◌, List, ◌++◌, map, ℕ, ◌+◌, ◌-◌, length, get_or, take, eqb}
use Rattle.systems.specs.machine.Machine.{next_mark}
use Rattle.systems.specs.lists.Rows.{hits}
use Rattle.words.specs.Words.{waiting_of}

-- Must the pair at the state s turn: has it the value `from`, and is its place bad?
abbrev pub turn_at : List ℕ → ℕ → List ℕ → ℕ → Bool
turn_at row from bad s = eqb (get_or row s 0) from && eqb (get_or bad s 0) 1

-- The mark of the pair at the state s: that by which it waits where its place is bad, and else the mark that it has.
abbrev pub mark_at : List ℕ → Bool → List ℕ → ℕ → ℕ
mark_at bad settling marks s = cond (eqb (get_or bad s 0) 1) (next_mark settling (get_or marks s 0)) (get_or marks s 0)

-- Is the place of the state s bad?
abbrev pub bad_at : List ℕ → ℕ → Bool
bad_at bad s = eqb (get_or bad s 0) 1

-- The same of a part of the row, of which the first place is that of the state p.
abbrev pub bad_from : ℕ → List ℕ → ℕ → Bool
bad_from p part s = bad_at part (s - p)

-- After n places of the row of y, from the state p on: the queue reaches to `top`, and up to there holds what it held before, and
-- then the pairs of these places that must turn.
pub record Queued (y : ℕ) (g : ℕ → Bool) (before : List ℕ) (tail p n top : ℕ) (queue : List ℕ) : Type 0 where
  pub long : length queue ≡ length before
  pub reaches : top ≡ tail + length (hits g p n)
  pub front : take top queue ≡ take tail before ++ map (waiting_of y) (hits g p n)
