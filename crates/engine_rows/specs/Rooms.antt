-- What the rooms of an update hold, as its steps need it. Definitions only.
use Rattle.std.specs.Prelude.{◌≡◌, Bool, true, false, ◌&&◌, List, map, ℕ, ◌+◌, ◌≤◌, ◌<◌, length, get_or, eqb}
use Rattle.lists.specs.Lists.{is}
use Rattle.systems.specs.machine.Machine.{past}
use Rattle.systems.specs.moving.MarkTurns.{flip, odd}
use Rattle.systems.specs.lists.ListMachine.{marks_in, Pile}
use Rattle.systems.specs.lists.Rows.{hits}
use Rattle.rules.specs.Values.{block_of}
use Rattle.rules.specs.Calls.{value_at}
use Rattle.rules.specs.declared.Sizes.{Sizes}
use Rattle.words.specs.Words.{variable_in, state_in}
use Rattle.laws.specs.model.ModelSystem.{frame}
use Rattle.engine_table.specs.Table.{Table, model_of, word_at, waiter}

-- Each entry is 0 or 1.
abbrev pub Bits : List ℕ → Type 0
Bits l = (p : ℕ) → get_or l p 0 ≤ 1

-- The first numbers of a queue each stand for a variable and a state.
abbrev pub Packed : Sizes → List ℕ → ℕ → Type 0
Packed z queue tail = (i : ℕ) → i < tail → (variable_in (get_or queue i 0) < z.variables) × (state_in (get_or queue i 0) < z.states)

-- The marks and the queue as the machine has them: pairs for the numbers in the room.
abbrev pub pile_in : Sizes → List ℕ → List ℕ → ℕ → ℕ → Pile
pile_in z marks queue from tail = record { marks = marks; queue = map (waiter z) queue; from = from; tail = tail }

-- What `bad` and an answer r tell of a row of n pairs, that of the state s at `base` + s, where f is the test that pairs must pass
-- to turn: a pair must turn where it has the value `from` and `bad` is 1; and where the answer is no, none must.
pub record Tells (n : ℕ) (from : Bool) (values : List ℕ) (base : ℕ) (f : ℕ → Bool) (bad : List ℕ) (r : Bool) : Type 0 where
  pub long : length bad ≡ n
  pub bits : r ≡ true → Bits bad
  pub yes : r ≡ true → (s : ℕ) → s < n → f s ≡ (is from (value_at values (base + s)) && eqb (get_or bad s 0) 1)
  pub no : r ≡ false → (s : ℕ) → s < n → f s ≡ false

-- The states of a row at which `bad` is 1, in order.
abbrev pub hits_in : List ℕ → List ℕ
hits_in bad = hits (λ s. eqb (get_or bad s 0) 1) 0 (length bad)

-- What is known of values and marks where the row of the variable y is looked at while its block shifts: pairs of this block and of
-- later ones have their old values, and pairs of earlier blocks have them turned round where the mark is odd.
pub record Told (t : Table) (values marks : List ℕ) (y : ℕ) : Type 0 where
  pub still : (q : ℕ) → (word_at t y).block ≤ block_of (model_of t) q → past (frame (model_of t)) (value_at values) (marks_in marks) q ≡ value_at values q
  pub turned : (q : ℕ) → block_of (model_of t) q < (word_at t y).block
      → value_at values q ≡ flip (odd (marks_in marks q)) (past (frame (model_of t)) (value_at values) (marks_in marks) q)
