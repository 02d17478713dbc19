-- What a turn works on, and its steps as code makes them: a pair that is visited waits where its mark leaves it free and it must turn
-- too. Labels play no part in it. Pairs stand as numbers of the queue: 1,024 times the variable, and the state. Definitions only.
use Rattle.std.specs.Prelude.{◌≡◌, Bool, true, false, Option, Some, None, not, cond, ◌&&◌, List, [], ◌∷◌, ◌++◌, ℕ, zero, suc, ◌+◌, ◌*◌, ◌/◌, ◌≤◌, ◌<◌, length, get_or, set, eqb, ltb}
use Rattle.lists.specs.Lists.{any}
use Rattle.systems.specs.machine.Machine.{free, next_mark}
use Rattle.rules.specs.Moves.{source, action, target}
use Rattle.rules.specs.declared.Equation.{Equation}
use Rattle.rules.specs.Rooms.{pairs_of}
use Rattle.rules.specs.Session.{unword}
use Rattle.rules.specs.declared.Sizes.{Sizes}
use Rattle.words.specs.Words.{waiting_of, variable_in, state_in}
use Rattle.engine_table.specs.Table.{table_in, Drawn, pair_in, waiter}
use Rattle.engine_table.specs.Part.{own_moves}
use Rattle.engine_index.specs.Indexed.{key_of}
use Rattle.engine_index.specs.Operands.{is_step, easy_bit, names_of, slot_word, link_in, waits_in, owner_in, row_in}
use Rattle.engine_turn.specs.declared.Spread.{Spread}
use Rattle.engine_turn.specs.declared.view.View.{View}

-- The table, the values, and the value that pairs turn from.
pub record Scene : Type 0 where
  pub sizes : Sizes
  pub equations : List ℕ
  pub moves : List ℕ
  pub values : List ℕ
  pub from : ℕ

abbrev pub scene_of : Sizes → List ℕ → List ℕ → List ℕ → ℕ → Scene
scene_of z equations moves values from = record { sizes = z; equations = equations; moves = moves; values = values; from = from }

-- What code looks at in a turn, and its sizes.
abbrev pub scene_in : View → Scene
scene_in v = scene_of v.known.now.sizes v.known.now.equations.now v.known.now.moves.now v.values.now v.from

abbrev pub sizes_in : View → Sizes
sizes_in v = v.known.now.sizes

-- The table is, with some labels, a model inside the limits, and there is a value for each pair.
pub record Standing (c : Scene) : Type 0 where
  pub labels : List ℕ
  pub drawn : Drawn (table_in c.sizes labels c.equations c.moves)
  pub long : length c.values ≡ pairs_of c.sizes

-- The equation of the variable y.
abbrev pub equation_of : Scene → ℕ → Equation
equation_of c y = unword (get_or c.equations y 0)

-- Has the pair of x and s the value that pairs turn from?
abbrev pub has_from : Scene → ℕ → ℕ → Bool
has_from c x s = eqb (get_or c.values (pair_in c.sizes x s) 0) c.from

-- Has no operand of y at s, whose equation is easy, that value? The operands of a join are two, those of a step the targets.
unfoldable pub fails : Scene → ℕ → ℕ → Bool
fails c y s =
    let e = equation_of c y in
    cond (ltb e.operator 6)
    (not (has_from c e.first s) && not (has_from c e.second s))
    (not (any (λ q. has_from c e.second (target q)) (own_moves s e.first c.moves)))

-- Must the pair of y and s turn, where one that it leans on has turned? It must have the value that pairs turn from; and while
-- settling, an easy pair turns only if no operand has that value any more.
unfoldable pub asks_for : Scene → Bool → ℕ → ℕ → Bool
unfolding fails
asks_for c ph y s = has_from c y s && cond (ph && eqb (easy_bit (equation_of c y)) 1) (fails c y s) true

-- Marks, queue, the end of the queue, and how many visits there were.
pub record Line : Type 0 where
  pub marks : List ℕ
  pub queue : List ℕ
  pub tail : ℕ
  pub visits : ℕ

abbrev pub line_of : List ℕ → List ℕ → ℕ → ℕ → Line
line_of marks queue tail visits = record { marks = marks; queue = queue; tail = tail; visits = visits }

-- The same, where a spread says how far the queue goes and how many visits there were.
abbrev pub line_at : List ℕ → List ℕ → Spread → Line
line_at marks queue at = line_of marks queue at.tail at.visits

-- The pair waits, and does not.
abbrev pub waited : Sizes → Bool → ℕ → Line → Line
waited z ph w v = record {
  marks = set v.marks (waiter z w) (next_mark ph (get_or v.marks (waiter z w) 0));
  queue = set v.queue v.tail w;
  tail = suc v.tail;
  visits = suc v.visits;
}

abbrev pub passed : Line → Line
passed v = record { marks = v.marks; queue = v.queue; tail = v.tail; visits = suc v.visits }

-- The pair is visited.
unfoldable pub visit_one : Scene → Bool → ℕ → Line → Line
unfolding asks_for
visit_one c ph w v =
    cond (free ph (get_or v.marks (waiter c.sizes w) 0) && asks_for c ph (variable_in w) (state_in w)) (waited c.sizes ph w v) (passed v)

-- The pairs of a list are visited, one after the other.
unfoldable pub visit_all : Scene → Bool → List ℕ → Line → Line
unfolding visit_one
visit_all c ph [] v = v
visit_all c ph (w ∷ l) v = visit_all c ph l (visit_one c ph w v)

-- What a walk along a chain meets: `here j` at each of the first k words that has the number t, the last first.
unfoldable pub along : (ℕ → ℕ) → List ℕ → ℕ → (ℕ → List ℕ) → ℕ → List ℕ
along key ws t here zero = []
along key ws t here (suc j) = cond (eqb (key (get_or ws j 0)) t) (here j) [] ++ along key ws t here j

-- The pair of y at the source of the move at j.
abbrev pub source_of : List ℕ → ℕ → ℕ → List ℕ
source_of moves y j = waiting_of y (source (get_or moves j 0)) ∷ []

-- The pairs of y at the sources of the moves in the chain of the key.
abbrev pub sources_in : Sizes → List ℕ → ℕ → ℕ → List ℕ
sources_in z moves y key = along (key_of z) moves key (source_of moves y) (length moves)

-- The pairs of y that lean on the state s of the variable that one of its operands names.
unfoldable pub pairs_by : Sizes → List ℕ → List ℕ → ℕ → ℕ → List ℕ
unfolding along
pairs_by z equations moves s y =
    let e = unword (get_or equations y 0) in
    cond (is_step e) (sources_in z moves y (e.first * z.states + s)) (waiting_of y s ∷ [])

-- Who leans on the pair of x and s inside its block.
unfoldable pub leaners_in : Sizes → List ℕ → List ℕ → ℕ → ℕ → List ℕ
unfolding along pairs_by
leaners_in z equations moves x s = along (λ w. w) (names_of equations) x (λ j. pairs_by z equations moves s (j / 2)) (2 * length equations)

-- The same of what code looks at: the pairs of a chain, of an operand, and all that lean on a pair.
abbrev pub sources_of : View → ℕ → ℕ → List ℕ
sources_of v y key = sources_in v.known.now.sizes v.known.now.moves.now y key

abbrev pub pairs_of_word : View → ℕ → ℕ → List ℕ
pairs_of_word v s y = pairs_by v.known.now.sizes v.known.now.equations.now v.known.now.moves.now s y

abbrev pub leaners_at : View → ℕ → ℕ → List ℕ
leaners_at v x s = leaners_in v.known.now.sizes v.known.now.equations.now v.known.now.moves.now x s

-- y is a variable that leans on others, and s a state.
pub record Leaner (c : Scene) (y s : ℕ) : Type 0 where
  pub variable : y < c.sizes.variables
  pub state : s < c.sizes.states
  pub uses : 4 ≤ (equation_of c y).operator

-- `step` says whether y is a diamond or a box; where it is, the move at j is one of its own at s.
pub record Along (c : Scene) (step : Bool) (y s j : ℕ) : Type 0 where
  pub told : step ≡ is_step (equation_of c y)
  pub own : step ≡ true → (j < length c.moves) × ((source (get_or c.moves j 0) ≡ s) × (action (get_or c.moves j 0) ≡ (equation_of c y).first))

-- The same, where a step has a move and a join has none.
abbrev pub AlongBy : Scene → Option ℕ → ℕ → ℕ → Type 0
AlongBy c None y s = Along c false y s 0
AlongBy c (Some j) y s = Along c true y s j

-- What a visit takes from the word: its variable leans on others, the word holds the variable's places, and `asks` says whether the
-- operands are to be asked, as those of an easy variable are while settling.
pub record Leans (c : Scene) (ph asks : Bool) (o : ℕ) : Type 0 where
  pub variable : owner_in o < c.sizes.variables
  pub uses : 4 ≤ (equation_of c (owner_in o)).operator
  pub told : asks ≡ (ph && eqb (easy_bit (equation_of c (owner_in o))) 1)
  pub row : row_in o ≡ owner_in o * c.sizes.states
  pub waits : waits_in o ≡ 1024 * owner_in o

-- y is a diamond or a box, and the head is that of the chain of the moves by its action into some state.
pub record HeadOf (c : Scene) (y head : ℕ) : Type 0 where
  pub step : is_step (equation_of c y) ≡ true
  pub into : ℕ
  pub low : into < c.sizes.states
  pub is : head ≡ (equation_of c y).first * c.sizes.states + into

-- The word of an operand: it is that of a slot of the variable that it holds, which leans on others.
pub record OperandOf (c : Scene) (o : ℕ) : Type 0 where
  pub variable : owner_in o < c.sizes.variables
  pub uses : 4 ≤ (equation_of c (owner_in o)).operator
  pub word : o ≡ slot_word c.sizes (equation_of c (owner_in o)) (owner_in o) (link_in o)

-- A run of visits of the pairs in a list stays inside numbers of 32 bits.
abbrev pub Bounded : ℕ → ℕ → List ℕ → Type 0
Bounded tail visits l = (tail + length l < 4294967296) × (visits + length l < 4294967296)

abbrev pub BoundedAt : Spread → List ℕ → Type 0
BoundedAt at l = Bounded at.tail at.visits l

-- The queue has places for all that come to wait where the pairs of a list are visited.
abbrev pub Room : Scene → Bool → List ℕ → Line → Type 0
Room c ph l v = (visit_all c ph l v).tail ≤ length v.queue
