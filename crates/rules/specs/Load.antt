-- How a model is read, record by record: every refusal of a load, with its number and its place. Definitions only.
use Rattle.std.specs.Prelude.{Bool, true, cond, ◌&&◌, ◌||◌, List, [], ◌∷◌, ◌++◌, ℕ, suc, ◌+◌, ◌-◌, ◌*◌, min, length, replicate, eqb, ltb, leb}
use Rattle.lists.specs.Lists.{some_below, lowest}
use Rattle.rules.specs.Limits.{most_moves, sizes_ok}
use Rattle.rules.specs.Moves.{pack, source}
use Rattle.rules.specs.Model.{Model, label_ok, move_ok, operands_ok, names_ok, signed, sign_ok, guilty, placed}
use Rattle.rules.specs.declared.Equation.{Equation}
use Rattle.rules.specs.Records.{Rec, field, Turn, no, back, next, over, demand, Outcome, onto, run, parts}
use Rattle.rules.specs.Rooms.{Lengths, lent_ok}
use Rattle.rules.specs.declared.Sizes.{Sizes}

-- Of the blocks so far: how many records, the kind of the last, how many of its equations are still due, and how many
-- equations there were in all.
pub record Blocks : Type 0 where
  pub count : ℕ
  pub kind : ℕ
  pub due : ℕ
  pub equations : ℕ

-- Of the moves so far: how many, the least number that the next may have, and how many states, from the first on, have a
-- move each. Moves ascend by source, so that a state which is passed over has none.
pub record Moves : Type 0 where
  pub count : ℕ
  pub least : ℕ
  pub moving : ℕ

-- What has been read so far: numbers, and the equations with signs. Labels have passed the states below `labels`.
pub record Sofar : Type 0 where
  pub sizes : Sizes
  pub live : ℕ
  pub labels : ℕ
  pub blocks : Blocks
  pub signs : List Equation
  pub moves : Moves

-- Before the sizes record, and after it.
pub data State : Type 0 where
  before : State
  inside : Sofar → State

-- The sizes: one record of kind 1, each size inside its limits, and the rooms as long as the sizes need.
abbrev pub sizes_of : Rec → Sizes
sizes_of r =
    record { states = field r 0; actions = field r 1; propositions = field r 2; variables = field r 3; blocks = field r 4 }

abbrev pub sizes_demands : Lengths → Rec → List (ℕ × Bool)
sizes_demands l r = (2, eqb r.kind 1) ∷ (3, sizes_ok (sizes_of r)) ∷ (13, lent_ok l (sizes_of r)) ∷ []

abbrev pub started : Sizes → Sofar
started z =
    record {
      sizes = z;
      live = 0;
      labels = 0;
      blocks = record { count = 0; kind = 0; due = 0; equations = 0 };
      signs = [];
      moves = record { count = 0; least = 0; moving = 0 };
    }

-- The model is live: due once, directly after the sizes. The first label, block or equation passes a state.
abbrev pub live_demands : Sofar → List (ℕ × Bool)
live_demands x = (2, eqb x.labels 0 && eqb x.live 0) ∷ []

abbrev pub after_live : Sofar → Sofar
after_live x = record { sizes = x.sizes; live = 1; labels = x.labels; blocks = x.blocks; signs = x.signs; moves = x.moves }

-- A label of state s with the set v: due before the first block or equation; a state, a set that is not empty and not too
-- high; in order.
abbrev pub label_demands : Sofar → ℕ → ℕ → List (ℕ × Bool)
label_demands x s v =
    (2, eqb x.blocks.count 0 && eqb x.blocks.equations 0)
    ∷ (4, ltb s x.sizes.states && ltb 0 v && label_ok x.sizes v)
    ∷ (6, leb x.labels s)
    ∷ []

abbrev pub after_label : Sofar → ℕ → Sofar
after_label x s =
    record { sizes = x.sizes; live = x.live; labels = suc s; blocks = x.blocks; signs = x.signs; moves = x.moves }

-- A block of kind k with n variables: due where no equation is and blocks are left; it takes 1 to all of the variables
-- that remain, and the last block all; its kind is 0 or 1.
unfoldable pub block_fits : Sofar → ℕ → Bool
block_fits x n =
    ltb 0 n && leb (x.blocks.equations + n) x.sizes.variables
    && (ltb (suc x.blocks.count) x.sizes.blocks || eqb (x.blocks.equations + n) x.sizes.variables)

abbrev pub block_demands : Sofar → ℕ → ℕ → List (ℕ × Bool)
block_demands x k n =
    (2, eqb x.blocks.due 0 && ltb x.blocks.count x.sizes.blocks) ∷ (3, block_fits x n) ∷ (4, leb k 1) ∷ []

abbrev pub after_block : Sofar → ℕ → ℕ → Sofar
after_block x k n =
    record {
      sizes = x.sizes;
      live = x.live;
      labels = x.sizes.states;
      blocks = record { count = suc x.blocks.count; kind = k; due = n; equations = x.blocks.equations };
      signs = x.signs;
      moves = x.moves;
    }

-- An equation: due inside a block; its numbers in range; it names no variable of a later block.
abbrev pub equation_demands : Sofar → ℕ → ℕ → ℕ → List (ℕ × Bool)
equation_demands x o a b =
    (2, ltb 0 x.blocks.due)
    ∷ (4, operands_ok x.sizes o a b)
    ∷ (5, names_ok (x.blocks.equations + x.blocks.due) o a b)
    ∷ []

abbrev pub after_equation : Sofar → Sofar
after_equation x =
    record {
      sizes = x.sizes;
      live = x.live;
      labels = x.labels;
      blocks = record { count = x.blocks.count; kind = x.blocks.kind; due = x.blocks.due - 1; equations = suc x.blocks.equations };
      signs = x.signs;
      moves = x.moves;
    }

-- An equation with a sign: due where the sizes give no blocks, and equations are left; its sign and its numbers in range.
abbrev pub signed_demands : Sofar → Equation → List (ℕ × Bool)
signed_demands x e =
    (2, signed x.sizes && ltb x.blocks.equations x.sizes.variables) ∷ (4, sign_ok x.sizes e) ∷ []

abbrev pub after_signed : Sofar → Equation → Sofar
after_signed x e =
    record {
      sizes = x.sizes;
      live = x.live;
      labels = x.sizes.states;
      blocks = record { count = x.blocks.count; kind = x.blocks.kind; due = x.blocks.due; equations = suc x.blocks.equations };
      signs = x.signs ++ (e ∷ []);
      moves = x.moves;
    }

-- After the last equation with a sign no closed chain may hold both signs. The place is that of the lowest equation on such
-- a chain: records of kind 11 have 5 bytes each, and follow one another.
abbrev pub ask_chains : Sofar → Turn State
ask_chains x =
    cond (eqb x.blocks.equations x.sizes.variables && some_below (length x.signs) (guilty x.signs))
    (back 5 (5 * (length x.signs - suc (lowest (length x.signs) (guilty x.signs)))))
    (next (inside x))

-- A move: due after the last equation; in range; in order; and there is room for it.
abbrev pub moves_due : Sofar → Bool
moves_due x =
    eqb x.blocks.due 0 && eqb x.blocks.count x.sizes.blocks && eqb x.blocks.equations x.sizes.variables

abbrev pub move_demands : Lengths → Sofar → ℕ → ℕ → ℕ → List (ℕ × Bool)
move_demands l x s a t =
    (2, moves_due x)
    ∷ (4, move_ok x.sizes s a t)
    ∷ (6, leb x.moves.least (pack s a t))
    ∷ (10, ltb x.moves.count (min most_moves l.moves))
    ∷ []

-- How many states, from the first on, have a move each, with one more move of state s.
abbrev pub moving_with : ℕ → ℕ → ℕ
moving_with n s = cond (eqb s n) (suc n) n

abbrev pub after_move : Sofar → ℕ → Sofar
after_move x q =
    record {
      sizes = x.sizes;
      live = x.live;
      labels = x.labels;
      blocks = x.blocks;
      signs = x.signs;
      moves = record { count = suc x.moves.count; least = suc q; moving = moving_with x.moves.moving (source q) };
    }

-- The end: due where a move is; and in a live model each state has a move.
abbrev pub all_moving : Sofar → Bool
all_moving x = cond (eqb x.live 1) (eqb x.moves.moving x.sizes.states) true

abbrev pub end_demands : Sofar → List (ℕ × Bool)
end_demands x = (2, moves_due x) ∷ (16, all_moving x) ∷ []

-- The equation that the numbers of kind 11 say, and a record of it. Its component is known once all are read.
abbrev pub signed_of : ℕ → ℕ → ℕ → ℕ → Equation
signed_of k o a b = record { operator = o; first = a; second = b; block = 0; kind = k }

abbrev pub sign_of : Rec → Equation
sign_of r = signed_of (field r 0) (field r 1) (field r 2) (field r 3)

-- Where all demands are met, the reading goes on with x.
abbrev pub go : List (ℕ × Bool) → Sofar → Turn State
go ds x = demand ds (next (inside x))

-- One record after the sizes, by its kind k and its numbers a, b, c, d; `ask` is what is asked after an equation with a
-- sign. The kinds 1, 7, 8 and 9 are never due there.
abbrev pub step_in : (Sofar → Turn State) → Lengths → Sofar → ℕ → ℕ → ℕ → ℕ → ℕ → Turn State
step_in ask l x k a b c d =
    cond (eqb k 2) (go (label_demands x a b) (after_label x a))
    (cond (eqb k 3) (go (block_demands x a b) (after_block x a b))
    (cond (eqb k 4) (go (equation_demands x a b c) (after_equation x))
    (cond (eqb k 5) (go (move_demands l x a b c) (after_move x (pack a b c)))
    (cond (eqb k 6) (demand (end_demands x) over)
    (cond (eqb k 10) (go (live_demands x) (after_live x))
    (cond (eqb k 11) (demand (signed_demands x (signed_of a b c d)) (ask (after_signed x (signed_of a b c d))))
    (no 2)))))))

abbrev pub step_by : (Sofar → Turn State) → Lengths → State → Rec → Turn State
step_by ask l before r = go (sizes_demands l r) (started (sizes_of r))
step_by ask l (inside x) r = step_in ask l x r.kind (field r 0) (field r 1) (field r 2) (field r 3)

-- One record, where chains are asked after the last equation with a sign.
unfoldable pub step : Lengths → State → Rec → Turn State
step l st r = step_by ask_chains l st r

-- What a record says, in front of what the later ones say. States without a label have the empty set.
abbrev pub put_labels : List ℕ → Model → Model
put_labels l m =
    record { sizes = m.sizes; live = m.live; labels = l ++ m.labels; equations = m.equations; moves = m.moves }

abbrev pub put_equation : Equation → Model → Model
put_equation e m =
    record { sizes = m.sizes; live = m.live; labels = m.labels; equations = e ∷ m.equations; moves = m.moves }

abbrev pub put_move : ℕ → Model → Model
put_move q m =
    record { sizes = m.sizes; live = m.live; labels = m.labels; equations = m.equations; moves = q ∷ m.moves }

abbrev pub equation_of : Sofar → ℕ → ℕ → ℕ → Equation
equation_of x o a b = record { operator = o; first = a; second = b; block = x.blocks.count - 1; kind = x.blocks.kind }

abbrev pub say_in : Sofar → ℕ → ℕ → ℕ → ℕ → ℕ → Model → Model
say_in x k a b c d m =
    cond (eqb k 2) (put_labels (replicate (a - x.labels) 0 ++ (b ∷ [])) m)
    (cond (eqb k 3) (put_labels (replicate (x.sizes.states - x.labels) 0) m)
    (cond (eqb k 4) (put_equation (equation_of x a b c) m)
    (cond (eqb k 5) (put_move (pack a b c) m)
    (cond (eqb k 11) (put_labels (replicate (x.sizes.states - x.labels) 0) (put_equation (signed_of a b c d) m))
    m))))

unfoldable pub put : State → Rec → Model → Model
put before r m = m
put (inside x) r m = say_in x r.kind (field r 0) (field r 1) (field r 2) (field r 3) m

abbrev pub last_of : Sizes → ℕ → Model
last_of z n = record { sizes = z; live = n; labels = []; equations = []; moves = [] }

unfoldable pub last : State → Model
last before = last_of (record { states = 0; actions = 0; propositions = 0; variables = 0; blocks = 0 }) 0
last (inside x) = last_of x.sizes x.live

-- The model once all is read: with signs, the components take the place of blocks.
abbrev pub settle_style : Model → Model
settle_style m =
    record {
      sizes = m.sizes;
      live = m.live;
      labels = m.labels;
      equations = cond (signed m.sizes) (placed m.equations) m.equations;
      moves = m.moves;
    }

-- The model that the bytes spell, or the refusal, where the rooms lent have these lengths.
unfoldable pub read_model : Lengths → List ℕ → Outcome Model
read_model l s = onto settle_style (run (step l) put last before (parts s))
