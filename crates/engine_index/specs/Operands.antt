-- The operands of the equations, chained by the variable that they name. Each variable y has two slots for its operands: 2y + 1
-- for the first operand of an "or" or an "and", and 2y for the second one, or for the variable of a diamond or a box. A slot names
-- a variable only where it lies in y's own block. The word of the last slot that names a variable stands at the variable's own
-- number; past the most of variables each slot has a place for the word of the slot before it that names the same variable.
-- Definitions only.
use Rattle.std.specs.Prelude.{◌≡◌, Bool, true, not, cond, ◌&&◌, List, ℕ, zero, suc, ◌+◌, ◌*◌, ◌/◌, ◌%◌, ◌≤◌, ◌<◌, length, get_or, set, eqb, ltb, leb}
use Rattle.lists.specs.Lists.{bit, listed}
use Rattle.rules.specs.Limits.{most_states, most_actions, most_variables}
use Rattle.rules.specs.declared.Equation.{Equation}
use Rattle.rules.specs.Session.{unword}
use Rattle.rules.specs.declared.Sizes.{Sizes}
use Rattle.engine_table.specs.Table.{Table}
use Rattle.engine_index.specs.Chains.{last_to}

-- The operand of an equation for its slot b, 1 or 0, and whether the equation has it.
abbrev pub operand_at : Equation → ℕ → ℕ
operand_at e b = cond (eqb b 1) e.first e.second

abbrev pub has_operand : Equation → ℕ → Bool
has_operand e b = leb 4 e.operator && cond (eqb b 1) (ltb e.operator 6) true

-- The equation of the slot j.
abbrev pub of_slot : List ℕ → ℕ → Equation
of_slot equations j = unword (get_or equations (j / 2) 0)

-- Does the slot j name a variable of its own block?
abbrev pub is_slot : List ℕ → ℕ → Bool
is_slot equations j =
    has_operand (of_slot equations j) (j % 2)
    && eqb (unword (get_or equations (operand_at (of_slot equations j) (j % 2)) 0)).block (of_slot equations j).block

-- The variable that the slot j names; where it names none, a number that is no variable.
unfoldable pub name_at : List ℕ → ℕ → ℕ
name_at equations j = cond (is_slot equations j) (operand_at (of_slot equations j) (j % 2)) 256

-- The names of all slots.
abbrev pub names_of : List ℕ → List ℕ
names_of equations = listed 0 (2 * length equations) (name_at equations)

-- One more than the last of the first k slots that names x, or 0.
abbrev pub last_named : List ℕ → ℕ → ℕ → ℕ
last_named equations x k = last_to (λ w. w) (names_of equations) x k

-- Is the equation a diamond or a box? And 1 where it is easy: it has its block's own value as soon as one operand has it.
abbrev pub is_step : Equation → Bool
is_step e = not (ltb e.operator 6)

abbrev pub easy_bit : Equation → ℕ
easy_bit e = (e.operator + e.kind) % 2

-- The word of a slot of the variable y, by its equation, from its lowest bit on: the link, 8 bits; 1, with 2 for a diamond or a box
-- and 4 where it is easy, 8 bits; 1,024 times y, the first pair of y, and of a diamond or a box the first head of its action, 16 bits
-- each.
unfoldable pub slot_word : Sizes → Equation → ℕ → ℕ → ℕ
slot_word z e y link =
    link + 256 * (1 + 2 * bit (is_step e) + 4 * easy_bit e) + 67108864 * y + 4294967296 * (y * z.states)
    + 281474976710656 * cond (is_step e) (e.first * z.states) 0

-- What a word holds: the link, whether it is of a diamond or a box and whether it is easy, 1,024 times the variable, the variable, where
-- the variable's pairs begin, and where the heads of the action begin.
abbrev pub link_in : ℕ → ℕ
link_in o = o % 256

abbrev pub step_in : ℕ → Bool
step_in o = eqb (o / 512 % 2) 1

abbrev pub easy_in : ℕ → Bool
easy_in o = eqb (o / 1024 % 2) 1

abbrev pub waits_in : ℕ → ℕ
waits_in o = o / 65536 % 65536

abbrev pub owner_in : ℕ → ℕ
owner_in o = o / 67108864 % 64

abbrev pub row_in : ℕ → ℕ
row_in o = o / 4294967296 % 65536

abbrev pub heads_in : ℕ → ℕ
heads_in o = o / 281474976710656

-- The link of the slot j: its own place where a slot before it names the same variable, else 0.
abbrev pub link_of : List ℕ → ℕ → ℕ
link_of equations j = cond (eqb (last_named equations (name_at equations j) j) 0) 0 (most_variables + j)

-- The word of the slot before k, and 0 before all slots.
unfoldable pub word_before : Sizes → List ℕ → ℕ → ℕ
unfolding slot_word
word_before z equations zero = 0
word_before z equations (suc j) = slot_word z (of_slot equations j) (j / 2) (link_of equations j)

-- The word w comes first in the chain of x, whose first one goes to the place of the slot.
unfoldable pub put_first : ℕ → ℕ → ℕ → List ℕ → List ℕ
put_first x slot w r =
    cond (eqb (get_or r x 0) 0) (set r x w) (set (set r (most_variables + slot) (get_or r x 0)) x (w + (most_variables + slot)))

-- The first k slots are chained, in a room that is long enough for all.
pub record NamedUpTo (z : Sizes) (equations : List ℕ) (k : ℕ) (operand : List ℕ) : Type 0 where
  pub long : most_variables + 2 * length equations ≤ length operand
  pub heads : (x : ℕ) → x < length equations → get_or operand x 0 ≡ word_before z equations (last_named equations x k)
  pub slots : (j : ℕ) → j < k → name_at equations j < length equations → (last_named equations (name_at equations j) j ≡ 0 → ⊥)
      → get_or operand (most_variables + j) 0 ≡ word_before z equations (last_named equations (name_at equations j) j)

-- The operands of all equations are chained.
abbrev pub Named : Table → List ℕ → Type 0
Named t operand = NamedUpTo t.sizes t.equations (2 * length t.equations) operand

-- Equations whose operands can be chained: there are not too many, and what they use are variables, states and actions inside the
-- limits.
pub record Naming (z : Sizes) (equations : List ℕ) : Type 0 where
  pub few : length equations ≤ most_variables
  pub states : z.states ≤ most_states
  pub actions : (y : ℕ) → y < length equations → is_step (unword (get_or equations y 0)) ≡ true → (unword (get_or equations y 0)).first < most_actions
  pub inside : (j : ℕ) → j < 2 * length equations → has_operand (of_slot equations j) (j % 2) ≡ true → operand_at (of_slot equations j) (j % 2) < length equations

-- The slot belongs to y, and `has` says whether y's equation has it; it stands for x.
pub record Slot (equations : List ℕ) (slot x y : ℕ) (has : Bool) : Type 0 where
  pub inside : slot < 2 * length equations
  pub owner : y ≡ slot / 2
  pub told : has ≡ has_operand (of_slot equations slot) (slot % 2)
  pub names : x ≡ operand_at (of_slot equations slot) (slot % 2)

-- The first n entries of a room are 0.
abbrev pub Blank : ℕ → List ℕ → Type 0
Blank n room = (i : ℕ) → i < n → get_or room i 0 ≡ 0
