-- A model as it lies in rooms that are cut to their lengths, and when it is one that a load accepts. Assumes nothing.
use Rattle.std.specs.Prelude.{◌≡◌, Bool, not, List, map, ℕ, ◌+◌, ◌*◌, length, get_or, eqb}
use Rattle.std.proofs.Common.{ap}
use Rattle.lists.specs.Lists.{is}
use Rattle.rules.specs.Moves.{target}
use Rattle.rules.specs.Model.{Model, WellFormed}
use Rattle.rules.specs.declared.Equation.{Equation}
use Rattle.rules.specs.Session.{unword}
use Rattle.rules.specs.Calls.{value_at}
use Rattle.rules.specs.declared.Sizes.{Sizes}
use Rattle.words.specs.Words.{variable_in, state_in}

-- The sizes, and the words of the labels, the equations and the moves.
pub record Table : Type 0 where
  pub sizes : Sizes
  pub labels : List ℕ
  pub equations : List ℕ
  pub moves : List ℕ

-- The same, from the rooms that code has at hand.
abbrev pub table_in : Sizes → List ℕ → List ℕ → List ℕ → Table
table_in z labels equations moves = record { sizes = z; labels = labels; equations = equations; moves = moves }

-- The model that it is. Whether it is live plays no part in its values.
abbrev pub model_of : Table → Model
model_of t = record { sizes = t.sizes; live = 0; labels = t.labels; equations = map unword t.equations; moves = t.moves }

-- The rooms are as long as the sizes say, and hold a model inside the limits.
pub record Drawn (t : Table) : Type 0 where
  pub long_labels : length t.labels ≡ t.sizes.states
  pub long_equations : length t.equations ≡ t.sizes.variables
  pub model : WellFormed (model_of t)

-- The five numbers are those of the equation.
pub record ReadsAs (e : Equation) (operator first second block kind : ℕ) : Type 0 where
  pub is_operator : operator ≡ e.operator
  pub is_first : first ≡ e.first
  pub is_second : second ≡ e.second
  pub is_block : block ≡ e.block
  pub is_kind : kind ≡ e.kind

-- An equation reads as one that it is.
pub reads_as : {e f : Equation} → e ≡ f → ReadsAs f e.operator e.first e.second e.block e.kind
reads_as h = record {
  is_operator = ap (λ (x : Equation). x.operator) h;
  is_first = ap (λ (x : Equation). x.first) h;
  is_second = ap (λ (x : Equation). x.second) h;
  is_block = ap (λ (x : Equation). x.block) h;
  is_kind = ap (λ (x : Equation). x.kind) h;
}

-- The equation of the variable x, as its word says.
abbrev pub word_at : Table → ℕ → Equation
word_at t x = unword (get_or t.equations x 0)

-- Is the block of the variable x greatest, as its word says? That is the block's own value.
abbrev pub own_in : Table → ℕ → Bool
own_in t x = eqb (word_at t x).kind 1

-- The pair of the variable x and the state s.
abbrev pub pair_in : Sizes → ℕ → ℕ → ℕ
pair_in z x s = x * z.states + s

-- Does the move q lead to a pair of the variable x whose value is not b?
unfoldable pub leads_to : Sizes → List ℕ → ℕ → Bool → ℕ → Bool
leads_to z values x b q = is (not b) (value_at values (x * z.states + target q))

-- The pair that a number of the queue stands for.
abbrev pub waiter : Sizes → ℕ → ℕ
waiter z w = pair_in z (variable_in w) (state_in w)
