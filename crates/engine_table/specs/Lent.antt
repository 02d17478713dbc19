-- The model that lies in lent rooms, which may be longer than it; when it is one that a load accepts; and the same cut to its length.
-- Assumes nothing.
use Rattle.std.specs.Prelude.{◌≡◌, List, map, ℕ, ◌*◌, ◌/◌, ◌%◌, ◌≤◌, ◌<◌, length, get_or, take, eqb}
use Rattle.std.proofs.Common.{ap, sym, ◌∙◌, mod-lt, div-lt_iff_lt-mul, arith, length-take-le, get_or-take}
use Rattle.std.proofs.Math.Nat.{mod-add-div'}
use Rattle.systems.specs.machine.Machine.{own}
use Rattle.rules.specs.Limits.{most_states, most_variables}
use Rattle.rules.specs.Model.{Model, WellFormed}
use Rattle.rules.specs.Rooms.{pairs_of}
use Rattle.rules.specs.Session.{unword}
use Rattle.rules.specs.declared.Sizes.{Sizes}
use Rattle.laws.specs.model.ModelSystem.{frame, Sound, sound}
use Rattle.engine_table.specs.Table as T
use Rattle.engine_table.specs.Table.{Table, table_in, pair_in}
use Rattle.engine_table.specs.EquationWords.{own-word}
use Rattle.engine_table.specs.Limits as L

-- The model that the sizes and the move count cut out of the rooms. Whether it is live plays no part in its values.
abbrev pub table_of : Sizes → List ℕ → List ℕ → List ℕ → ℕ → Model
table_of z labels equations moves n =
    record { sizes = z; live = 0; labels = take z.states labels; equations = map unword (take z.variables equations); moves = take n moves }

-- The rooms are long enough, and what is cut out of them is inside the limits.
pub record Drawn (z : Sizes) (labels equations moves : List ℕ) (n : ℕ) : Type 0 where
  pub long_labels : z.states ≤ length labels
  pub long_equations : z.variables ≤ length equations
  pub long_moves : n ≤ length moves
  pub model : WellFormed (table_of z labels equations moves n)

-- The rooms cut to their lengths.
abbrev pub cut_to : Sizes → List ℕ → List ℕ → List ℕ → ℕ → Table
cut_to z labels equations moves n = table_in z (take z.states labels) (take z.variables equations) (take n moves)

-- The kind of a pair's block, as the word of its variable says.
abbrev pub kind_in : Sizes → List ℕ → ℕ → ℕ
kind_in z equations p = (unword (get_or equations (p / z.states) 0)).kind

module _ (z : Sizes) (labels equations moves : List ℕ) (n : ℕ) (d : Drawn z labels equations moves n) where
  -- What is cut out is a model in rooms of its length.
  pub drawn-cut : T.Drawn (cut_to z labels equations moves n)
  drawn-cut = record {
    long_labels = length-take-le z.states labels d.long_labels;
    long_equations = length-take-le z.variables equations d.long_equations;
    model = d.model;
  }

  -- The model in the rooms is inside the limits.
  pub drawn-sound : Sound (table_of z labels equations moves n)
  drawn-sound = sound (table_of z labels equations moves n) d.model

  -- There are at most as many pairs as the most of variables and states give.
  pub pairs-few : pairs_of z ≤ most_variables * most_states
  pairs-few = L.pairs-few drawn-cut

  -- The own value of a pair's block is true where the kind in its variable's word is 1.
  pub own-kind : (p : ℕ) → p < pairs_of z → own (frame (table_of z labels equations moves n)) p ≡ eqb (kind_in z equations p) 1
  own-kind p h =
      let some = drawn-sound.some in
      let x = p / z.states in
      let s = p % z.states in
      let lt = (div-lt_iff_lt-mul some).1 h in
      let e : pair_in z x s ≡ p = let k = mod-add-div' p z.states in omega arith in
      ap (own (frame (table_of z labels equations moves n))) (sym e) ∙ own-word drawn-cut x s lt (mod-lt p some)
      ∙ ap (λ (w : ℕ). eqb (unword w).kind 1) (get_or-take z.variables equations x 0 lt)
