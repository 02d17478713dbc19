-- A table of which the labels play no part: it has none, or none of its states has a proposition. Assumes nothing.
use Rattle.std.specs.Prelude.{◌≡◌, refl, true, List, [], ℕ, zero, suc, ◌^◌, replicate}
use Rattle.std.proofs.lemmas.Nat.{pow_pos}
use Rattle.std.proofs.lemmas.List.{length-replicate}
use Rattle.lists.specs.Lists.{all}
use Rattle.lists.specs.Tests.{and_is, ltb-in, eqb-in}
use Rattle.rules.specs.Model.{label_ok, well_formed}
use Rattle.rules.specs.declared.Sizes.{Sizes}
use Rattle.engine_table.specs.Table.{Table, table_in, Drawn}

-- A table without labels.
abbrev pub sketch : Sizes → List ℕ → List ℕ → Table
sketch z equations moves = table_in z [] equations moves

-- The equations and the moves are, with some labels, those of a model inside the limits.
pub record Sketched (z : Sizes) (equations moves : List ℕ) : Type 0 where
  pub labels : List ℕ
  pub drawn : Drawn (table_in z labels equations moves)

-- A table none of whose states has a proposition.
abbrev pub bare : Sizes → List ℕ → List ℕ → Table
bare z equations moves = table_in z (replicate z.states 0) equations moves

-- A state may have no proposition.
none-ok : (z : Sizes) (n : ℕ) → all (label_ok z) (replicate n 0) ≡ true
unfolding label_ok
none-ok z zero = refl
none-ok z (suc n) = rw (ltb-in 0 (2 ^ z.propositions) (pow_pos z.propositions)) (none-ok z n)

-- With these labels the model is inside the limits where it is with some.
pub bare-drawn : (z : Sizes) (equations moves : List ℕ) → Sketched z equations moves → Drawn (bare z equations moves)
unfolding well_formed
bare-drawn z equations moves s =
    let k = simp and_is at s.drawn.model in
    let long = length-replicate {A = ℕ} z.states 0 in
    record {
      long_labels = long;
      long_equations = s.drawn.long_equations;
      model = simp and_is (((((k.0.0.0.0.0, eqb-in _ _ long), none-ok z z.states), k.0.0.1), k.0.1), k.1);
    }
