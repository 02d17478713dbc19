-- The one spelling of a model: the sizes, whether it is live, labels by ascending state, each block with its equations or each
-- equation with its sign, moves, the end. Definitions only.
use Rattle.std.specs.Prelude.{cond, List, [], ◌∷◌, ◌++◌, ℕ, zero, suc, eqb}
use Rattle.rules.specs.Moves.{source, action, target}
use Rattle.rules.specs.Model.{Model, run_of, signed}
use Rattle.rules.specs.declared.Equation.{Equation}
use Rattle.rules.specs.Records.{Rec, bytes_of}
use Rattle.rules.specs.declared.Sizes.{Sizes}

abbrev pub sizes_rec : Sizes → Rec
sizes_rec z = record { kind = 1; body = z.states ∷ z.actions ∷ z.propositions ∷ z.variables ∷ z.blocks ∷ [] }

-- The record that says that the model is live, where it is.
abbrev pub live_rec : Rec
live_rec = record { kind = 10; body = [] }

abbrev pub live_recs : ℕ → List Rec
live_recs n = cond (eqb n 1) (live_rec ∷ []) []

-- The labels from state s on. A state with the empty set has no record.
abbrev pub label_recs : ℕ → List ℕ → List Rec
label_recs s [] = []
label_recs s (zero ∷ l) = label_recs (suc s) l
label_recs s (suc v ∷ l) = record { kind = 2; body = s ∷ suc v ∷ [] } ∷ label_recs (suc s) l

abbrev pub block_rec : ℕ → ℕ → Rec
block_rec k n = record { kind = 3; body = k ∷ n ∷ [] }

abbrev pub equation_rec : Equation → Rec
equation_rec e = record { kind = 4; body = e.operator ∷ e.first ∷ e.second ∷ [] }

-- Equations in blocks, where b block records stand before.
abbrev pub equation_recs : ℕ → List Equation → List Rec
equation_recs b [] = []
equation_recs b (e ∷ l) =
    cond (eqb (suc e.block) b) (equation_rec e ∷ equation_recs b l)
    (block_rec e.kind (suc (run_of (suc e.block) l)) ∷ equation_rec e ∷ equation_recs (suc e.block) l)

-- Equations with signs.
abbrev pub signed_rec : Equation → Rec
signed_rec e = record { kind = 11; body = e.kind ∷ e.operator ∷ e.first ∷ e.second ∷ [] }

abbrev pub signed_recs : List Equation → List Rec
signed_recs [] = []
signed_recs (e ∷ l) = signed_rec e ∷ signed_recs l

-- Equations in the style that the sizes tell.
abbrev pub style_recs : Sizes → List Equation → List Rec
style_recs z es = cond (signed z) (signed_recs es) (equation_recs 0 es)

abbrev pub move_rec : ℕ → Rec
move_rec q = record { kind = 5; body = source q ∷ action q ∷ target q ∷ [] }

abbrev pub end_rec : Rec
end_rec = record { kind = 6; body = [] }

abbrev pub move_recs : List ℕ → List Rec
move_recs [] = end_rec ∷ []
move_recs (q ∷ l) = move_rec q ∷ move_recs l

-- The records of a model.
unfoldable pub records : Model → List Rec
records m =
    sizes_rec m.sizes
    ∷ (live_recs m.live ++ (label_recs 0 m.labels ++ (style_recs m.sizes m.equations ++ move_recs m.moves)))

-- The bytes of a model.
abbrev pub encode : Model → List ℕ
encode m = bytes_of (records m)
