-- What is told of a row while its block shifts, from what its equation seeds. Assumes nothing.
use Rattle.std.specs.Prelude.{◌≡◌, Bool, true, false, not, List, ℕ, ◌+◌, ◌*◌, ◌≤◌, ◌<◌, length, eqb}
use Rattle.std.proofs.Common.{mul-le-mul_right, arith}
use Rattle.lists.specs.Lists.{is}
use Rattle.systems.specs.lists.ListMachine.{marks_in}
use Rattle.rules.specs.Rooms.{pairs_of}
use Rattle.rules.specs.Batch.{changes_ok}
use Rattle.rules.specs.Calls.{value_at}
use Rattle.rules.specs.declared.Sizes.{Sizes}
use Rattle.laws.specs.model.LookTest.{look_test}
use Rattle.words.specs.Words.{changes_of}
use Rattle.engine_table.specs.Table.{Table, model_of, Drawn, ReadsAs, word_at, own_in, pair_in}
use Rattle.engine_table.specs.GivesWords.{join_names, step-names}
use Rattle.engine_table.specs.Limits.{limits}
use Rattle.engine_rows.specs.Rooms.{Bits, Tells, Told}
use Rattle.engine_shift.specs.Seeds.{join_seeds, step_seeds, Shows}
use Rattle.engine_shift.specs.SeedWords.{look-low, look-join, look-step}
use Rattle.engine_shift.specs.RowSeeds.{tells-shown, tells_none}

-- `bad` and the answer r tell which pairs of the row of y seed the shift that the changes start.
abbrev pub TellsShift : Table → List ℕ → List ℕ → List ℕ → ℕ → List ℕ → Bool → Type 0
TellsShift t changes values marks y bad r =
    Tells t.sizes.states (not (own_in t y)) values (y * t.sizes.states)
    (λ s. look_test (model_of t) (changes_of changes) false (value_at values) (marks_in marks) (pair_in t.sizes y s)) bad r

-- The row of a variable lies among the pairs.
row_in : (z : Sizes) (x : ℕ) → x < z.variables → x * z.states + z.states ≤ pairs_of z
row_in z x h = let k = mul-le-mul_right z.states h in omega arith

module _ {t : Table} (d : Drawn t) (y : ℕ) (h : y < t.sizes.variables) (o a b i k : ℕ) (r : ReadsAs (word_at t y) o a b i k) where
  some : 0 < t.sizes.states
  some = (limits d).0.0

  -- The rows that an "or" or an "and" names, and the action and the row that a diamond or a box names.
  pub join-rows : 4 ≤ o → o < 6 → ((a < t.sizes.variables) × (b < t.sizes.variables))
      × ((a * t.sizes.states + t.sizes.states ≤ pairs_of t.sizes) × (b * t.sizes.states + t.sizes.states ≤ pairs_of t.sizes))
  join-rows e f = let n = join_names d y 0 h some o a b i k r e f in (n, (row_in t.sizes a n.0, row_in t.sizes b n.1))

  pub step-rows : 6 ≤ o → ((a < t.sizes.actions) × (b < t.sizes.variables)) × (b * t.sizes.states + t.sizes.states ≤ pairs_of t.sizes)
  step-rows e = let n = step-names d y 0 h some o a b i k r e in ((n.0, n.1.1), row_in t.sizes b n.1.1)

  module _ (changes values marks : List ℕ) (bits : Bits values) (told : Told t values marks y) (bad : List ℕ) where
    -- A constant or a proposition.
    pub tells-low : o < 4 → length bad ≡ t.sizes.states → TellsShift t changes values marks y bad false
    tells-low e l =
        tells_none t.sizes.states (not (own_in t y)) values (y * t.sizes.states)
        (λ s. look_test (model_of t) (changes_of changes) false (value_at values) (marks_in marks) (pair_in t.sizes y s)) bad l
        (λ s g. look-low d y s h g o a b i k r values marks changes bits told e)

    -- An "or" or an "and".
    pub tells-join : (x : Bool) → 4 ≤ o → o < 6 → Shows t.sizes.states (join_seeds t.sizes t.equations values marks a b i k) bad x → TellsShift t changes values marks y bad x
    tells-join x e f =
        tells-shown t.sizes.states (not (own_in t y)) values (y * t.sizes.states)
        (λ s. look_test (model_of t) (changes_of changes) false (value_at values) (marks_in marks) (pair_in t.sizes y s)) (join_seeds t.sizes t.equations values marks a b i k) bad x
        (λ s g. look-join d y s h g o a b i k r values marks changes bits told e f)

    -- A diamond or a box.
    pub tells-step : (x : Bool) → 6 ≤ o → changes_ok t.sizes (changes_of changes) ≡ true
        → Shows t.sizes.states (step_seeds t.sizes t.equations t.moves changes values marks (is (not (eqb k 1)) (eqb o 7)) a b i k) bad x → TellsShift t changes values marks y bad x
    tells-step x e ok =
        tells-shown t.sizes.states (not (own_in t y)) values (y * t.sizes.states)
        (λ s. look_test (model_of t) (changes_of changes) false (value_at values) (marks_in marks) (pair_in t.sizes y s))
        (step_seeds t.sizes t.equations t.moves changes values marks (is (not (eqb k 1)) (eqb o 7)) a b i k) bad x
        (λ s g. look-step d y s h g o a b i k r values marks changes bits told e ok)
