-- The model that code holds, and what an update of it leaves in rooms that may be longer. Assumes nothing.
use Rattle.std.specs.Prelude.{◌≡◌, List, ℕ, ◌≤◌, length}
use Rattle.std.proofs.Common.{sym, ap, subst, arith, length-take-le}
use Rattle.rules.specs.Batch.{Change}
use Rattle.rules.specs.Model.{Model}
use Rattle.rules.specs.Rooms.{index_needs, queue_needs, index_after, queue_after}
use Rattle.rules.specs.declared.Sizes.{Sizes}
use Rattle.engine_table.specs.Table.{Table, table_in, model_of}
use Rattle.engine_table.specs.Lent.{table_of}
use Rattle.engine.specs.declared.held.Held.{Held}
use Rattle.engine.specs.declared.Turns.{Turns}
use Rattle.engine.specs.Updates.{MovedIn}

-- Its table, and the model of that.
abbrev pub held_in : Held → Table
held_in h = table_in h.sizes h.labels.now h.equations.now h.moves.now

abbrev pub model_in : Held → Model
model_in h = model_of (held_in h)

-- An update of a model moves values and marks, and leaves the rooms to work in cleared.
abbrev pub LeadsTo : Model → ℕ → List Change → List ℕ → List ℕ → List ℕ → List ℕ → List ℕ → List ℕ → List ℕ → List ℕ → Turns → Type 0
LeadsTo m room cs values₀ marks₀ index₀ queue₀ values marks index queue r =
    MovedIn m cs values₀ marks₀ values marks r.visits.shift r.visits.settle r.level
    × ((index ≡ index_after m.sizes room index₀) × (queue ≡ queue_after m.sizes queue₀))

-- The same of the model that lies in lent rooms.
abbrev pub Leads : Sizes → List ℕ → List ℕ → List ℕ → ℕ → List Change → List ℕ → List ℕ → List ℕ → List ℕ → List ℕ → List ℕ → List ℕ → List ℕ → Turns → Type 0
Leads z labels equations moves n cs values₀ marks₀ index₀ queue₀ values marks index queue r =
    LeadsTo (table_of z labels equations moves n) (length moves) cs values₀ marks₀ index₀ queue₀ values marks index queue r

module _ (h : Held) (z : Sizes) (labels equations moves : List ℕ) (n : ℕ) (is : model_in h ≡ table_of z labels equations moves n) where
  -- Where code holds that model, what it does is done to that.
  pub leads_by : (cs : List Change) (values₀ marks₀ index₀ queue₀ values marks index queue : List ℕ) (r : Turns)
      → LeadsTo (model_in h) (length moves) cs values₀ marks₀ index₀ queue₀ values marks index queue r
      → Leads z labels equations moves n cs values₀ marks₀ index₀ queue₀ values marks index queue r
  leads_by cs values₀ marks₀ index₀ queue₀ values marks index queue r d =
      subst (λ (m : Model). LeadsTo m (length moves) cs values₀ marks₀ index₀ queue₀ values marks index queue r) is d

  -- The rooms to work in are long enough for it.
  pub rooms_fit : (index queue : List ℕ) → n ≤ length moves → (index_needs z (length moves) ≤ length index) × (queue_needs z ≤ length queue)
      → (length h.moves.now ≤ length moves) × ((index_needs h.sizes (length moves) ≤ length index) × (queue_needs h.sizes ≤ length queue))
  rooms_fit index queue l fit =
      let e = ap (λ (m : Model). length m.moves) is in
      let k = length-take-le n moves l in (
        omega arith,
        subst (λ (y : Sizes). (index_needs y (length moves) ≤ length index) × (queue_needs y ≤ length queue)) (sym (ap (λ (m : Model). m.sizes) is)) fit,
      )
