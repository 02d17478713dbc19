-- What the limits say of a model that lies in lent rooms. Assumes nothing.
use Rattle.std.specs.Prelude.{◌≡◌, true, List, [], ◌∷◌, ℕ, zero, suc, ◌≤◌, ◌<◌, ◌*◌, length, get_or}
use Rattle.std.proofs.Common.{mul-le-mul_right, not-suc-le-zero, le_of_suc-le-suc}
use native.Mathlib.Omega.{arith}
use Rattle.lists.specs.Tests.{tests, and_is}
use Rattle.rules.specs.Limits.{most_states, most_actions, most_variables, most_moves}
use Rattle.rules.specs.Moves.{source, action, target}
use Rattle.rules.specs.Model.{move_ok, moves_ok, well_formed}
use Rattle.rules.specs.Rooms.{pairs_of}
use Rattle.rules.specs.declared.Sizes.{Sizes}
use Rattle.laws.specs.bytes.Walks.{small}
use Rattle.engine_table.specs.Table.{Table, Drawn}

-- Each move of an ascending list inside the limits is inside them.
pub move-at : (z : Sizes) (least : ℕ) (l : List ℕ) (j : ℕ) → moves_ok z least l ≡ true → j < length l
    → move_ok z (source (get_or l j 0)) (action (get_or l j 0)) (target (get_or l j 0)) ≡ true
move-at z least [] j h k = absurd (not-suc-le-zero k)
move-at z least (q ∷ l) zero h k = (simp and_is at h).0.1
move-at z least (q ∷ l) (suc j) h k = move-at z (suc q) l j (simp and_is at h).1 (le_of_suc-le-suc k)

module _ {t : Table} (d : Drawn t) where
  -- The counts of states, actions, variables and moves.
  pub limits : ((1 ≤ t.sizes.states) × (t.sizes.states ≤ most_states)) × ((t.sizes.actions ≤ most_actions)
      × ((t.sizes.variables ≤ most_variables) × (length t.moves ≤ most_moves)))
  unfolding well_formed
  limits =
      let k = simp tests at d.model in
      let b = small t.sizes (simp and_is at d.model).0.0.0.0.0 in
      omega arith

  -- There are at most as many pairs as the most of variables and states give.
  pub pairs-few : pairs_of t.sizes ≤ most_variables * most_states
  pairs-few =
      let b = limits in
      let p = mul-le-mul_right {m = t.sizes.variables} {n = most_variables} t.sizes.states (omega arith) in
      omega arith

  -- Moves lead from states to states, by actions.
  pub move-inside : (j : ℕ) → j < length t.moves
      → (source (get_or t.moves j 0) < t.sizes.states) × ((action (get_or t.moves j 0) < t.sizes.actions) × (target (get_or t.moves j 0) < t.sizes.states))
  unfolding well_formed move_ok
  move-inside j h =
      let o = move-at t.sizes 0 t.moves j (simp and_is at d.model).0.1 h in
      let k = simp tests at o in
      (omega arith, (omega arith, omega arith))
