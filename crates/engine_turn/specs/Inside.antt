-- What stays inside the rooms. Assumes nothing.
use Rattle.std.specs.Prelude.{◌≡◌, refl, Bool, true, false, Option, Some, None, not, ℕ, ◌+◌, ◌*◌, ◌/◌, ◌≤◌, ◌<◌, length, get_or, replicate, ltb}
use Rattle.std.proofs.Common.{sym, ap, ◌∙◌, subst, arith}
use Rattle.std.proofs.Math.Nat.{add-mul-div_right, div-eq_of_lt}
use Rattle.lists.specs.Tests.{not-not, ltb-out, ltb_no}
use Rattle.rules.specs.Moves.{source, action, target}
use Rattle.engine_table.specs.Table.{ReadsAs}
use Rattle.engine_table.specs.Limits.{move-inside}
use Rattle.engine_table.specs.GivesWords.{join_names, step-names}
use Rattle.engine_index.specs.Indexed.{key_of}
use Rattle.engine_own.specs.Looks.{Targets}
use Rattle.engine_turn.specs.declared.view.View.{View}
use Rattle.engine_turn.specs.Scene.{Scene, scene_in, Standing, equation_of, Leaner, Along, AlongBy, HeadOf}

-- Two numbers below n in front of which equal multiples of n stand.
same-multiple : (n a b t u : ℕ) → t < n → u < n → a * n + t ≡ b * n + u → a ≡ b
same-multiple n a b t u h k e =
    let some : 0 < n = omega arith in
    let x = add-mul-div_right t a {z = n} some in
    let y = add-mul-div_right u b {z = n} some in
    let p = div-eq_of_lt h in
    let q = div-eq_of_lt k in
    let f : t + a * n ≡ u + b * n = omega arith in
    let r = ap (λ (m : ℕ). m / n) f in
    omega arith

-- What code looks at is a model inside the limits, and has a value for each pair.
pub standing-in : (v : View) → Standing (scene_in v)
standing-in v = record { labels = replicate v.known.now.sizes.states 0; drawn = v.known.now.drawn; long = v.long }

module _ {c : Scene} (g : Standing c) where
  -- Moves lead to states, and come from states.
  pub targets-inside : Targets c.sizes c.moves
  targets-inside j h = (move-inside g.drawn j h).1.1

  pub source-inside : (j : ℕ) → j < length c.moves → source (get_or c.moves j 0) < c.sizes.states
  source-inside j h = (move-inside g.drawn j h).0

  -- A move of the chain of a head of y is one of y's own at its source.
  pub along-chain : (y head j : ℕ) → HeadOf c y head → j < length c.moves → key_of c.sizes (get_or c.moves j 0) ≡ head → Along c true y (source (get_or c.moves j 0)) j
  along-chain y head j d h e = record {
    told = sym d.step;
    own = λ t. (h, (refl, same-multiple c.sizes.states (action (get_or c.moves j 0)) (equation_of c y).first (target (get_or c.moves j 0)) d.into (targets-inside j h) d.low (e ∙ d.is)));
  }

  -- What `step` says, by the operator.
  pub along-join : {step : Bool} {y s j : ℕ} → Along c step y s j → step ≡ false → (equation_of c y).operator < 6
  along-join {y = y} a e = ltb-out (equation_of c y).operator 6 (sym (not-not (ltb (equation_of c y).operator 6)) ∙ ap not (sym a.told ∙ e))

  pub along-step : {step : Bool} {y s j : ℕ} → Along c step y s j → step ≡ true → 6 ≤ (equation_of c y).operator
  along-step {y = y} a e = (ltb_no (equation_of c y).operator 6).0 (sym (not-not (ltb (equation_of c y).operator 6)) ∙ ap not (sym a.told ∙ e))

  -- A visit along a move is one to a step, and one along none to a join.
  pub along-move : (y s : ℕ) {way : Option ℕ} {j : ℕ} → AlongBy c way y s → way ≡ Some j → Along c true y s j
  along-move y s a e = subst (λ (w : Option ℕ). AlongBy c w y s) e a

  pub along_none : (y s : ℕ) {way : Option ℕ} → AlongBy c way y s → way ≡ None → (equation_of c y).operator < 6
  along_none y s a e = along-join {s = s} (subst (λ (w : Option ℕ). AlongBy c w y s) e a) refl

  module _ {y s : ℕ} (l : Leaner c y s) (o a b i k : ℕ) (r : ReadsAs (equation_of c y) o a b i k) where
    at_least : 4 ≤ o
    at_least = let u = l.uses in let e = r.is_operator in omega arith

    -- A join names two variables, a step an action and a variable.
    pub join-inside : o < 6 → (a < c.sizes.variables) × (b < c.sizes.variables)
    join-inside h = join_names g.drawn y s l.variable l.state o a b i k r at_least h

    pub step-inside : 6 ≤ o → (a < c.sizes.actions) × ((a < 64) × (b < c.sizes.variables))
    step-inside h = step-names g.drawn y s l.variable l.state o a b i k r h
