-- The equation, the block and the kind of a pair are what the words in the rooms say. Assumes nothing.
use Rattle.std.specs.Prelude.{◌≡◌, refl, ℕ, ◌/◌, ◌%◌, ◌<◌}
use Rattle.std.proofs.Math.Path.{ap}
use Rattle.std.proofs.Common.{◌∙◌, mul-le-mul_right, arith}
use Rattle.std.proofs.Math.ListN.{get_or-map}
use Rattle.std.proofs.Math.Arith.{digits_div, digits_mod}
use Rattle.std.proofs.Math.Dec.{eqb}
use Rattle.systems.specs.machine.Machine.{own}
use Rattle.rules.specs.declared.Equation.{Equation}
use Rattle.rules.specs.Rooms.{pairs_of}
use Rattle.rules.specs.Session.{unword}
use Rattle.rules.specs.Values.{variable, block_of, greatest_in, greatest}
use Rattle.rules.specs.Values as values
use Rattle.rules.specs.declared.Sizes.{Sizes}
use Rattle.words.specs.Words.{waiting_of}
use Rattle.words.specs.WordLaws.{variable-waiting, state-waiting}
use Rattle.laws.specs.chains.OneKind.{greatest-is}
use Rattle.laws.specs.model.ModelSystem.{frame, block-at, Sound, sound}
use Rattle.engine_table.specs.Table.{Table, model_of, Drawn, word_at, own_in, pair_in, waiter}

-- A number of the queue stands for the pair that it was made of.
pub waiter-at : (z : Sizes) (y s : ℕ) → s < 1024 → waiter z (waiting_of y s) ≡ pair_in z y s
waiter-at z y s h = rw (variable-waiting y s h, state-waiting y s h) refl

module _ {t : Table} (d : Drawn t) where
  -- The equation of a variable is what its word says.
  pub formula-word : (x : ℕ) → values.equation_at (model_of t) (variable x) ≡ word_at t x
  formula-word x = get_or-map unword t.equations x 0

  -- The model in the rooms is inside the limits.
  pub drawn-sound : Sound (model_of t)
  drawn-sound = sound (model_of t) d.model

  -- The pair of a variable and a state is a pair.
  pub pair_inside : (x s : ℕ) → x < t.sizes.variables → s < t.sizes.states → pair_in t.sizes x s < pairs_of t.sizes
  pair_inside x s h l = let k = mul-le-mul_right t.sizes.states h in omega arith

  -- The variable and the state of a pair's number.
  pub variable-of : (x s : ℕ) → s < t.sizes.states → pair_in t.sizes x s / t.sizes.states ≡ x
  variable-of x s l = digits_div x l

  pub state-of : (x s : ℕ) → s < t.sizes.states → pair_in t.sizes x s % t.sizes.states ≡ s
  state-of x s l = digits_mod x l

  -- The block of a pair is what its variable's word says.
  pub block-word : (x s : ℕ) → x < t.sizes.variables → s < t.sizes.states → block_of (model_of t) (pair_in t.sizes x s) ≡ (word_at t x).block
  block-word x s h l =
      block-at (model_of t) (pair_in t.sizes x s) (pair_inside x s h l)
      ∙ ap (λ (e : Equation). e.block) (ap (λ (y : ℕ). values.equation_at (model_of t) (variable y)) (variable-of x s l) ∙ formula-word x)

  -- The own value of a pair's block is true where the kind in its variable's word is 1.
  pub own-word : (x s : ℕ) → x < t.sizes.variables → s < t.sizes.states → own (frame (model_of t)) (pair_in t.sizes x s) ≡ own_in t x
  unfolding greatest
  own-word x s h l =
      let m = model_of t in
      let c = drawn-sound.names.count in
      ap (λ (i : ℕ). greatest_in i m.equations) (block-at m (pair_in t.sizes x s) (pair_inside x s h l)
      ∙ ap (λ (y : ℕ). (values.equation_at m (variable y)).block) (variable-of x s l))
      ∙ greatest-is m.equations drawn-sound.kinds x (omega arith)
      ∙ ap (λ (e : Equation). eqb e.kind 1) (formula-word x)
