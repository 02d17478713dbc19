-- Whether a pair must turn, by the own value of its block, its value and what its equation gives. Assumes nothing.
use Rattle.std.specs.Prelude.{◌≡◌, refl, Bool, true, false, not, ◌&&◌, List, ℕ, ◌<◌}
use Rattle.std.proofs.Common.{sym, ◌∙◌}
use Rattle.std.proofs.Math.Path.{ap}
use Rattle.lists.specs.Lists.{is}
use Rattle.systems.specs.solution.System.{eval}
use Rattle.systems.specs.machine.Machine as machine
use Rattle.rules.specs.Calls.{value_at}
use Rattle.rules.specs.Values.{leanings, gives}
use Rattle.laws.specs.model.ModelSystem.{frame, gives-eval}
use Rattle.engine_table.specs.Table.{Table, model_of, Drawn, own_in, pair_in}
use Rattle.engine_table.specs.EquationWords.{own-word, pair_inside}

-- A truth value that is not the other one is this one.
pub is-both : (b x : Bool) → is b x ≡ not (is (not b) x)
is-both true true = refl
is-both true false = refl
is-both false x = refl

module _ {t : Table} (d : Drawn t) (x s : ℕ) (h : x < t.sizes.variables) (l : s < t.sizes.states) (values : List ℕ) where
  -- While shifting: the pair has not its block's own value.
  pub asks-shift : machine.asks (frame (model_of t)) (leanings (model_of t)) false (value_at values) (pair_in t.sizes x s)
      ≡ is (not (own_in t x)) (value_at values (pair_in t.sizes x s))
  unfolding machine.asks
  asks-shift = ap (λ (b : Bool). is (not b) (value_at values (pair_in t.sizes x s))) (own-word d x s h l)

  -- While settling: the pair has it, and its equation gives the other.
  pub asks-settle : machine.asks (frame (model_of t)) (leanings (model_of t)) true (value_at values) (pair_in t.sizes x s)
      ≡ (is (own_in t x) (value_at values (pair_in t.sizes x s)) && is (not (own_in t x)) (gives (model_of t) (value_at values) (pair_in t.sizes x s)))
  unfolding machine.asks
  asks-settle =
      let m = model_of t in
      let v = value_at values in
      let p = pair_in t.sizes x s in
      ap (λ (b : Bool). is b (v p) && is (not b) (eval (frame m) (leanings m) v p)) (own-word d x s h l)
      ∙ ap (λ (g : Bool). is (own_in t x) (v p) && is (not (own_in t x)) g) (sym (gives-eval m v p (pair_inside d x s h l)))
