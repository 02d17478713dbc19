-- What the equation of a pair gives, by the operator in its word. Assumes nothing.
use Rattle.std.specs.Prelude.{◌≡◌, refl, Bool, true, false, not, cond, ◌&&◌, ◌||◌, List, [], ◌∷◌, map, ℕ, suc, ◌+◌, ◌*◌, ◌%◌, ◌≤◌, ◌<◌, eqb, ltb}
use Rattle.std.proofs.Common.{sym, ◌∙◌, subst, inl, inr}
use Rattle.std.proofs.Math.Path.{ap}
use native.Mathlib.Omega.{arith}
use Rattle.std.proofs.Math.ListN.{get_or}
use Rattle.lists.specs.Lists.{is, any, all}
use Rattle.lists.specs.Tests.{tests, tell, and_is, ltb_no, ltb-is, eqb-out, eqb_no}
use Rattle.rules.specs.Moves.{target}
use Rattle.rules.specs.Model.{Model, operands_ok, well_formed}
use Rattle.rules.specs.declared.Equation.{Equation}
use Rattle.rules.specs.Calls.{value_at}
use Rattle.rules.specs.Values.{Values, constant, state, variable, terms, term_of, equation_at, term_at, holds, targets, gives_by, gives}
use Rattle.rules.specs.declared.Sizes.{Sizes}
use Rattle.rules.specs.declared.State.{State}
use Rattle.laws.specs.bytes.Walks.{small}
use Rattle.engine_table.specs.Table.{Table, model_of, Drawn, ReadsAs, word_at, pair_in, leads_to}
use Rattle.engine_table.specs.Part.{own_moves, part-targets}
use Rattle.engine_table.specs.EquationWords.{formula-word, drawn-sound, variable-of, state-of}

-- A number with only two ways to be.
pub two : (P : ℕ → Type 0) (k o : ℕ) → k ≤ o → o < suc (suc k) → P k → P (suc k) → P o
two P k o h l x y =
    elim (tell true (eqb o k)) [
      | inl t ↦ subst P (sym (eqb-out o k t)) x
      | inr t ↦ let n = (eqb_no o k).0 t in let e : o ≡ suc k = omega (arith, n) in subst P (sym e) y
    ]

-- What each operator gives.
by-constant : (m : Model) (v : Values) (s : State) (a b o : ℕ) → o < 2 → gives_by m v s (get_or (terms a b) o (constant false)) ≡ eqb o 1
by-constant m v s a b o h = two (λ o. gives_by m v s (get_or (terms a b) o (constant false)) ≡ eqb o 1) 0 o (omega arith) h refl refl

by-proposition : (m : Model) (v : Values) (s : State) (a b o : ℕ) → 2 ≤ o → o < 4
    → gives_by m v s (get_or (terms a b) o (constant false)) ≡ is (not (eqb o 3)) (holds m.labels s a)
by-proposition m v s a b o h k =
    two (λ o. gives_by m v s (get_or (terms a b) o (constant false)) ≡ is (not (eqb o 3)) (holds m.labels s a)) 2 o h k refl refl

by-join : (m : Model) (v : Values) (s : State) (a b o : ℕ) → 4 ≤ o → o < 6
    → gives_by m v s (get_or (terms a b) o (constant false))
    ≡ cond (eqb o 5) (v (a * m.sizes.states + s.0) && v (b * m.sizes.states + s.0)) (v (a * m.sizes.states + s.0) || v (b * m.sizes.states + s.0))
by-join m v s a b o h k =
    two (λ o. gives_by m v s (get_or (terms a b) o (constant false))
    ≡ cond (eqb o 5) (v (a * m.sizes.states + s.0) && v (b * m.sizes.states + s.0)) (v (a * m.sizes.states + s.0) || v (b * m.sizes.states + s.0)))
    4 o h k refl refl

some-leads : (z : Sizes) (values : List ℕ) (x : ℕ) (l : List ℕ) → any (λ t. value_at values (x * z.states + t)) (map target l) ≡ any (leads_to z values x false) l
unfolding leads_to
some-leads z values x [] = refl
some-leads z values x (q ∷ l) = ap (λ (b : Bool). value_at values (x * z.states + target q) || b) (some-leads z values x l)

both : (a r s : Bool) → r ≡ not s → (a && r) ≡ not (not a || s)
both true r s e = e
both false r s e = refl

none-leads : (z : Sizes) (values : List ℕ) (x : ℕ) (l : List ℕ) → all (λ t. value_at values (x * z.states + t)) (map target l) ≡ not (any (leads_to z values x true) l)
unfolding leads_to
none-leads z values x [] = refl
none-leads z values x (q ∷ l) = both (value_at values (x * z.states + target q)) (all (λ t. value_at values (x * z.states + t)) (map target l)) (any (leads_to z values x true) l) (none-leads z values x l)

by-step : (m : Model) (values : List ℕ) (s : State) (a b o : ℕ) (l : List ℕ) → targets s (record { 0 = a }) m.moves ≡ map target l → 6 ≤ o → o < 8
    → gives_by m (value_at values) s (get_or (terms a b) o (constant false)) ≡ is (not (eqb o 7)) (any (leads_to m.sizes values b (eqb o 7)) l)
by-step m values s a b o l e h k =
    two (λ o. gives_by m (value_at values) s (get_or (terms a b) o (constant false)) ≡ is (not (eqb o 7)) (any (leads_to m.sizes values b (eqb o 7)) l)) 6 o h k
    (ap (any (λ t. value_at values (b * m.sizes.states + t))) e ∙ some-leads m.sizes values b l)
    (ap (all (λ t. value_at values (b * m.sizes.states + t))) e ∙ none-leads m.sizes values b l)

from-four : (z : Sizes) (o a b : ℕ) → operands_ok z o a b ≡ true → 4 ≤ o → o < 6 → (a < z.variables) × (b < z.variables)
unfolding operands_ok
from-four z o a b h k l = simp tests at (rw ((ltb_no o 2).1 (omega arith), (ltb_no o 4).1 k, (ltb-is o 6).1 l) at h)

from-six : (z : Sizes) (o a b : ℕ) → operands_ok z o a b ≡ true → 6 ≤ o → ((o < 8) × (a < z.actions)) × (b < z.variables)
unfolding operands_ok
from-six z o a b h k = simp tests at (rw ((ltb_no o 2).1 (omega arith), (ltb_no o 4).1 (omega arith), (ltb_no o 6).1 k) at h)

below-eight : (z : Sizes) (o a b : ℕ) → operands_ok z o a b ≡ true → o < 8
unfolding operands_ok
below-eight z o a b h =
    elim (tell true (ltb o 6)) [
      | inl w ↦ let u = (ltb-is o 6).0 w in omega arith
      | inr w ↦ (from-six z o a b h ((ltb_no o 6).0 w)).0.0
    ]

-- The pair of the variable x and the state s, and the numbers that were read out of the variable's word.
module _ {t : Table} (d : Drawn t) (x s : ℕ) (h : x < t.sizes.variables) (l : s < t.sizes.states)
    (o a b i k : ℕ) (r : ReadsAs (word_at t x) o a b i k) where
  -- The term of the pair.
  pub term-read : term_at (model_of t) (pair_in t.sizes x s) ≡ get_or (terms a b) o (constant false)
  unfolding term_at
  term-read =
      let w = word_at t x in
      ap (λ (y : ℕ). term_of (equation_at (model_of t) (variable y))) (variable-of d x s l) ∙ ap term_of (formula-word d x)
      ∙ ap (λ (y : ℕ). get_or (terms w.first w.second) y (constant false)) (sym r.is_operator)
      ∙ ap (λ (y : ℕ). get_or (terms y w.second) o (constant false)) (sym r.is_first)
      ∙ ap (λ (y : ℕ). get_or (terms a y) o (constant false)) (sym r.is_second)

  pub operands-read : operands_ok t.sizes o a b ≡ true
  operands-read =
      let ok = drawn-sound d in
      let c = ok.names.count in
      let e = subst (λ (e : Equation). operands_ok t.sizes e.operator e.first e.second ≡ true) (formula-word d x) (ok.names.operands x (omega arith)) in
      rw (r.is_operator, r.is_first, r.is_second) e

  -- Operators are below 8.
  pub operator-below : o < 8
  operator-below = below-eight t.sizes o a b operands-read

  -- "Or" and "and" name two variables.
  pub join_names : 4 ≤ o → o < 6 → (a < t.sizes.variables) × (b < t.sizes.variables)
  join_names f g = from-four t.sizes o a b operands-read f g

  -- A diamond or a box names an action and a variable.
  pub step-names : 6 ≤ o → (a < t.sizes.actions) × ((a < 64) × (b < t.sizes.variables))
  unfolding well_formed
  step-names g =
      let f = from-six t.sizes o a b operands-read g in
      let q = small t.sizes (simp and_is at d.model).0.0.0.0.0 in
      (f.0.1, (omega arith, f.1))

  -- The targets of the state's moves with the action, as they stand.
  pub targets-read : 6 ≤ o → targets (state s) (record { 0 = a }) t.moves ≡ map target (own_moves s a t.moves)
  targets-read g = part-targets t.sizes s a (step-names g).1.0 t.moves (drawn-sound d).moves

  given : (v : Values) → gives (model_of t) v (pair_in t.sizes x s) ≡ gives_by (model_of t) v (state s) (get_or (terms a b) o (constant false))
  unfolding gives
  given v =
      ap (gives_by (model_of t) v (state (pair_in t.sizes x s % t.sizes.states))) term-read
      ∙ ap (λ (y : ℕ). gives_by (model_of t) v (state y) (get_or (terms a b) o (constant false))) (state-of d x s l)

  -- What the pair's equation gives: a constant, a proposition, an "or" or an "and", a diamond or a box.
  pub gives-constant : (v : Values) → o < 2 → gives (model_of t) v (pair_in t.sizes x s) ≡ eqb o 1
  gives-constant v g = given v ∙ by-constant (model_of t) v (state s) a b o g

  pub gives-proposition : (v : Values) → 2 ≤ o → o < 4 → gives (model_of t) v (pair_in t.sizes x s) ≡ is (not (eqb o 3)) (holds t.labels (state s) a)
  gives-proposition v f g = given v ∙ by-proposition (model_of t) v (state s) a b o f g

  pub gives-join : (v : Values) → 4 ≤ o → o < 6
      → gives (model_of t) v (pair_in t.sizes x s)
      ≡ cond (eqb o 5) (v (pair_in t.sizes a s) && v (pair_in t.sizes b s)) (v (pair_in t.sizes a s) || v (pair_in t.sizes b s))
  gives-join v f g = given v ∙ by-join (model_of t) v (state s) a b o f g

  pub gives-step : (values : List ℕ) → 6 ≤ o
      → gives (model_of t) (value_at values) (pair_in t.sizes x s)
      ≡ is (not (eqb o 7)) (any (leads_to t.sizes values b (eqb o 7)) (own_moves s a t.moves))
  gives-step values g =
      given (value_at values)
      ∙ by-step (model_of t) values (state s) a b o (own_moves s a t.moves) (targets-read g) g operator-below
