-- What a row is told from gives what its loops need, and what they leave is what the row must say. Assumes nothing.
use Rattle.std.specs.Prelude.{◌≡◌, refl, true, false, not, List, ℕ, suc, ◌+◌, ◌-◌, ◌*◌, ◌%◌, ◌≤◌, ◌<◌, length, get_or, take, drop, replicate, eqb}
use Rattle.std.proofs.Common.{sym, ap, ◌∙◌, mul-le-mul_right, arith, length-drop, length-take-le}
use Rattle.std.proofs.Math.Decide.{dec_lt}
use mir.Val.{bool_byte}
use Rattle.lists.specs.Lists.{listed, some_below}
use Rattle.rules.specs.Limits.{most_propositions}
use Rattle.rules.specs.Values.{state, holds}
use Rattle.engine_table.specs.Table.{Table, own_in}
use Rattle.engine_table.specs.Limits.{limits}
use Rattle.engine_table.specs.GivesWords.{join_names, step-names}
use Rattle.engine_index.specs.Indexed.{heads_of}
use Rattle.engine_rows.specs.Rooms.{Tells}
use Rattle.engine_settle.specs.Told.{told, one_has, leads_one, Asked, Fails, settle_test}
use Rattle.engine_settle.specs.Settles.{tells-fails, tells_none, tells-constant, fails-constant, label-names, fails-label, fails-join, fails_step}

-- What decides an equation with the operator o makes it give this; and this is what the places of a row become then.
abbrev pub decides : ℕ → ℕ
decides o = 1 - o % 2

abbrev pub becomes : ℕ → ℕ → ℕ
becomes o k = bool_byte (not (eqb (decides o) k))

-- A row that is cut out is as long as there are places.
pub row-long : (x n : ℕ) (row values : List ℕ) → x * n + n ≤ length values → row ≡ take n (drop (x * n) values) → length row ≡ n
row-long x n row values h e = let d = length-drop (x * n) values in ap length e ∙ length-take-le n (drop (x * n) values) (omega arith)

module _ {t : Table} {values : List ℕ} {y o a b i k n : ℕ} (q : Asked t values y o a b i k n) where
  -- The kind is 0 or 1, and there is a state.
  kind-small : k ≤ 1
  kind-small = let e = q.reads.is_kind in omega arith

  some_state : 0 < t.sizes.states
  some_state = let l = limits q.drawn in omega arith

  -- There is a label for each place.
  pub asked-labels : length t.labels ≡ n
  asked-labels = q.drawn.long_labels ∙ sym q.places

  -- The proposition that is named is one.
  pub asked-proposition : 2 ≤ o → o < 4 → a < most_propositions
  asked-proposition f g = label-names y values q.drawn q.below o a b i k q.reads f g

  -- A row of values for each variable, as long as there are places.
  pub row_inside : (x : ℕ) → x < t.sizes.variables → x * n + n ≤ length values
  row_inside x h =
      let m = mul-le-mul_right {m = suc x} {n = t.sizes.variables} t.sizes.states h in
      let e = q.pairs in
      let p = q.places in
      let f : x * n ≡ x * t.sizes.states = ap (λ (s : ℕ). x * s) p in
      omega arith

  -- The rows of the variables that are named lie in the values.
  pub asked-first : 4 ≤ o → o < 6 → a * n + n ≤ length values
  asked-first f g = row_inside a (join_names q.drawn y 0 q.below some_state o a b i k q.reads f g).0

  pub asked-second : 4 ≤ o → b * n + n ≤ length values
  asked-second f =
      elim (dec_lt o 6) [
        | yes g ↦ row_inside b (join_names q.drawn y 0 q.below some_state o a b i k q.reads f g).1
        | no g ↦ row_inside b (step-names q.drawn y 0 q.below some_state o a b i k q.reads (omega (arith, g))).1.1
      ]

  -- There are heads for the action that is named.
  pub asked-heads : (l : ℕ) → l ≡ heads_of t.sizes → 6 ≤ o → a * n + n ≤ l
  asked-heads l e f =
      let s = (step-names q.drawn y 0 q.below some_state o a b i k q.reads f).0 in
      let m = mul-le-mul_right {m = suc a} {n = t.sizes.actions} t.sizes.states s in
      let p = q.places in
      let g : a * n ≡ a * t.sizes.states = ap (λ (s : ℕ). a * s) p in
      omega arith

  -- The three kinds of row.
  pub told-label : (bad : List ℕ) → 2 ≤ o → o < 4 → bad ≡ listed 0 n (λ s. told (becomes o k) (holds t.labels (state s) a)) → Fails t values y bad
  told-label bad f g e = fails-label y values q.drawn q.below o a b i k q.reads (becomes o k) n t.labels bad f g kind-small refl q.places refl e

  pub told-join : (u w bad : List ℕ) → 4 ≤ o → o < 6 → u ≡ take n (drop (a * n) values) → w ≡ take n (drop (b * n) values)
      → bad ≡ listed 0 n (λ s. told (becomes o k) (one_has u w (decides o) s)) → Fails t values y bad
  told-join u w bad f g eu ew e =
      fails-join y values q.drawn q.below o a b i k q.reads (becomes o k) n u w bad f g kind-small refl q.places q.bits
      (eu ∙ ap (λ (m : ℕ). take n (drop (a * m) values)) q.places) (ew ∙ ap (λ (m : ℕ). take n (drop (b * m) values)) q.places) e

  pub told-step : (w bad : List ℕ) → 6 ≤ o → w ≡ take n (drop (b * n) values)
      → bad ≡ listed 0 n (λ s. told (becomes o k) (leads_one t.moves a w (decides o) s)) → Fails t values y bad
  told-step w bad f ew e =
      fails_step y values q.drawn q.below o a b i k q.reads (becomes o k) n w bad f kind-small refl q.places q.bits
      (ew ∙ ap (λ (m : ℕ). take n (drop (b * m) values)) q.places) e

  -- What the row tells of the pairs, by what its equation gives.
  pub tells_row : (bad : List ℕ) → Fails t values y bad → Tells t.sizes.states (own_in t y) values (y * t.sizes.states) (settle_test t values y) bad true
  tells_row bad f = tells-fails y values q.drawn q.below bad f

  -- A constant that is the own value.
  pub tells-own : (bad : List ℕ) → length bad ≡ n → o < 2 → o ≡ k → Tells t.sizes.states (own_in t y) values (y * t.sizes.states) (settle_test t values y) bad false
  tells-own bad l f e = tells-constant y values q.drawn q.below o a b i k q.reads bad f e (l ∙ q.places)

  -- The other constant.
  pub tells-other : (bad : List ℕ) → o < 2 → (o ≡ k → ⊥) → bad ≡ replicate n 1
      → Tells t.sizes.states (own_in t y) values (y * t.sizes.states) (settle_test t values y) bad true
  tells-other bad f off e = tells_row bad (fails-constant y values q.drawn q.below o a b i k q.reads n bad f kind-small off q.places e)

  -- No pair of the row has the own value.
  pub tells-nothing : (bad row : List ℕ) → length bad ≡ n → row ≡ take n (drop (y * n) values) → some_below (length row) (λ s. eqb (get_or row s 0) k) ≡ false
      → Tells t.sizes.states (own_in t y) values (y * t.sizes.states) (settle_test t values y) bad false
  tells-nothing bad row l e none =
      tells_none y values q.drawn q.below k bad row kind-small q.reads.is_kind q.bits (l ∙ q.places)
      (e ∙ ap (λ (m : ℕ). take m (drop (y * m) values)) q.places)
      (ap (λ (m : ℕ). some_below m (λ s. eqb (get_or row s 0) k)) (sym (row-long y n row values (row_inside y q.below) e ∙ q.places)) ∙ none)
