-- Who leans on a pair, found along the chains, is who leans on it by the model: in the same order, and whatever the labels.
-- Assumes nothing.
use Rattle.std.specs.Prelude.{◌≡◌, not, ◌&&◌, length, take, leb}
use Rattle.std.proofs.Math.Path.{refl, sym, ap, ap₂}
use Rattle.std.proofs.Common.{◌∙◌, inl, inr, take-suc}
use Rattle.std.proofs.Math.Bool.{Bool, true, false, cond}
use mathlib.Core.List.{List, [], ◌∷◌, ◌++◌, map, append-nil, append_assoc}
use Prim.Native.Nat.{ℕ, zero, suc, ◌+◌, ◌*◌, ◌/◌, ◌%◌, ◌≤◌, ◌<◌}
use native.Mathlib.Omega.{arith}
use Rattle.std.proofs.Math.ListN.{get_or}
use Rattle.std.proofs.Math.Seq.{take-length}
use Rattle.std.proofs.Math.Arith.{digits_div, digits_mod}
use Rattle.std.proofs.Math.Dec.{eqb, ltb}
use Rattle.lists.specs.Tests.{tell, clash, and_in, and_is, eqb-in, eqb-out, eqb_no}
use Rattle.rules.specs.Limits.{most_states}
use Rattle.rules.specs.Moves.{source, action, target}
use Rattle.rules.specs.declared.Equation.{Equation}
use Rattle.rules.specs.Values.{pair, state, variable, terms, term_of, constant}
use Rattle.rules.specs.declared.Sizes.{Sizes}
use Rattle.laws.specs.model.ModelLeaners.{sources, leaners_via, leaners_on, leaners_to, leaners_of, map-append}
use Rattle.words.specs.Words.{waiting_of}
use Rattle.engine_table.specs.Table.{Table, model_of, Drawn, word_at, pair_in, waiter}
use Rattle.engine_table.specs.EquationWords.{formula-word, variable-of, state-of, waiter-at}
use Rattle.engine_table.specs.Limits.{limits, move-inside}
use Rattle.engine_table.specs.GivesWords.{operator-below}
use Rattle.engine_index.specs.Indexed.{key_of}
use Rattle.engine_index.specs.Operands.{name_at, names_of}
use Rattle.engine_index.specs.OperandLaws.{name-at}
use Rattle.engine_turn.specs.Scene.{along, source_of, sources_in, pairs_by, leaners_in}

-- Two actions and two states are the same where their places among the heads are.
key-same : (n a b s t : ℕ) → s < n → t < n → eqb (a * n + s) (b * n + t) ≡ (eqb a b && eqb s t)
key-same n a b s t h k =
    elim (tell true (eqb a b && eqb s t)) [
      | inl e ↦
          let p = (and_is (eqb a b) (eqb s t)).0 e in
          eqb-in (a * n + s) (b * n + t) (ap (λ (x : ℕ). x * n + s) (eqb-out a b p.0) ∙ ap (λ (x : ℕ). b * n + x) (eqb-out s t p.1)) ∙ sym e
      | inr e ↦
          (eqb_no (a * n + s) (b * n + t)).1 (λ f. clash true (eqb a b && eqb s t)
          (and_in (eqb-in a b (sym (digits_div a h) ∙ ap (λ (p : ℕ). p / n) f ∙ digits_div b k))
          (eqb-in s t (sym (digits_mod a h) ∙ ap (λ (p : ℕ). p % n) f ∙ digits_mod b k))) e)
          ∙ sym e
    ]

-- One move more at the end of the list.
sources-snoc : (a t q : ℕ) (l : List ℕ) → sources (record { 0 = a }) (state t) (l ++ (q ∷ []))
    ≡ cond (eqb (action q) a && eqb (target q) t) (source q ∷ []) [] ++ sources (record { 0 = a }) (state t) l
sources-snoc a t q [] = sym (append-nil _)
sources-snoc a t q (r ∷ l) =
    ap (λ (x : List ℕ). x ++ cond (eqb (action r) a && eqb (target r) t) (source r ∷ []) []) (sources-snoc a t q l)
    ∙ append_assoc (cond (eqb (action q) a && eqb (target q) t) (source q ∷ []) []) (sources (record { 0 = a }) (state t) l) (cond (eqb (action r) a && eqb (target r) t) (source r ∷ []) [])

-- A slot names x where the equation has it, its operand is x, and x is of the same block.
name-is : (block : ℕ → ℕ) (has : Bool) (v own x : ℕ) → x < 256 → eqb (cond (has && eqb (block v) own) v 256) x ≡ (has && (eqb v x && eqb own (block x)))
name-is block false v own x h = (eqb_no 256 x).1 (λ e. absurd (omega arith))
name-is block true v own x h =
    elim (tell true (eqb (block v) own)) [
      | inl e ↦ ap (λ (b : Bool). eqb (cond b v 256) x) e ∙ elim (tell true (eqb v x)) [
        | inl f ↦
            f ∙ sym (ap (λ (b : Bool). b && eqb own (block x)) f
            ∙ eqb-in own (block x) (sym (eqb-out (block v) own e) ∙ ap block (eqb-out v x f)))
        | inr f ↦ f ∙ sym (ap (λ (b : Bool). b && eqb own (block x)) f)
      ]
      | inr e ↦ ap (λ (b : Bool). eqb (cond b v 256) x) e ∙ (eqb_no 256 x).1 (λ k. absurd (omega arith)) ∙ sym (elim (tell true (eqb v x)) [
        | inl f ↦
            ap (λ (b : Bool). b && eqb own (block x)) f
            ∙ (eqb_no own (block x)).1 (λ k. (eqb_no (block v) own).0 e (ap block (eqb-out v x f) ∙ sym k))
        | inr f ↦ ap (λ (b : Bool). b && eqb own (block x)) f
      ])
    ]

module _ {t : Table} (d : Drawn t) where
  abbrev z : Sizes
  z = t.sizes

  small : z.states ≤ most_states
  small = (limits d).0.1

  -- The pairs at the sources of a chain.
  sources-found : (y a s : ℕ) → s < z.states → (k : ℕ) → k ≤ length t.moves
      → map (waiter z) (along (key_of z) t.moves (a * z.states + s) (source_of t.moves y) k)
      ≡ map (λ r. pair z (state r) (variable y)) (sources (record { 0 = a }) (state s) (take k t.moves))
  unfolding along
  sources-found y a s l zero h = refl
  sources-found y a s l (suc j) h =
      let q = get_or t.moves j 0 in
      let i = move-inside d j h in
      let u = small in
      let rest = along (key_of z) t.moves (a * z.states + s) (source_of t.moves y) j in
      map-append (waiter z) (cond (eqb (key_of z q) (a * z.states + s)) (waiting_of y (source q) ∷ []) []) rest
      ∙ ap₂ {C = List ℕ} (λ (m n : List ℕ). m ++ n)
      (ap (λ (b : Bool). map (waiter z) (cond b (waiting_of y (source q) ∷ []) [])) (key-same z.states (action q) a (target q) s i.1.1 l)
      ∙ one (eqb (action q) a && eqb (target q) s) (source q) (omega (arith, i.0)))
      (sources-found y a s l j (omega arith))
      ∙ sym (map-append (λ r. pair z (state r) (variable y)) (cond (eqb (action q) a && eqb (target q) s) (source q ∷ []) []) (sources (record { 0 = a }) (state s) (take j t.moves)))
      ∙ ap (map (λ r. pair z (state r) (variable y))) (sym (sources-snoc a s q (take j t.moves)) ∙ ap (sources (record { 0 = a }) (state s)) (sym (take-suc t.moves j 0 h)))
    where
      one : (b : Bool) (r : ℕ) → r < 1024 → map (waiter z) (cond b (waiting_of y r ∷ []) []) ≡ map (λ r. pair z (state r) (variable y)) (cond b (r ∷ []) [])
      one true r low = ap (λ (p : ℕ). p ∷ []) (waiter-at z y r low)
      one false r low = refl

  chain-found : (y a s : ℕ) → s < z.states
      → map (waiter z) (sources_in z t.moves y (a * z.states + s)) ≡ map (λ r. pair z (state r) (variable y)) (sources (record { 0 = a }) (state s) t.moves)
  chain-found y a s l =
      sources-found y a s l (length t.moves) (omega arith)
      ∙ ap (λ (ms : List ℕ). map (λ r. pair z (state r) (variable y)) (sources (record { 0 = a }) (state s) ms)) (take-length t.moves)

  -- What the two slots of y visit, by y's equation.
  module _ (x y s : ℕ) (hx : x < z.variables) (hy : y < z.variables) (l : s < z.states) where
    abbrev e : Equation
    e = word_at t y

    abbrev at_slot : Bool → List ℕ
    at_slot b = cond b (pairs_by z t.equations t.moves s y) []

    abbrev block : ℕ → ℕ
    block v = (word_at t v).block

    first-name : eqb (name_at t.equations (suc (2 * y))) x ≡ ((leb 4 e.operator && ltb e.operator 6) && (eqb e.first x && eqb (block y) (block x)))
    unfolding name_at
    first-name =
        let a : suc (2 * y) / 2 ≡ y = omega arith in
        let b : suc (2 * y) % 2 ≡ 1 = omega arith in
        rw (a, b) (name-is block (leb 4 e.operator && ltb e.operator 6) e.first (block y) x (let u = limits d in omega arith))

    second-name : eqb (name_at t.equations (2 * y)) x ≡ ((leb 4 e.operator && true) && (eqb e.second x && eqb (block y) (block x)))
    unfolding name_at
    second-name =
        let a : 2 * y / 2 ≡ y = omega arith in
        let b : 2 * y % 2 ≡ 0 = omega arith in
        rw (a, b) (name-is block (leb 4 e.operator && true) e.second (block y) x (let u = limits d in omega arith))

    abbrev by_term : ℕ → List ℕ
    by_term o = leaners_via (model_of t) (variable y) (variable x) (state s) (get_or (terms e.first e.second) o (constant false))

    abbrev here : ℕ
    here = pair_in z y s

    slots-are : (o : ℕ) → o < 8 → o ≡ e.operator → (B : Bool)
        → map (waiter z) (at_slot ((leb 4 e.operator && ltb e.operator 6) && (eqb e.first x && B)) ++ at_slot ((leb 4 e.operator && true) && (eqb e.second x && B)))
        ≡ cond B (by_term o) []
    unfolding pairs_by
    slots-are o h is B = rw (sym is) (go o h)
      where
        low : s < 1024
        low = omega (arith, small)

        join : (f g b : Bool) → map (waiter z) (cond (f && b) (waiting_of y s ∷ []) [] ++ cond (g && b) (waiting_of y s ∷ []) []) ≡ cond b (cond f (here ∷ []) [] ++ cond g (here ∷ []) []) []
        join true true true = ap₂ {C = List ℕ} (λ (m n : ℕ). m ∷ n ∷ []) (waiter-at z y s low) (waiter-at z y s low)
        join true false true = ap (λ (m : ℕ). m ∷ []) (waiter-at z y s low)
        join false true true = ap (λ (m : ℕ). m ∷ []) (waiter-at z y s low)
        join false false true = refl
        join true true false = refl
        join true false false = refl
        join false true false = refl
        join false false false = refl

        step : (g b : Bool) → map (waiter z) (cond (g && b) (sources_in z t.moves y (e.first * z.states + s)) [])
            ≡ cond b (cond g (map (λ r. pair z (state r) (variable y)) (sources (record { 0 = e.first }) (state s) t.moves)) []) []
        step true true = chain-found y e.first s l
        step true false = refl
        step false true = refl
        step false false = refl

        none : (b : Bool) → ◌≡◌ {A = List ℕ} [] (cond b [] [])
        none true = refl
        none false = refl

        go : (o : ℕ) → o < 8
            → map (waiter z) (cond ((leb 4 o && ltb o 6) && (eqb e.first x && B)) (cond (not (ltb o 6)) (sources_in z t.moves y (e.first * z.states + s)) (waiting_of y s ∷ [])) []
            ++ cond ((leb 4 o && true) && (eqb e.second x && B)) (cond (not (ltb o 6)) (sources_in z t.moves y (e.first * z.states + s)) (waiting_of y s ∷ [])) [])
            ≡ cond B (by_term o) []
        go zero k = none B
        go (suc zero) k = none B
        go (suc (suc zero)) k = none B
        go (suc (suc (suc zero))) k = none B
        go (suc (suc (suc (suc zero)))) k = join (eqb e.first x) (eqb e.second x) B
        go (suc (suc (suc (suc (suc zero))))) k = join (eqb e.first x) (eqb e.second x) B
        go (suc (suc (suc (suc (suc (suc zero)))))) k = step (eqb e.second x) B
        go (suc (suc (suc (suc (suc (suc (suc zero))))))) k = step (eqb e.second x) B
        go (suc (suc (suc (suc (suc (suc (suc (suc o)))))))) k = absurd (omega arith)

    on-found : map (waiter z) (at_slot (eqb (name_at t.equations (suc (2 * y))) x) ++ at_slot (eqb (name_at t.equations (2 * y)) x)) ≡ leaners_on (model_of t) (variable x) (state s) (variable y)
    on-found =
        ap₂ {C = List ℕ} (λ (a b : Bool). map (waiter z) (at_slot a ++ at_slot b)) first-name second-name
        ∙ slots-are e.operator (operator-below d y s hy l e.operator e.first e.second e.block e.kind (record { is_operator = refl; is_first = refl; is_second = refl; is_block = refl; is_kind = refl })) refl (eqb (block y) (block x))
        ∙ sym (ap₂ {C = List ℕ} (λ (f g : Equation). cond (eqb f.block g.block) (leaners_via (model_of t) (variable y) (variable x) (state s) (term_of f)) []) (formula-word d y) (formula-word d x))

  -- Of the first y variables.
  to-found : (x s : ℕ) → x < z.variables → s < z.states → (y : ℕ) → y ≤ z.variables
      → map (waiter z) (along (λ w. w) (names_of t.equations) x (λ j. pairs_by z t.equations t.moves s (j / 2)) (2 * y)) ≡ leaners_to (model_of t) (variable x) (state s) y
  unfolding along
  to-found x s hx l zero h = refl
  to-found x s hx l (suc y) h =
      let n = d.long_equations in
      let up : 2 * suc y ≡ suc (suc (2 * y)) = omega arith in
      let a : suc (2 * y) / 2 ≡ y = omega arith in
      let b : 2 * y / 2 ≡ y = omega arith in
      let one = name-at t.equations (suc (2 * y)) (omega arith) in
      let two = name-at t.equations (2 * y) (omega arith) in
      let rest = along (λ w. w) (names_of t.equations) x (λ j. pairs_by z t.equations t.moves s (j / 2)) (2 * y) in
      let by : Bool → List ℕ = λ v. cond v (pairs_by z t.equations t.moves s y) [] in
      rw (up, one, two, a, b)
      (ap (map (waiter z)) (sym (append_assoc (by (eqb (name_at t.equations (suc (2 * y))) x)) (by (eqb (name_at t.equations (2 * y)) x)) rest))
      ∙ map-append (waiter z) (by (eqb (name_at t.equations (suc (2 * y))) x) ++ by (eqb (name_at t.equations (2 * y)) x)) rest
      ∙ ap₂ {C = List ℕ} (λ (m n : List ℕ). m ++ n) (on-found x y s hx (omega arith) l) (to-found x s hx l y (omega arith)))

  -- Who leans on the pair of x and s.
  pub leaners-found : (x s : ℕ) → x < z.variables → s < z.states → map (waiter z) (leaners_in z t.equations t.moves x s) ≡ leaners_of (model_of t) (pair_in z x s)
  unfolding leaners_in leaners_of
  leaners-found x s hx l =
      ap (λ (k : ℕ). map (waiter z) (along (λ w. w) (names_of t.equations) x (λ j. pairs_by z t.equations t.moves s (j / 2)) (2 * k))) d.long_equations
      ∙ to-found x s hx l z.variables (omega arith)
      ∙ ap₂ {C = List ℕ} (λ (u v : ℕ). leaners_to (model_of t) (variable u) (state v) z.variables) (sym (variable-of d x s l)) (sym (state-of d x s l))
