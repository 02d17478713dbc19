-- A model as a system of Boolean equations: each pair an "and" or an "or" of the pairs that it leans on. What an equation
-- gives is what the system's equation gives, and the system of a model inside the limits fits. Assumes nothing.
use Rattle.std.specs.Prelude.{◌≡◌, refl, ◌⊎◌, Bool, false, cond, ◌&&◌, ◌||◌, ℕ, zero, suc, ◌/◌, ◌≤◌, ◌<◌, length, get_or, ltb}
use Rattle.std.proofs.Common.{sym, ◌∙◌, subst, mul-le-mul_right, mod-lt, div-lt_iff_lt-mul}
use Rattle.std.proofs.Math.Path.{ap}
use Rattle.std.proofs.Math.Logic.{inl, inr}
use Rattle.std.proofs.Math.Bool.{true}
use mathlib.Core.List.Memᴰ
use mathlib.Core.List.{List, [], ◌∷◌, map}
use native.Mathlib.Omega.{arith}
use Rattle.std.proofs.Math.Arith.{digits_div}
use Rattle.lists.specs.Lists.{is, any, all}
use Rattle.lists.specs.Tests.{◌∈◌, tests, tell, and_is, ltb-in, ltb-out, ltb_no, and-true, or-false}
use Rattle.systems.specs.solution.System.{Frame, Fits, ev, eval}
use Rattle.rules.specs.Moves.{target}
use Rattle.rules.specs.Model.{Model, equations_ok, move_ok, moves_ok, well_formed, WellFormed, blocks_of}
use Rattle.rules.specs.declared.Equation.{Equation}
use Rattle.rules.specs.Rooms.{pairs_of}
use Rattle.rules.specs.Values.{Values, Term, constant, proposition, join, step, pair, state, variable, state_of, variable_of, terms, term_of, term_at, equation_at, block_of, greatest, holds, own, targets, leanings_by, leanings, gives_by, gives}
use Rattle.rules.specs.declared.State.{State}
use Rattle.rules.specs.declared.Action.{Action}
use Rattle.rules.specs.declared.Variable.{Variable}
use Rattle.laws.specs.bytes.Walks.{small}
use Rattle.laws.specs.chains.OneKind.{OneKind, one-kind}
use Rattle.laws.specs.chains.Named.{Names, NamesWell, names-well, variable-block, move-range}

-- Is the equation an "and" of what it leans on? True is an empty "and", false an empty "or".
abbrev pub kind_by : List ℕ → State → Term → Bool
kind_by labels s (constant c) = c
kind_by labels s (proposition c q) = is c (holds labels s q)
kind_by labels s (join k x y) = k
kind_by labels s (step k a x) = k

-- The system of a model, without its leanings.
abbrev pub frame : Model → Frame
frame m = record {
  pairs = pairs_of m.sizes;
  kind = λ p. kind_by m.labels (state_of m.sizes p) (term_at m p);
  block = block_of m;
  blocks = blocks_of m;
  great = greatest m;
}

some_of : (v : Values) (g : ℕ → ℕ) (l : List ℕ) → any (λ t. v (g t)) l ≡ ev false v (map g l)
unfolding ev
some_of v g [] = refl
some_of v g (t ∷ l) = ap (λ (x : Bool). v (g t) || x) (some_of v g l)

each_of : (v : Values) (g : ℕ → ℕ) (l : List ℕ) → all (λ t. v (g t)) l ≡ ev true v (map g l)
unfolding ev
each_of v g [] = refl
each_of v g (t ∷ l) = ap (λ (x : Bool). v (g t) && x) (each_of v g l)

gives-by : (m : Model) (v : Values) (s : State) (t : Term) → gives_by m v s t ≡ ev (kind_by m.labels s t) v (leanings_by m s t)
unfolding ev
gives-by m v s (constant c) = refl
gives-by m v s (proposition c q) = refl
gives-by m v s (join true x y) = ap (λ (b : Bool). v (pair m.sizes s x) && b) (sym (and-true (v (pair m.sizes s y))))
gives-by m v s (join false x y) = ap (λ (b : Bool). v (pair m.sizes s x) || b) (sym (or-false (v (pair m.sizes s y))))
gives-by m v s (step true a x) = each_of v (λ t. pair m.sizes (state t) x) (targets s a m.moves)
gives-by m v s (step false a x) = some_of v (λ t. pair m.sizes (state t) x) (targets s a m.moves)

-- A pair below the count has leanings by its equation.
pub leanings-at : (m : Model) (p : ℕ) → p < pairs_of m.sizes → leanings m p ≡ leanings_by m (state_of m.sizes p) (term_at m p)
unfolding leanings
leanings-at m p h = ap (λ (c : Bool). cond c (leanings_by m (state_of m.sizes p) (term_at m p)) []) (ltb-in p (pairs_of m.sizes) h)

-- What the equation of a pair gives is what the system's equation gives.
pub gives-eval : (m : Model) (v : Values) (p : ℕ) → p < pairs_of m.sizes → gives m v p ≡ eval (frame m) (leanings m) v p
unfolding gives
gives-eval m v p h =
    gives-by m v (state_of m.sizes p) (term_at m p)
    ∙ ap (ev (kind_by m.labels (state_of m.sizes p) (term_at m p)) v) (sym (leanings-at m p h))

-- The block of a pair below the count is its variable's; what lies past the count lies past the last block.
pub block-at : (m : Model) (p : ℕ) → p < pairs_of m.sizes → block_of m p ≡ (equation_at m (variable_of m.sizes p)).block
unfolding block_of
block-at m p h =
    ap (λ (c : Bool). cond c (equation_at m (variable_of m.sizes p)).block (blocks_of m)) (ltb-in p (pairs_of m.sizes) h)

pub block-past : (m : Model) (p : ℕ) → pairs_of m.sizes ≤ p → block_of m p ≡ blocks_of m
unfolding block_of
block-past m p h =
    ap (λ (c : Bool). cond c (equation_at m (variable_of m.sizes p)).block (blocks_of m)) ((ltb_no p (pairs_of m.sizes)).1 h)

pub block_inside : (m : Model) (p : ℕ) → block_of m p < blocks_of m → p < pairs_of m.sizes
block_inside m p h =
    elim (tell true (ltb p (pairs_of m.sizes))) [
      | inl e ↦ ltb-out p (pairs_of m.sizes) e
      | inr e ↦ let k = block-past m p ((ltb_no p (pairs_of m.sizes)).0 e) in absurd (omega arith)
    ]

-- Where the targets of a state's moves come from.
pub targets-out : (s : State) (a : Action) (t : ℕ) (ms : List ℕ) → t ∈ targets s a ms → (q : ℕ) × q ∈ ms × (own s a q ≡ true) × (target q ≡ t)
targets-out s a t [] h = absurd (Memᴰ.not-nil h)
targets-out s a t (q ∷ ms) h = go (targets-out s a t ms) (own s a q) refl h
  where
    go : (t ∈ targets s a ms → (r : ℕ) × r ∈ ms × (own s a r ≡ true) × (target r ≡ t)) → (b : Bool) → own s a q ≡ b
        → t ∈ cond b (target q ∷ targets s a ms) (targets s a ms) → (r : ℕ) × r ∈ (q ∷ ms) × (own s a r ≡ true) × (target r ≡ t)
    go rest true e h =
        elim (Memᴰ.cases_cons h) [
          | inl k ↦ (q, Memᴰ.head refl, e, sym k)
          | inr k ↦ let r = rest k in (r.0, Memᴰ.tail r.1, r.2, r.3)
        ]
    go rest false e h = let r = rest h in (r.0, Memᴰ.tail r.1, r.2, r.3)

pub targets-in : (s : State) (a : Action) (q : ℕ) {ms : List ℕ} → q ∈ ms → own s a q ≡ true → target q ∈ targets s a ms
targets-in s a q (Memᴰ.head {x = x} {xs = ms} k) e =
    let f : own s a x ≡ true = ap (own s a) (sym k) ∙ e in rw f (Memᴰ.head (ap (λ (n : ℕ). target n) k))
targets-in s a q (Memᴰ.tail {x = x} {xs = ms} k) e = go (own s a x) (targets-in s a q k e)
  where
    go : (b : Bool) → target q ∈ targets s a ms → target q ∈ cond b (target x ∷ targets s a ms) (targets s a ms)
    go true h = Memᴰ.tail h
    go false h = h

-- The variables that an equation names.
abbrev pub NamedBy : Term → ℕ → Type 0
NamedBy (constant c) x = ⊥
NamedBy (proposition c q) x = ⊥
NamedBy (join k u w) x = (x ≡ u.0) ⊎ (x ≡ w.0)
NamedBy (step k a u) x = x ≡ u.0

named_by : (e : Equation) (x : ℕ) → NamedBy (term_of e) x → Names e x
named_by e x = go e.operator refl
  where
    later : (o : ℕ) → e.operator ≡ o → 4 ≤ o → x ≡ e.second → Names e x
    later o q h n = inl (omega arith, n)

    sooner : (o : ℕ) → e.operator ≡ o → 4 ≤ o → o < 6 → x ≡ e.first → Names e x
    sooner o q h k n = inr (omega arith, omega arith, n)

    go : (o : ℕ) → e.operator ≡ o → NamedBy (get_or (terms e.first e.second) o (constant false)) x → Names e x
    go zero q n = absurd n
    go (suc zero) q n = absurd n
    go (suc (suc zero)) q n = absurd n
    go (suc (suc (suc zero))) q n = absurd n
    go (suc (suc (suc (suc zero)))) q (inl n) = sooner 4 q (omega arith) (omega arith) n
    go (suc (suc (suc (suc zero)))) q (inr n) = later 4 q (omega arith) n
    go (suc (suc (suc (suc (suc zero))))) q (inl n) = sooner 5 q (omega arith) (omega arith) n
    go (suc (suc (suc (suc (suc zero))))) q (inr n) = later 5 q (omega arith) n
    go (suc (suc (suc (suc (suc (suc zero)))))) q n = later 6 q (omega arith) n
    go (suc (suc (suc (suc (suc (suc (suc zero))))))) q n = later 7 q (omega arith) n
    go (suc (suc (suc (suc (suc (suc (suc (suc o)))))))) q n = absurd n

-- A model inside the limits, as its parts.
pub record Sound (m : Model) : Type 0 where
  pub some : 0 < m.sizes.states
  pub names : NamesWell m.sizes m.equations
  pub kinds : OneKind m.equations
  pub moves : moves_ok m.sizes 0 m.moves ≡ true

pub sound : (m : Model) → WellFormed m → Sound m
unfolding well_formed
sound m w =
    let k = simp and_is at w in
    let z = small m.sizes k.0.0.0.0.0 in
    let c = names-well m.sizes m.equations k.0.0.1 in
    record { some = omega arith; names = c; kinds = one-kind m.sizes m.equations k.0.0.1; moves = k.0.1 }

-- The pair of a state and a variable, both below their counts, is below the count of pairs.
pub pair-below : (m : Model) (s : State) (x : Variable) → s.0 < m.sizes.states → x.0 < m.sizes.variables → pair m.sizes s x < pairs_of m.sizes
pair-below m s x h k = let e = mul-le-mul_right m.sizes.states k in omega arith

module _ (m : Model) (ok : Sound m) where
  variable-below : (p : ℕ) → p < pairs_of m.sizes → p / m.sizes.states < m.sizes.variables
  variable-below p h = (div-lt_iff_lt-mul ok.some).1 h

  -- Every pair lies in a block.
  pub pairs-full : (p : ℕ) → p < pairs_of m.sizes → block_of m p < blocks_of m
  pairs-full p h =
      let v = variable-below p h in
      let c = ok.names.count in
      let b = variable-block m.equations (p / m.sizes.states) (omega arith) in
      let e = block-at m p h in
      omega arith

  -- The block of the pair of a state and a variable is the variable's.
  pub pair-block : (s : State) (x : Variable) → s.0 < m.sizes.states → x.0 < m.sizes.variables → block_of m (pair m.sizes s x) ≡ (equation_at m x).block
  pair-block s x h k =
      block-at m (pair m.sizes s x) (pair-below m s x h k)
      ∙ ap (λ (n : ℕ). (equation_at m (variable n)).block) (digits_div x.0 h)

  -- What the equation of a pair names is a variable.
  pub named-below : (p x : ℕ) → p < pairs_of m.sizes → NamedBy (term_at m p) x → x < m.sizes.variables
  unfolding term_at
  named-below p x h n =
      let v = variable-below p h in
      let c = ok.names.count in
      ok.names.variable (p / m.sizes.states) x (omega arith)
      (named_by (equation_at m (variable (p / m.sizes.states))) x n)

  target_below : (s : State) (a : Action) (t : ℕ) → t ∈ targets s a m.moves → t < m.sizes.states
  unfolding move_ok
  target_below s a t h =
      let q = targets-out s a t m.moves h in
      let r = simp tests at (move-range m.sizes 0 ok.moves q.1) in
      let e = q.3 in
      omega arith

  -- What a pair leans on: pairs of variables that its equation names.
  leans-named : (s : State) (t : Term) (q : ℕ) → s.0 < m.sizes.states → q ∈ leanings_by m s t
      → (r : State) × (x : Variable) × (r.0 < m.sizes.states) × NamedBy t x.0 × (q ≡ pair m.sizes r x)
  leans-named s (constant c) q h k = absurd (Memᴰ.not-nil k)
  leans-named s (proposition c n) q h k = absurd (Memᴰ.not-nil k)
  leans-named s (join c x y) q h k =
      elim (Memᴰ.cases_cons k) [
        | inl e ↦ (s, x, h, inl refl, e)
        | inr j ↦ elim (Memᴰ.cases_cons j) [
          | inl e ↦ (s, y, h, inr refl, e)
          | inr n ↦ absurd (Memᴰ.not-nil n)
        ]
      ]
  leans-named s (step c a x) q h k =
      let t = Memᴰ.of_map (λ t. pair m.sizes (state t) x) (targets s a m.moves) k in
      (state t.0, x, target_below s a t.0 t.1, refl, sym t.2)

  -- The leanings of a pair lie in its own block or an earlier one.
  leans-earlier : (p q : ℕ) → p < pairs_of m.sizes → q ∈ leanings m p → block_of m q ≤ block_of m p
  unfolding term_at
  leans-earlier p q h k =
      let x = p / m.sizes.states in
      let v = variable-below p h in
      let c = ok.names.count in
      let l = leans-named (state_of m.sizes p) (term_at m p) q (mod-lt p ok.some) (subst (λ (y : List ℕ). q ∈ y) (leanings-at m p h) k) in
      let n = named_by (equation_at m (variable x)) l.1.0 l.3 in
      let u = named-below p l.1.0 h l.3 in
      let b = ok.names.earlier x l.1.0 (omega arith) n in
      let e = pair-block l.0 l.1 l.2 u in
      let f = ap (block_of m) l.4 in
      let g = block-at m p h in
      omega arith

  -- The system of the model fits.
  pub model-fits : Fits (frame m) (leanings m)
  unfolding leanings
  model-fits = record {
    inside = block_inside m;
    earlier = λ p q k. elim (tell true (ltb p (pairs_of m.sizes))) [
      | inl e ↦ leans-earlier p q (ltb-out p (pairs_of m.sizes) e) k
      | inr e ↦ let j : q ∈ [] = rw e at k in absurd (Memᴰ.not-nil j)
    ];
  }
