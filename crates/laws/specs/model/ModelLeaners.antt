-- Who leans on a pair of a model: for each variable of its block, the last first, "and" and "or" at the same state, diamond
-- and box along the moves into the state, the last move first. Each leaning inside the block is listed once. Assumes nothing.
use Rattle.std.specs.Prelude.{◌≡◌, Bool, ◌&&◌, ltb}
use Rattle.std.proofs.Math.Path.{refl, ap}
use Rattle.std.proofs.Common.{sym, ◌∙◌, inl, inr, add_comm, eq-or-lt_of_le, mod-lt, div-lt_iff_lt-mul}
use Rattle.std.proofs.Math.Bool.{true, false, cond}
use mathlib.Core.List.{List, [], ◌∷◌, ◌++◌, map}
use Prim.Native.Nat.{ℕ, zero, suc, ◌+◌, ◌*◌, ◌/◌, ◌%◌, ◌≤◌, ◌<◌}
use Rattle.std.proofs.Math.Nat.{mod-add-div'}
use Rattle.std.proofs.Math.Decide.{dec_lt, ℕ_discrete}
use native.Mathlib.Omega.{arith}
use Rattle.std.proofs.Math.Dec.{eqb}
use Rattle.std.proofs.Math.Arith.{digits_div, digits_mod}
use Rattle.lists.specs.Lists.{bit, count}
use Rattle.lists.specs.Tests.{tests, tell, clash, and_in, and_is, and_left, and_right, eqb-in, eqb-out, eqb_no, ltb-in, ltb_no}
use Rattle.lists.specs.Counts.{times, times-append}
use Rattle.systems.specs.machine.Machine.{Finds}
use Rattle.systems.specs.machine.Leaners.{has-count}
use Rattle.rules.specs.Moves.{source, action, target}
use Rattle.rules.specs.Model.{Model, move_ok, moves_ok, blocks_of}
use Rattle.rules.specs.Rooms.{pairs_of}
use Rattle.rules.specs.Values.{Term, constant, proposition, join, step, pair, state, variable, state_of, variable_of, term_of, equation_at, term_at, block_of, own, targets, leanings_by, leanings}
use Rattle.rules.specs.declared.State.{State}
use Rattle.rules.specs.declared.Action.{Action}
use Rattle.rules.specs.declared.Variable.{Variable}
use Rattle.rules.specs.declared.Sizes.{Sizes}
use Rattle.laws.specs.model.ModelSystem.{frame, leanings-at, block-at, block_inside, block-past, Sound}

-- Where the moves with the action into the state come from, the last first.
abbrev pub sources : Action → State → List ℕ → List ℕ
sources a t [] = []
sources a t (q ∷ l) = sources a t l ++ cond (eqb (action q) a.0 && eqb (target q) t.0) (source q ∷ []) []

-- The pairs of the variable y, by its equation, that lean on the pair of t and x.
abbrev pub leaners_via : Model → Variable → Variable → State → Term → List ℕ
leaners_via m y x t (constant c) = []
leaners_via m y x t (proposition c q) = []
leaners_via m y x t (join k u w) = cond (eqb u.0 x.0) (pair m.sizes t y ∷ []) [] ++ cond (eqb w.0 x.0) (pair m.sizes t y ∷ []) []
leaners_via m y x t (step k a u) = cond (eqb u.0 x.0) (map (λ s. pair m.sizes (state s) y) (sources a t m.moves)) []

-- The same, of one variable where it lies in x's block, and of the first n variables.
abbrev pub leaners_on : Model → Variable → State → Variable → List ℕ
leaners_on m x t y = cond (eqb (equation_at m y).block (equation_at m x).block) (leaners_via m y x t (term_of (equation_at m y))) []

abbrev pub leaners_to : Model → Variable → State → ℕ → List ℕ
leaners_to m x t zero = []
leaners_to m x t (suc n) = leaners_on m x t (variable n) ++ leaners_to m x t n

-- Who leans on the pair q, inside its block.
unfoldable pub leaners_of : Model → ℕ → List ℕ
leaners_of m q = leaners_to m (variable_of m.sizes q) (state_of m.sizes q) m.sizes.variables

module _ (z : Sizes) where
  -- Two pairs are the same where their states and their variables are.
  pair_same : (s t : State) (x y : Variable) → s.0 < z.states → t.0 < z.states → eqb (pair z s x) (pair z t y) ≡ (eqb x.0 y.0 && eqb s.0 t.0)
  pair_same s t x y h k =
      elim (tell true (eqb x.0 y.0 && eqb s.0 t.0)) [
        | inl e ↦
            let a = eqb-out x.0 y.0 (and_left (eqb x.0 y.0) (eqb s.0 t.0) e) in
            let b = eqb-out s.0 t.0 (and_right (eqb x.0 y.0) (eqb s.0 t.0) e) in
            eqb-in (pair z s x) (pair z t y) (ap (λ (n : ℕ). n * z.states + s.0) a ∙ ap (λ (n : ℕ). y.0 * z.states + n) b) ∙ sym e
        | inr e ↦
            (eqb_no (pair z s x) (pair z t y)).1 (λ f. clash true (eqb x.0 y.0 && eqb s.0 t.0)
            (and_in (eqb-in x.0 y.0 (sym (digits_div x.0 h) ∙ ap (λ (p : ℕ). p / z.states) f ∙ digits_div y.0 k))
            (eqb-in s.0 t.0 (sym (digits_mod x.0 h) ∙ ap (λ (p : ℕ). p % z.states) f ∙ digits_mod y.0 k))) e)
            ∙ sym e
      ]

eqb-sym : (m n : ℕ) → eqb m n ≡ eqb n m
eqb-sym m n =
    elim (tell true (eqb m n)) [
      | inl e ↦ e ∙ sym (eqb-in n m (sym (eqb-out m n e)))
      | inr e ↦ e ∙ sym ((eqb_no n m).1 (λ k. clash true (eqb m n) (eqb-in m n (sym k)) e))
    ]

-- What one entry, or none, adds to a count.
one_entry : (f : ℕ → Bool) (b : Bool) (r : ℕ) → count f (cond b (r ∷ []) []) ≡ bit (b && f r)
one_entry f true r = omega arith
one_entry f false r = refl

more-entries : (f : ℕ → Bool) (b : Bool) (r : ℕ) (l : List ℕ) → count f (cond b (r ∷ l) l) ≡ bit (b && f r) + count f l
more-entries f true r l = refl
more-entries f false r l = omega arith

map-cond : (g : ℕ → ℕ) (b : Bool) (r : ℕ) (l : List ℕ) → map g (cond b (r ∷ l) l) ≡ cond b (g r ∷ map g l) (map g l)
map-cond g true r l = refl
map-cond g false r l = refl

map-one : (g : ℕ → ℕ) (b : Bool) (r : ℕ) → map g (cond b (r ∷ []) []) ≡ cond b (g r ∷ []) []
map-one g true r = refl
map-one g false r = refl

-- Two lists joined, and what is made of each.
pub map-append : (g : ℕ → ℕ) (a b : List ℕ) → map g (a ++ b) ≡ map g a ++ map g b
map-append g [] b = refl
map-append g (x ∷ a) b = ap (λ (l : List ℕ). g x ∷ l) (map-append g a b)

bit-none : (b : Bool) → bit (b && false) ≡ 0
bit-none true = refl
bit-none false = refl

no-either : (b : Bool) → ◌≡◌ {A = ℕ} 0 (cond b 0 0)
no-either true = refl
no-either false = refl

-- One term more of a sum with one term.
one_more : (f : ℕ → ℕ) (z n : ℕ) → cond (ltb z n) (f z) 0 + cond (eqb n z) (f n) 0 ≡ cond (ltb z (suc n)) (f z) 0
one_more f z n =
    elim (ℕ_discrete n z) [
      | yes e ↦
          rw ((ltb_no z n).1 (omega arith), eqb-in n z e, ltb-in z (suc n) (omega arith)) (let k = ap f e in omega arith)
      | no e ↦ elim (dec_lt z n) [
        | yes l ↦ rw (ltb-in z n l, (eqb_no n z).1 e, ltb-in z (suc n) (omega arith)) (omega arith)
        | no l ↦ rw ((ltb_no z n).1 (omega arith), (eqb_no n z).1 e, (ltb_no z (suc n)).1 (past e (omega arith))) refl
      ]
    ]
  where
    past : (n ≡ z → ⊥) → n ≤ z → suc n ≤ z
    past e h = elim (eq-or-lt_of_le h) [ inl k ↦ absurd (e k) | inr k ↦ k ]

-- How many moves go from s to t with the action.
abbrev between : State → Action → State → List ℕ → ℕ
between s a t ms = count (λ q. own s a q && eqb (target q) t.0) ms

-- The pair that leans has the state s and the variable z; the pair that is leant on has the state t and the variable x.
module _ (m : Model) (s t : State) (z x : Variable) (h : s.0 < m.sizes.states) (k : t.0 < m.sizes.states) where
  abbrev leaner : ℕ
  leaner = pair m.sizes s z

  abbrev leant : ℕ
  leant = pair m.sizes t x

  -- Counted by their sources, where the pairs are those of y.
  by-sources : (a : Action) (y : Variable) (n : ℕ) (ms : List ℕ) → moves_ok m.sizes n ms ≡ true
      → times leaner (map (λ r. pair m.sizes (state r) y) (sources a t ms)) ≡ cond (eqb y.0 z.0) (between s a t ms) 0
  unfolding move_ok
  by-sources a y n [] o = no-either (eqb y.0 z.0)
  by-sources a y n (q ∷ ms) o =
      let g : ℕ → ℕ = λ r. pair m.sizes (state r) y in
      let f = simp and_is at o in
      let r = simp tests at f.0.1 in
      let ih = by-sources a y (suc q) ms f.1 in
      let c = eqb (action q) a.0 && eqb (target q) t.0 in
      let e : times leaner (map g (sources a t (q ∷ ms))) ≡ times leaner (map g (sources a t ms)) + bit (c && eqb (g (source q)) leaner) =
      ap (times leaner) (map-append g (sources a t ms) (cond c (source q ∷ []) []) ∙ ap (λ (l : List ℕ). map g (sources a t ms) ++ l) (map-one g c (source q)))
      ∙ times-append leaner (map g (sources a t ms)) (cond c (g (source q) ∷ []) []) ∙ ap (λ (n : ℕ). times leaner (map g (sources a t ms)) + n) (one_entry (λ y. eqb y leaner) c (g (source q))) in
      let w : eqb (g (source q)) leaner ≡ (eqb y.0 z.0 && eqb (source q) s.0) = pair_same m.sizes (state (source q)) s y z r.0.0 h in
      e ∙ ap (λ (b : Bool). times leaner (map g (sources a t ms)) + bit (c && b)) w
      ∙ ap (λ (n : ℕ). n + bit (c && (eqb y.0 z.0 && eqb (source q) s.0))) ih
      ∙ add (eqb y.0 z.0) (eqb (source q) s.0) (eqb (action q) a.0) (eqb (target q) t.0) (between s a t ms)
    where
      add : (b c d e : Bool) (n : ℕ) → cond b n 0 + bit ((d && e) && (b && c)) ≡ cond b (bit ((c && d) && e) + n) 0
      add false c d e n = let f = bit-none (d && e) in omega arith
      add true true true true n = omega arith
      add true true true false n = omega arith
      add true true false e n = omega arith
      add true false true true n = omega arith
      add true false true false n = omega arith
      add true false false e n = omega arith

  -- Counted by their targets, where the pairs are those of u.
  by-targets : (a : Action) (u : Variable) (n : ℕ) (ms : List ℕ) → moves_ok m.sizes n ms ≡ true
      → count (λ r. eqb r leant) (map (λ r. pair m.sizes (state r) u) (targets s a ms)) ≡ cond (eqb u.0 x.0) (between s a t ms) 0
  unfolding move_ok
  by-targets a u n [] o = no-either (eqb u.0 x.0)
  by-targets a u n (q ∷ ms) o =
      let g : ℕ → ℕ = λ r. pair m.sizes (state r) u in
      let f = simp and_is at o in
      let r = simp tests at f.0.1 in
      let ih = by-targets a u (suc q) ms f.1 in
      let w : eqb (g (target q)) leant ≡ (eqb u.0 x.0 && eqb (target q) t.0) = pair_same m.sizes (state (target q)) t u x r.1 k in
      ap (count (λ r. eqb r leant)) (map-cond g (own s a q) (target q) (targets s a ms))
      ∙ more-entries (λ r. eqb r leant) (own s a q) (g (target q)) (map g (targets s a ms))
      ∙ ap (λ (b : Bool). bit (own s a q && b) + count (λ r. eqb r leant) (map g (targets s a ms))) w
      ∙ ap (λ (n : ℕ). bit (own s a q && (eqb u.0 x.0 && eqb (target q) t.0)) + n) ih
      ∙ add (own s a q) (eqb u.0 x.0) (eqb (target q) t.0) (between s a t ms)
    where
      add : (b c d : Bool) (n : ℕ) → bit (b && (c && d)) + cond c n 0 ≡ cond c (bit (b && d) + n) 0
      add b true d n = refl
      add b false d n = ap (λ (n : ℕ). n + 0) (bit-none b)

  -- The pairs of y that lean on the pair, by y's equation: only where y is z, and as often as it leans.
  by-equation : (ok : Sound m) (y : Variable) (e : Term)
      → times leaner (leaners_via m y x t e) ≡ cond (eqb y.0 z.0) (count (λ r. eqb r leant) (leanings_by m s e)) 0
  by-equation ok y (constant c) = no-either (eqb y.0 z.0)
  by-equation ok y (proposition c q) = no-either (eqb y.0 z.0)
  by-equation ok y (join c u w) =
      let l = pair m.sizes t y in
      times-append leaner (cond (eqb u.0 x.0) (l ∷ []) []) (cond (eqb w.0 x.0) (l ∷ []) [])
      ∙ ap (λ (n : ℕ). n + times leaner (cond (eqb w.0 x.0) (l ∷ []) [])) (one_entry (λ r. eqb r leaner) (eqb u.0 x.0) l)
      ∙ ap (λ (n : ℕ). bit (eqb u.0 x.0 && eqb l leaner) + n) (one_entry (λ r. eqb r leaner) (eqb w.0 x.0) l)
      ∙ ap (λ (b : Bool). bit (eqb u.0 x.0 && b) + bit (eqb w.0 x.0 && b)) (pair_same m.sizes t s y z k h ∙ ap (λ (b : Bool). eqb y.0 z.0 && b) (eqb-sym t.0 s.0))
      ∙ two (eqb y.0 z.0) (eqb u.0 x.0) (eqb w.0 x.0) (eqb s.0 t.0)
      ∙ sym (ap (λ (b : Bool). cond (eqb y.0 z.0) (bit b + (bit (eqb (pair m.sizes s w) leant) + 0)) 0) (pair_same m.sizes s t u x h k)
      ∙ ap (λ (b : Bool). cond (eqb y.0 z.0) (bit (eqb u.0 x.0 && eqb s.0 t.0) + (bit b + 0)) 0) (pair_same m.sizes s t w x h k))
    where
      two : (a b c d : Bool) → bit (b && (a && d)) + bit (c && (a && d)) ≡ cond a (bit (b && d) + (bit (c && d) + 0)) 0
      two true b c d = omega arith
      two false b c d = let e = bit-none b in let f = bit-none c in omega arith
  by-equation ok y (step c a u) =
      times-cond (eqb u.0 x.0) (map (λ r. pair m.sizes (state r) y) (sources a t m.moves))
      ∙ ap (λ (n : ℕ). cond (eqb u.0 x.0) n 0) (by-sources a y 0 m.moves ok.moves)
      ∙ swap (eqb u.0 x.0) (eqb y.0 z.0) (between s a t m.moves)
      ∙ ap (λ (n : ℕ). cond (eqb y.0 z.0) n 0) (sym (by-targets a u 0 m.moves ok.moves))
    where
      times-cond : (b : Bool) (l : List ℕ) → times leaner (cond b l []) ≡ cond b (times leaner l) 0
      times-cond true l = refl
      times-cond false l = refl

      swap : (a b : Bool) (n : ℕ) → cond a (cond b n 0) 0 ≡ cond b (cond a n 0) 0
      swap true true n = refl
      swap true false n = refl
      swap false true n = refl
      swap false false n = refl

  -- Of one variable, and of the first n: what the leaner's own variable has.
  by-variable : (ok : Sound m) (y : Variable)
      → times leaner (leaners_on m x t y)
      ≡ cond (eqb y.0 z.0) (cond (eqb (equation_at m y).block (equation_at m x).block) (count (λ r. eqb r leant) (leanings_by m s (term_of (equation_at m y)))) 0) 0
  by-variable ok y = go (eqb (equation_at m y).block (equation_at m x).block)
    where
      go : (b : Bool) → times leaner (cond b (leaners_via m y x t (term_of (equation_at m y))) [])
          ≡ cond (eqb y.0 z.0) (cond b (count (λ r. eqb r leant) (leanings_by m s (term_of (equation_at m y)))) 0) 0
      go true = by-equation ok y (term_of (equation_at m y))
      go false = no-either (eqb y.0 z.0)

  -- What a variable has of it, where it is the leaner's.
  abbrev share : ℕ → ℕ
  share y = cond (eqb (equation_at m (variable y)).block (equation_at m x).block) (count (λ r. eqb r leant) (leanings_by m s (term_of (equation_at m (variable y))))) 0

  by-variables : (ok : Sound m) (n : ℕ) → times leaner (leaners_to m x t n) ≡ cond (ltb z.0 n) (share z.0) 0
  by-variables ok zero = ap (λ (b : Bool). cond b (share z.0) 0) (sym ((ltb_no z.0 0).1 (omega arith)))
  by-variables ok (suc n) =
      times-append leaner (leaners_on m x t (variable n)) (leaners_to m x t n)
      ∙ ap (λ (k : ℕ). times leaner (leaners_on m x t (variable n)) + k) (by-variables ok n)
      ∙ ap (λ (k : ℕ). k + cond (ltb z.0 n) (share z.0) 0) (by-variable ok (variable n))
      ∙ add_comm (cond (eqb n z.0) (share n) 0) (cond (ltb z.0 n) (share z.0) 0)
      ∙ one_more share z.0 n

-- The list is what the machine asks for: each leaning inside the block once.
pub model-finds : (m : Model) → Sound m → Finds (frame m) (leanings m) (leaners_of m)
unfolding leaners_of term_at
model-finds m ok = record { counted = λ q p lt. listed q p lt ∙ sym (has-count (frame m) q p (leanings m p)) }
  where
    split : (p : ℕ) → pair m.sizes (state_of m.sizes p) (variable_of m.sizes p) ≡ p
    split p = let e = mod-add-div' p m.sizes.states in omega arith

    shared : ℕ → ℕ → ℕ
    shared q p =
        cond (eqb (equation_at m (variable_of m.sizes p)).block (equation_at m (variable_of m.sizes q)).block)
        (count (λ r. eqb r (pair m.sizes (state_of m.sizes q) (variable_of m.sizes q))) (leanings_by m (state_of m.sizes p) (term_at m p))) 0

    inside : (q p : ℕ) → q < pairs_of m.sizes → p < pairs_of m.sizes → shared q p ≡ cond (eqb (block_of m p) (block_of m q)) (count (λ r. eqb r q) (leanings m p)) 0
    inside q p h l =
        rw (sym (block-at m p l), sym (block-at m q h))
        (ap (λ (r : ℕ). cond (eqb (block_of m p) (block_of m q)) (count (λ y. eqb y r) (leanings_by m (state_of m.sizes p) (term_at m p))) 0) (split q)
        ∙ ap (λ (y : List ℕ). cond (eqb (block_of m p) (block_of m q)) (count (λ r. eqb r q) y) 0) (sym (leanings-at m p l)))

    whole : (q p : ℕ) → block_of m q < blocks_of m
        → cond (ltb (p / m.sizes.states) m.sizes.variables) (shared q p) 0 ≡ cond (eqb (block_of m p) (block_of m q)) (count (λ r. eqb r q) (leanings m p)) 0
    whole q p lt =
        elim (dec_lt p (pairs_of m.sizes)) [
          | yes l ↦ rw (ltb-in (p / m.sizes.states) m.sizes.variables ((div-lt_iff_lt-mul ok.some).1 l)) (inside q p (block_inside m q lt) l)
          | no l ↦
              let far : m.sizes.variables ≤ p / m.sizes.states =
              elim (dec_lt (p / m.sizes.states) m.sizes.variables) [
                | yes k ↦ absurd (l ((div-lt_iff_lt-mul ok.some).0 k))
                | no k ↦ omega arith
              ] in
              let past = block-past m p (omega arith) in
              rw ((ltb_no (p / m.sizes.states) m.sizes.variables).1 far, (eqb_no (block_of m p) (block_of m q)).1 (λ e. omega arith)) refl
        ]

    listed : (q p : ℕ) → block_of m q < blocks_of m
        → times p (leaners_to m (variable_of m.sizes q) (state_of m.sizes q) m.sizes.variables) ≡ cond (eqb (block_of m p) (block_of m q)) (count (λ r. eqb r q) (leanings m p)) 0
    listed q p lt =
        ap (λ (r : ℕ). times r (leaners_to m (variable_of m.sizes q) (state_of m.sizes q) m.sizes.variables)) (sym (split p))
        ∙ by-variables m (state_of m.sizes p) (state_of m.sizes q) (variable_of m.sizes p) (variable_of m.sizes q) (mod-lt p ok.some) (mod-lt q ok.some) ok m.sizes.variables
        ∙ whole q p lt
