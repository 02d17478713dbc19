-- What code asks of a pair that leans on one that has turned is what the machine asks, whatever the labels. Assumes nothing.
use Rattle.std.specs.Prelude.{◌≡◌, Bool, true, false, cond, ◌&&◌, ◌||◌, List, ℕ, zero, suc, ◌+◌, ◌%◌, ◌≤◌, ◌<◌, get_or, eqb, ltb}
use Rattle.std.proofs.Math.Path.{refl, sym, ap, ap₂}
use Rattle.std.proofs.Common.{◌∙◌, inl, inr, arith}
use Rattle.std.proofs.Math.Bool.{not}
use Rattle.lists.specs.Lists.{is, bit, any}
use Rattle.lists.specs.Tests.{◌∈◌, tell, not-not, and-true, eqb-out, eqb_no, ltb-is, ltb_no, any_same, is-bit}
use Rattle.systems.specs.machine.Machine.{own}
use Rattle.systems.specs.machine.HardPairs.{hard-asks}
use Rattle.rules.specs.Moves.{target}
use Rattle.rules.specs.declared.Equation.{Equation}
use Rattle.rules.specs.Calls.{value_at}
use Rattle.rules.specs.Values.{terms, constant, state_of, leanings, gives}
use Rattle.rules.specs.declared.State.{State}
use Rattle.laws.specs.model.ModelSystem.{kind_by, frame}
use Rattle.engine_table.specs.Table.{Table, model_of, Drawn, ReadsAs, word_at, own_in, pair_in, leads_to}
use Rattle.engine_table.specs.EquationWords.{own-word}
use Rattle.engine_table.specs.GivesWords.{term-read, operator-below, gives-join, gives-step}
use Rattle.engine_table.specs.AsksWords.{asks-shift, asks-settle}
use Rattle.engine_table.specs.Part.{own_moves}
use Rattle.engine_rows.specs.Rooms.{Bits}
use Rattle.engine_index.specs.Operands.{easy_bit}
use Rattle.engine_turn.specs.Scene.{Scene, scene_of, has_from, fails, asks_for}
use Rattle.engine_turn.specs.VisitLaws.{fails-join, fails_step}
use Rattle.engine_turn.specs.Turns.{ask_of}

-- The operators from 4 on say in their last bit whether they are an "and".
kind-by : (labels : List ℕ) (s : State) (a b o : ℕ) → 4 ≤ o → o < 8 → kind_by labels s (get_or (terms a b) o (constant false)) ≡ eqb (o % 2) 1
kind-by labels s a b zero h k = absurd (omega arith)
kind-by labels s a b (suc zero) h k = absurd (omega arith)
kind-by labels s a b (suc (suc zero)) h k = absurd (omega arith)
kind-by labels s a b (suc (suc (suc zero))) h k = absurd (omega arith)
kind-by labels s a b (suc (suc (suc (suc zero)))) h k = refl
kind-by labels s a b (suc (suc (suc (suc (suc zero))))) h k = refl
kind-by labels s a b (suc (suc (suc (suc (suc (suc zero)))))) h k = refl
kind-by labels s a b (suc (suc (suc (suc (suc (suc (suc zero))))))) h k = refl
kind-by labels s a b (suc (suc (suc (suc (suc (suc (suc (suc o)))))))) h k = absurd (omega arith)

-- An easy operator is an "and" or a box where its block's own value is false.
easy-by : (last o k : ℕ) → (o ≡ last) → (o + k) % 2 ≡ 1 → last % 2 ≡ 1 → k < 2 → true ≡ not (eqb k 1)
easy-by last o k e f g h = let z : k ≡ 0 = omega arith in rw z refl

easy-no : (o k : ℕ) → o % 2 ≡ 0 → (o + k) % 2 ≡ 1 → k < 2 → false ≡ not (eqb k 1)
easy-no o k e f h = let z : k ≡ 1 = omega arith in rw z refl

join_is : (o k : ℕ) → 4 ≤ o → o < 6 → (o + k) % 2 ≡ 1 → k < 2 → eqb o 5 ≡ not (eqb k 1)
join_is o k a b f h =
    elim (tell true (eqb o 5)) [
      | inl e ↦ e ∙ easy-by 5 o k (eqb-out o 5 e) f refl h
      | inr e ↦ let n = (eqb_no o 5).0 e in let z : o ≡ 4 = omega (arith, n) in e ∙ easy-no o k (omega arith) f h
    ]

step_is : (o k : ℕ) → 6 ≤ o → o < 8 → (o + k) % 2 ≡ 1 → k < 2 → eqb o 7 ≡ not (eqb k 1)
step_is o k a b f h =
    elim (tell true (eqb o 7)) [
      | inl e ↦ e ∙ easy-by 7 o k (eqb-out o 7 e) f refl h
      | inr e ↦ let n = (eqb_no o 7).0 e in let z : o ≡ 6 = omega (arith, n) in e ∙ easy-no o k (omega arith) f h
    ]

-- An easy join gives the other value where no operand has the own one; and so does an easy step.
neither : (b v w : Bool) → is (not b) (cond (not b) (v && w) (v || w)) ≡ (not (is b v) && not (is b w))
neither true true w = refl
neither true false w = refl
neither false true true = refl
neither false true false = refl
neither false false w = refl

none_of : (b v : Bool) → is (not b) (is (not (not b)) v) ≡ not v
none_of true v = refl
none_of false v = refl

module _ {t : Table} (d : Drawn t) (values : List ℕ) (bits : Bits values) (y s : ℕ) (hy : y < t.sizes.variables) (l : s < t.sizes.states)
    (uses : 4 ≤ (word_at t y).operator) where
  abbrev e : Equation
  e = word_at t y

  abbrev b : Bool
  b = own_in t y

  abbrev r : ℕ
  r = pair_in t.sizes y s

  abbrev at : ℕ → Scene
  at from = scene_of t.sizes t.equations t.moves values from

  read : ReadsAs e e.operator e.first e.second e.block e.kind
  read = record { is_operator = refl; is_first = refl; is_second = refl; is_block = refl; is_kind = refl }

  below : e.operator < 8
  below = operator-below d y s hy l e.operator e.first e.second e.block e.kind read

  -- A pair has the value that is turned from.
  has-it : (v : Bool) (x q : ℕ) → is v (value_at values (pair_in t.sizes x q)) ≡ has_from (at (bit v)) x q
  has-it v x q = is-bit v (get_or values (pair_in t.sizes x q) 0) (bits (pair_in t.sizes x q))

  -- While shifting, the value decides.
  pub ask-shift : asks_for (at (bit (not b))) false y s ≡ ask_of (model_of t) false values r
  unfolding asks_for
  ask-shift = and-true (has_from (at (bit (not b))) y s) ∙ sym (has-it (not b) y s) ∙ sym (asks-shift d y s hy l values)

  -- While settling, a hard pair that leans on one that has turned must turn if it has the value.
  hard-kind : easy_bit e ≡ 0 → (frame (model_of t)).kind r ≡ own (frame (model_of t)) r
  hard-kind h =
      ap (kind_by t.labels (state_of t.sizes r)) (term-read d y s hy l e.operator e.first e.second e.block e.kind read)
      ∙ kind-by t.labels (state_of t.sizes r) e.first e.second e.operator uses below
      ∙ ap (λ (n : ℕ). eqb n 1) (let k : e.operator % 2 ≡ e.kind = omega arith in k)
      ∙ sym (own-word d y s hy l)

  ask-hard : easy_bit e ≡ 0 → (q : ℕ) → q ∈ leanings (model_of t) r → value_at values q ≡ not b → asks_for (at (bit b)) true y s ≡ ask_of (model_of t) true values r
  unfolding asks_for
  ask-hard h q m v =
      rw h (and-true (has_from (at (bit b)) y s))
      ∙ sym (has-it b y s)
      ∙ ap (λ (x : Bool). is x (value_at values r)) (sym (own-word d y s hy l))
      ∙ sym (hard-asks (frame (model_of t)) (leanings (model_of t)) (value_at values) r q (hard-kind h) m (v ∙ ap not (sym (own-word d y s hy l))))

  led : (q : ℕ) → leads_to t.sizes values e.second (not b) q ≡ has_from (at (bit b)) e.second (target q)
  unfolding leads_to
  led q = ap (λ (x : Bool). is x (value_at values (pair_in t.sizes e.second (target q)))) (not-not b) ∙ has-it b e.second (target q)

  -- An easy pair is evaluated.
  easy-gives : easy_bit e ≡ 1 → is (not b) (gives (model_of t) (value_at values) r) ≡ fails (at (bit b)) y s
  easy-gives h =
      elim (tell true (ltb e.operator 6)) [
        | inl k ↦
            let low = (ltb-is e.operator 6).0 k in
            ap (is (not b)) (gives-join d y s hy l e.operator e.first e.second e.block e.kind read (value_at values) uses low
            ∙ ap (λ (x : Bool). cond x (value_at values (pair_in t.sizes e.first s) && value_at values (pair_in t.sizes e.second s)) (value_at values (pair_in t.sizes e.first s) || value_at values (pair_in t.sizes e.second s)))
            (join_is e.operator e.kind uses low h (omega arith)))
            ∙ neither b (value_at values (pair_in t.sizes e.first s)) (value_at values (pair_in t.sizes e.second s))
            ∙ ap₂ {C = Bool} (λ (v w : Bool). not v && not w) (has-it b e.first s) (has-it b e.second s)
            ∙ fails-join (at (bit b)) y s e.operator e.first e.second e.block e.kind read low
        | inr k ↦
            let high = (ltb_no e.operator 6).0 k in
            ap (is (not b)) (gives-step d y s hy l e.operator e.first e.second e.block e.kind read values high
            ∙ ap (λ (x : Bool). is (not x) (any (leads_to t.sizes values e.second x) (own_moves s e.first t.moves))) (step_is e.operator e.kind high below h (omega arith)))
            ∙ none_of b (any (leads_to t.sizes values e.second (not b)) (own_moves s e.first t.moves))
            ∙ ap not (any_same (leads_to t.sizes values e.second (not b)) (λ q. has_from (at (bit b)) e.second (target q)) (own_moves s e.first t.moves) led)
            ∙ fails_step (at (bit b)) y s e.operator e.first e.second e.block e.kind read high
      ]

  ask-easy : easy_bit e ≡ 1 → asks_for (at (bit b)) true y s ≡ ask_of (model_of t) true values r
  unfolding asks_for
  ask-easy h =
      rw h refl
      ∙ ap₂ {C = Bool} (λ (v w : Bool). v && w) (sym (has-it b y s)) (sym (easy-gives h))
      ∙ sym (asks-settle d y s hy l values)

  pub ask-settle : (q : ℕ) → q ∈ leanings (model_of t) r → value_at values q ≡ not b → asks_for (at (bit b)) true y s ≡ ask_of (model_of t) true values r
  ask-settle q m v =
      elim (tell true (eqb (easy_bit e) 1)) [
        | inl k ↦ ask-easy (eqb-out (easy_bit e) 1 k)
        | inr k ↦ let n = (eqb_no (easy_bit e) 1).0 k in ask-hard (omega (arith, n)) q m v
      ]
