-- Old values, told from values and marks while a block shifts. Assumes nothing.
use Rattle.std.specs.Prelude.{◌≡◌, refl, Bool, false, ◌&&◌, List, ℕ, zero, suc, ◌%◌, ◌≤◌, get_or}
use Rattle.std.proofs.Common.{sym, ◌∙◌, arith}
use Rattle.std.proofs.Math.Path.{ap}
use Rattle.std.proofs.Math.Logic.{inl, inr}
use Rattle.std.proofs.Math.Bool.{true, not, cond}
use Rattle.std.proofs.Math.Dec.{eqb, ltb}
use Rattle.lists.specs.Lists.{is}
use Rattle.lists.specs.Tests.{tell, ltb-out, ltb_no}
use Rattle.systems.specs.machine.Machine.{past}
use Rattle.systems.specs.moving.MarkTurns.{flip, odd}
use Rattle.systems.specs.lists.ListMachine.{marks_in}
use Rattle.rules.specs.Calls.{value_at}
use Rattle.rules.specs.Values.{Values, block_of}
use Rattle.rules.specs.Update.{went}
use Rattle.laws.specs.model.ModelSystem.{frame}
use Rattle.engine_table.specs.Table.{Table, model_of, word_at}
use Rattle.engine_rows.specs.Rooms.{Bits, Told}
use Rattle.engine_shift.specs.Seeds.{odd_at, gone_to, was_not}

-- A number is odd where its remainder by 2 is 1.
odd_is : (n : ℕ) → odd n ≡ eqb (n % 2) 1
odd_is zero = refl
odd_is (suc zero) = refl
odd_is (suc (suc n)) = twice (odd n) ∙ odd_is n ∙ ap (λ (k : ℕ). eqb k 1) (let e : n % 2 ≡ suc (suc n) % 2 = omega arith in e)
  where
    twice : (b : Bool) → not (not b) ≡ b
    twice true = refl
    twice false = refl

-- The values told from values and marks.
abbrev pub old_in : Table → List ℕ → List ℕ → Values
old_in t values marks = past (frame (model_of t)) (value_at values) (marks_in marks)

-- A bit k is the truth value b: a place has the one where the other is its value.
bit_is : (x k : ℕ) → x ≤ 1 → k ≤ 1 → is (eqb k 1) (eqb x 1) ≡ eqb x k
bit_is zero zero h l = refl
bit_is zero (suc zero) h l = refl
bit_is (suc zero) zero h l = refl
bit_is (suc zero) (suc zero) h l = refl
bit_is (suc (suc x)) k h l = absurd (omega arith)
bit_is zero (suc (suc k)) h l = absurd (omega arith)
bit_is (suc zero) (suc (suc k)) h l = absurd (omega arith)

is-other : (b x : Bool) → is (not b) x ≡ not (is b x)
is-other true x = refl
is-other false true = refl
is-other false false = refl

-- What was not b and is b has turned.
turned_by : (o b x : Bool) → (is (not b) x && is b (flip o x)) ≡ (o && is b (flip o x))
turned_by true true true = refl
turned_by true true false = refl
turned_by true false true = refl
turned_by true false false = refl
turned_by false true true = refl
turned_by false true false = refl
turned_by false false true = refl
turned_by false false false = refl

turned-is : (o b x y : Bool) → y ≡ flip o x → (is (not b) x && is b y) ≡ (o && is b y)
turned-is o b x y e = ap (λ (z : Bool). is (not b) x && is b z) e ∙ turned_by o b x ∙ ap (λ (z : Bool). o && is b z) (sym e)

-- The value that it had, from the value that it has.
was-by : (o b x : Bool) → is (not b) x ≡ cond o (is b (flip o x)) (not (is b (flip o x)))
was-by true true x = refl
was-by true false true = refl
was-by true false false = refl
was-by false true x = refl
was-by false false true = refl
was-by false false false = refl

was-flip : (o b x y : Bool) → y ≡ flip o x → is (not b) x ≡ cond o (is b y) (not (is b y))
was-flip o b x y e = was-by o b x ∙ ap (λ (z : Bool). cond o (is b z) (not (is b z))) (sym e)

module _ {t : Table} (values marks : List ℕ) (y k : ℕ) (told : Told t values marks y) (bits : Bits values) (low : k ≤ 1) where
  has-own : (q : ℕ) → is (eqb k 1) (value_at values q) ≡ eqb (get_or values q 0) k
  has-own q = bit_is (get_or values q 0) k (bits q) low

  -- A pair of an earlier block went to the own value of a block where its mark is odd and its value is that one.
  pub went-is : (q : ℕ) → went (model_of t) (word_at t y).block (eqb k 1) (old_in t values marks) (value_at values) q
      ≡ (ltb (block_of (model_of t) q) (word_at t y).block && gone_to values marks k q)
  went-is q =
      let m = model_of t in
      let b = eqb k 1 in
      let x = old_in t values marks q in
      let v = value_at values q in
      elim (tell true (ltb (block_of m q) (word_at t y).block)) [
        | inl e ↦
            ap (λ (c : Bool). c && (is (not b) x && is b v)) e
            ∙ turned-is (odd (marks_in marks q)) b x v (told.turned q (ltb-out (block_of m q) (word_at t y).block e))
            ∙ ap (λ (c : Bool). c && is b v) (odd_is (marks_in marks q)) ∙ ap (λ (c : Bool). odd_at marks q && c) (has-own q)
            ∙ ap (λ (c : Bool). c && gone_to values marks k q) (sym e)
        | inr e ↦ ap (λ (c : Bool). c && (is (not b) x && is b v)) e ∙ ap (λ (c : Bool). c && gone_to values marks k q) (sym e)
      ]

  -- Its old value was not the own value.
  pub was-is : (q : ℕ) → is (not (eqb k 1)) (old_in t values marks q) ≡ was_not values marks (ltb (block_of (model_of t) q) (word_at t y).block) k q
  unfolding was_not
  was-is q =
      let m = model_of t in
      let b = eqb k 1 in
      let x = old_in t values marks q in
      let v = value_at values q in
      let E = ltb (block_of m q) (word_at t y).block in
      elim (tell true E) [
        | inl e ↦
            was-flip (odd (marks_in marks q)) b x v (told.turned q (ltb-out (block_of m q) (word_at t y).block e))
            ∙ ap (λ (c : Bool). cond c (is b v) (not (is b v))) (odd_is (marks_in marks q) ∙ ap (λ (c : Bool). c && odd_at marks q) (sym e))
            ∙ ap (λ (c : Bool). cond (E && odd_at marks q) c (not c)) (has-own q)
        | inr e ↦
            ap (is (not b)) (told.still q ((ltb_no (block_of m q) (word_at t y).block).0 e)) ∙ is-other b v ∙ ap not (has-own q)
            ∙ ap (λ (c : Bool). cond (c && odd_at marks q) (eqb (get_or values q 0) k) (not (eqb (get_or values q 0) k))) (sym e)
      ]
