-- Sets of numbers as tests: the empty set, a set with one number more, a set as a part of another; how many numbers below
-- n a set has, and the sum of given weights over them.
-- Assumes nothing.
use Rattle.std.specs.Prelude.{◌≡◌, refl, ◌⊎◌, Bool, true, false, not, cond, ◌&&◌, ◌||◌, ℕ, zero, suc, ◌+◌, ◌≤◌, ◌<◌, eqb}
use Rattle.std.proofs.Common.{sym, ap, ◌∙◌, subst, inl, inr, eq-or-lt_of_le, le_of_suc-le-suc, not-suc-le-zero, arith}
use Rattle.std.proofs.lemmas.Bool.{false≢true}
use Rattle.lists.specs.Lists.{bit, sum}
use Rattle.lists.specs.Tests.{no_way, or_left, or_right, eqb_same, eqb_no, cond_yes, cond_no}
use Rattle.lists.specs.Sums.{bit_le, sum-le, sum-ext, sum_zeros, sum_ones}

-- Each member of s is one of t.
abbrev pub Sub : (ℕ → Bool) → (ℕ → Bool) → Type 0
Sub s t = (p : ℕ) → s p ≡ true → t p ≡ true

-- What is no member of the larger set is none of the smaller.
pub sub-no : {s t : ℕ → Bool} → Sub s t → (p : ℕ) → t p ≡ false → s p ≡ false
sub-no {s} {t} f p e = no_way (s p) (λ h. false≢true (sym e ∙ f p h))

-- The empty set.
abbrev pub none : ℕ → Bool
none p = false

-- The set s and p.
abbrev pub add : ℕ → (ℕ → Bool) → ℕ → Bool
add p s q = eqb q p || s q

-- p is in the set that it has been added to.
pub add_same : (p : ℕ) (s : ℕ → Bool) → add p s p ≡ true
add_same p s = or_left (s p) (eqb_same p)

-- A number other than p is in the set with p if it is in the set.
pub add-other : (p : ℕ) (s : ℕ → Bool) (q : ℕ) → (q ≡ p → ⊥) → add p s q ≡ s q
add-other p s q n = ap (λ (b : Bool). b || s q) ((eqb_no q p).1 n)

-- A set is a part of the set with one number more.
pub add-sub : (p : ℕ) (s : ℕ → Bool) → Sub s (add p s)
add-sub p s q e = or_right (eqb q p) e

-- How many of the numbers below n are in the set.
abbrev pub size : ℕ → (ℕ → Bool) → ℕ
size n s = sum n (λ p. bit (s p))

-- There are no more of them than numbers below n.
pub size-le : (n : ℕ) (s : ℕ → Bool) → size n s ≤ n
size-le n s = let h = sum-le n (λ p. bit (s p)) (λ p. 1) (λ p. bit_le (s p)) in let k = sum_ones n in omega arith

-- Below n, t has more members than s, or no others.
abbrev pub Larger : ℕ → (ℕ → Bool) → (ℕ → Bool) → Type 0
Larger n s t = (size n s ≤ size n t) × ((size n s < size n t) ⊎ ((p : ℕ) → p < n → t p ≡ true → s p ≡ true))

-- A set that holds all of s has more members than s, or no others.
pub size-more : (n : ℕ) (s t : ℕ → Bool) → Sub s t → Larger n s t
size-more zero s t f = (omega arith, inr (λ p h. absurd (not-suc-le-zero h)))
size-more (suc n) s t f = last (one (s n) (t n) (f n)) (size-more n s t f)
  where
    one : (x y : Bool) → (x ≡ true → y ≡ true) → (bit x < bit y) ⊎ ((bit x ≡ bit y) × (y ≡ true → x ≡ true))
    one true true g = inr (refl, λ e. refl)
    one true false g = absurd (false≢true (g refl))
    one false true g = inl (omega arith)
    one false false g = inr (refl, λ e. e)

    last : (bit (s n) < bit (t n)) ⊎ ((bit (s n) ≡ bit (t n)) × (t n ≡ true → s n ≡ true)) → Larger n s t → Larger (suc n) s t
    last (inl h) m = (omega arith, inl (omega arith))
    last (inr h) m = (
      omega arith,
      elim m.1 [
        | inl k ↦ inl (omega arith)
        | inr k ↦ inr (λ p l e. elim (eq-or-lt_of_le (le_of_suc-le-suc l)) [
          | inl q ↦ subst (λ (x : ℕ). s x ≡ true) (sym q) (h.1 (subst (λ (x : ℕ). t x ≡ true) q e))
          | inr q ↦ k p q e
        ])
      ],
    )

-- What a set has after a change and has lost by it is what it had before and has gained.
pub size-change : (n : ℕ) (s t : ℕ → Bool) → size n t + size n (λ p. s p && not (t p)) ≡ size n s + size n (λ p. t p && not (s p))
size-change zero s t = refl
size-change (suc n) s t = let h = size-change n s t in let k = one (s n) (t n) in omega arith
  where
    one : (x y : Bool) → bit y + bit (x && not y) ≡ bit x + bit (y && not x)
    one true true = refl
    one true false = refl
    one false true = refl
    one false false = refl

-- The sum of g over the numbers below n that are in the set.
unfoldable pub weight : ℕ → (ℕ → ℕ) → (ℕ → Bool) → ℕ
weight n g s = sum n (λ p. cond (s p) (g p) 0)

-- Where each number weighs 1, the weight of a set is its size.
pub weight-size : (n : ℕ) (s : ℕ → Bool) → weight n (λ p. 1) s ≡ size n s
unfolding weight
weight-size n s = sum-ext n (λ p. cond (s p) 1 0) (λ p. bit (s p)) (λ p l. one (s p))
  where
    one : (b : Bool) → cond b 1 0 ≡ bit b
    one true = refl
    one false = refl

-- Sets with the same members below n weigh the same.
pub weight-ext : (n : ℕ) (g : ℕ → ℕ) (s t : ℕ → Bool) → ((p : ℕ) → p < n → s p ≡ t p) → weight n g s ≡ weight n g t
unfolding weight
weight-ext n g s t h = sum-ext n (λ p. cond (s p) (g p) 0) (λ p. cond (t p) (g p) 0) (λ p l. ap (λ (b : Bool). cond b (g p) 0) (h p l))

-- A set with no member weighs nothing.
pub weight-none : (n : ℕ) (g : ℕ → ℕ) (s : ℕ → Bool) → ((p : ℕ) → s p ≡ false) → weight n g s ≡ 0
unfolding weight
weight-none n g s h = weight-ext n g s none (λ p l. h p) ∙ sum_zeros n

-- A part weighs no more than the whole.
pub weight-le : (n : ℕ) (g : ℕ → ℕ) (s t : ℕ → Bool) → Sub s t → weight n g s ≤ weight n g t
unfolding weight
weight-le n g s t h = sum-le n (λ p. cond (s p) (g p) 0) (λ p. cond (t p) (g p) 0) (λ p. one (s p) (t p) (g p) (h p))
  where
    one : (x y : Bool) (k : ℕ) → (x ≡ true → y ≡ true) → cond x k 0 ≤ cond y k 0
    one true true k f = omega arith
    one true false k f = absurd (false≢true (f refl))
    one false y k f = omega arith

-- A set with one number more weighs as much more as that number.
pub weight-add : (n : ℕ) (g : ℕ → ℕ) (s t : ℕ → Bool) (q : ℕ) → q < n → s q ≡ false → t q ≡ true → ((p : ℕ) → (p ≡ q → ⊥) → t p ≡ s p)
    → weight n g t ≡ weight n g s + g q
unfolding weight
weight-add zero g s t q l a b f = absurd (not-suc-le-zero l)
weight-add (suc n) g s t q l a b f =
    elim (eq-or-lt_of_le (le_of_suc-le-suc l)) [
      | inl z ↦
          let k : sum n (λ p. cond (t p) (g p) 0) ≡ sum n (λ p. cond (s p) (g p) 0) =
          sum-ext n (λ p. cond (t p) (g p) 0) (λ p. cond (s p) (g p) 0) (λ p h. ap (λ (x : Bool). cond x (g p) 0) (f p (λ y. omega arith))) in
          let x : cond (s n) (g n) 0 ≡ 0 = cond_no (g n) 0 (ap s (sym z) ∙ a) in
          let y : cond (t n) (g n) 0 ≡ g n = cond_yes (g n) 0 (ap t (sym z) ∙ b) in
          let w : g n ≡ g q = ap g (sym z) in
          omega arith
      | inr z ↦
          let k : sum n (λ p. cond (t p) (g p) 0) ≡ sum n (λ p. cond (s p) (g p) 0) + g q = weight-add n g s t q z a b f in
          let y : cond (t n) (g n) 0 ≡ cond (s n) (g n) 0 = ap (λ (x : Bool). cond x (g n) 0) (f n (λ y. omega arith)) in
          omega arith
    ]
