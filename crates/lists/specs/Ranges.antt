-- Questions about the numbers below n: whether some passes a test, whether each does, and the lowest that does.
-- Assumes nothing.
use Rattle.std.specs.Prelude.{◌≡◌, refl, Bool, true, false, cond, not, ℕ, zero, suc, ◌≤◌, ◌<◌, eqb, ltb}
use Rattle.std.proofs.Common.{sym, ap, ◌∙◌, inl, inr, true≢false, le_refl, eq-or-lt_of_le, le_of_suc-le-suc, not-suc-le-zero, arith}
use Rattle.std.proofs.lemmas.Bool.{false≢true}
use Rattle.std.proofs.Math.Decide.{dec_le}
use Rattle.lists.specs.Lists.{some_below, each_below, lowest}
use Rattle.lists.specs.Tests.{tell, or_left, or_right, or-out, and_in, and_left, and_right, no_way, or_no, eqb-in, eqb-off, ltb-in, ltb-out, ltb_no}

-- Two truth values of which each follows from the other are the same.
pub same_truth : {a b : Bool} → (a ≡ true → b ≡ true) → (b ≡ true → a ≡ true) → a ≡ b
same_truth {a} {b} f g =
    elim (tell true a) [
      | inl h ↦ h ∙ sym (f h)
      | inr h ↦ elim (tell true b) [ inl k ↦ g k ∙ sym k | inr k ↦ h ∙ sym k ]
    ]

-- Where x below n passes, some number does; and where some does, there is one.
pub some_in : (n : ℕ) (f : ℕ → Bool) (x : ℕ) → x < n → f x ≡ true → some_below n f ≡ true
some_in zero f x h e = absurd (not-suc-le-zero h)
some_in (suc n) f x h e =
    elim (eq-or-lt_of_le (le_of_suc-le-suc h)) [
      | inl k ↦ or_right (some_below n f) (ap f (sym k) ∙ e)
      | inr k ↦ or_left (f n) (some_in n f x k e)
    ]

pub some_out : (n : ℕ) (f : ℕ → Bool) → some_below n f ≡ true → (x : ℕ) × (x < n) × (f x ≡ true)
some_out zero f e = absurd (false≢true e)
some_out (suc n) f e =
    elim (or-out (some_below n f) (f n) e) [
      | inl h ↦ let t = some_out n f h in (t.0, omega arith, t.2)
      | inr h ↦ (n, le_refl (suc n), h)
    ]

-- None below n passes.
pub some-no : (n : ℕ) (f : ℕ → Bool) → some_below n f ≡ false → (x : ℕ) → x < n → f x ≡ false
some-no n f e x h = no_way (f x) (λ k. true≢false (sym (some_in n f x h k) ∙ e))

-- Each number below n passes exactly where the test on all of them does.
pub each-out : (n : ℕ) (f : ℕ → Bool) → each_below n f ≡ true → (x : ℕ) → x < n → f x ≡ true
each-out zero f e x h = absurd (not-suc-le-zero h)
each-out (suc n) f e x h =
    elim (eq-or-lt_of_le (le_of_suc-le-suc h)) [
      | inl k ↦ ap f k ∙ and_right (each_below n f) (f n) e
      | inr k ↦ each-out n f (and_left (each_below n f) (f n) e) x k
    ]

pub each_in : (n : ℕ) (f : ℕ → Bool) → ((x : ℕ) → x < n → f x ≡ true) → each_below n f ≡ true
each_in zero f h = refl
each_in (suc n) f h = and_in (each_in n f (λ x k. h x (omega arith))) (h n (le_refl (suc n)))

-- Tests that agree below n give the same answers: of some, of each, and of the lowest.
pub some_same : (n : ℕ) (f g : ℕ → Bool) → ((x : ℕ) → x < n → f x ≡ g x) → some_below n f ≡ some_below n g
some_same zero f g h = refl
some_same (suc n) f g h = let a = some_same n f g (λ x k. h x (omega arith)) in let b = h n (le_refl (suc n)) in rw (a, b)

pub each_same : (n : ℕ) (f g : ℕ → Bool) → ((x : ℕ) → x < n → f x ≡ g x) → each_below n f ≡ each_below n g
each_same zero f g h = refl
each_same (suc n) f g h = let a = each_same n f g (λ x k. h x (omega arith)) in let b = h n (le_refl (suc n)) in rw (a, b)

pub lowest-same : (n : ℕ) (f g : ℕ → Bool) → ((x : ℕ) → x < n → f x ≡ g x) → lowest n f ≡ lowest n g
lowest-same zero f g h = refl
lowest-same (suc n) f g h =
    let a = some_same n f g (λ x k. h x (omega arith)) in
    let b = lowest-same n f g (λ x k. h x (omega arith)) in
    let c = h n (le_refl (suc n)) in
    rw (a, b, c)

-- The lowest number below n that passes.
pub record Lowest (n : ℕ) (f : ℕ → Bool) (x : ℕ) : Type 0 where
  pub below : x < n
  pub passes : f x ≡ true
  pub first : (y : ℕ) → f y ≡ true → x ≤ y

-- Where some number below n passes, the lowest is found.
pub lowest-some : (n : ℕ) (f : ℕ → Bool) → some_below n f ≡ true → Lowest n f (lowest n f)
lowest-some zero f e = absurd (false≢true e)
lowest-some (suc n) f e = go (lowest-some n f) (some_below n f) refl
  where
    last : some_below n f ≡ false → (c : Bool) → f n ≡ c → Lowest (suc n) f (cond c n (suc n))
    last h false k = absurd (false≢true (sym (rw (h, k)) ∙ e))
    last h true k = record {
      below = le_refl (suc n);
      passes = k;
      first = λ y p. elim (dec_le n y) [
        | yes q ↦ q
        | no q ↦ absurd (true≢false (sym (some_in n f y (omega arith) p) ∙ h))
      ];
    }

    go : (some_below n f ≡ true → Lowest n f (lowest n f)) → (c : Bool) → some_below n f ≡ c
        → Lowest (suc n) f (cond c (lowest n f) (cond (f n) n (suc n)))
    go ih true h = let l = ih h in record { below = omega (arith, l.below); passes = l.passes; first = l.first }
    go ih false h = last h (f n) refl

-- The lowest number that passes is n where none does, and below n exactly where some does.
pub lowest-none : (n : ℕ) (f : ℕ → Bool) → some_below n f ≡ false → lowest n f ≡ n
lowest-none zero f h = refl
lowest-none (suc n) f h = let k = (or_no (some_below n f) (f n)).0 h in rw (k.0, k.1) refl

pub lowest-found : (n : ℕ) (f : ℕ → Bool) → ltb (lowest n f) n ≡ some_below n f
lowest-found n f =
    elim (tell true (some_below n f)) [
      | inl e ↦ ltb-in (lowest n f) n (lowest-some n f e).below ∙ sym e
      | inr e ↦ (ltb_no (lowest n f) n).1 (let k = lowest-none n f e in omega arith) ∙ sym e
    ]

-- The lowest number that passes is n exactly where none does.
pub none-lowest : (n : ℕ) (f : ℕ → Bool) → eqb (lowest n f) n ≡ not (some_below n f)
none-lowest n f =
    let c = lowest-found n f in
    elim (tell true (some_below n f)) [
      | inl e ↦ let k = ltb-out (lowest n f) n (c ∙ e) in eqb-off (lowest n f) n k ∙ sym (ap not e)
      | inr e ↦ eqb-in (lowest n f) n (lowest-none n f e) ∙ sym (ap not e)
    ]
