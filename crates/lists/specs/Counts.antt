-- How many entries of a list pass a test, how often a number stands in it, and how such counts are summed.
-- Assumes nothing.
use Rattle.std.specs.Prelude.{◌≡◌, refl, Bool, true, false, cond, ◌&&◌, List, [], ◌∷◌, ◌++◌, ℕ, zero, suc, ◌+◌, ◌≤◌, ◌<◌, eqb, length, replicate}
use Rattle.std.proofs.Common.{sym, ap, ◌∙◌, subst, inl, inr, arith}
use mathlib.Core.List.Memᴰ
use Rattle.lists.specs.Lists.{bit, count, sum}
use Rattle.lists.specs.Tests.{◌∈◌, tell, and-true, eqb-out, eqb_same, cond_yes, cond_no}
use Rattle.lists.specs.Sums.{bit_le, sum-ext, sum_zeros, sum-add, sum-swap, sum_one}

-- No more entries pass than the list has.
pub count-le : (f : ℕ → Bool) (l : List ℕ) → count f l ≤ length l
count-le f [] = omega arith
count-le f (q ∷ l) = let h = count-le f l in let k = bit_le (f q) in omega arith

-- An entry that passes is counted.
pub count-in : (f : ℕ → Bool) {q : ℕ} {l : List ℕ} → q ∈ l → f q ≡ true → 1 ≤ count f l
count-in f {q} (Memᴰ.head {x = x} {xs = l} e) h = let k : bit (f x) ≡ 1 = ap bit (ap f (sym e) ∙ h) in omega arith
count-in f {q} (Memᴰ.tail {x = x} {xs = l} m) h = let k = count-in f m h in omega arith

-- Where some are counted, an entry passes.
pub count-out : (f : ℕ → Bool) (l : List ℕ) → 1 ≤ count f l → (q : ℕ) × q ∈ l × (f q ≡ true)
count-out f [] h = absurd (omega arith)
count-out f (x ∷ l) h =
    elim (tell true (f x)) [
      | inl e ↦ (x, Memᴰ.head refl, e)
      | inr e ↦ let t = count-out f l (let k : bit (f x) ≡ 0 = ap bit e in omega arith) in (t.0, Memᴰ.tail t.1, t.2)
    ]

-- Tests that agree count the same.
pub count-ext : (f g : ℕ → Bool) (l : List ℕ) → ((r : ℕ) → f r ≡ g r) → count f l ≡ count g l
count-ext f g [] h = refl
count-ext f g (r ∷ l) h = let k = count-ext f g l h in let e = ap bit (h r) in omega arith

-- A test that nothing passes counts nothing.
pub count_none : (f : ℕ → Bool) (l : List ℕ) → ((r : ℕ) → f r ≡ false) → count f l ≡ 0
count_none f [] h = refl
count_none f (r ∷ l) h = let k = count_none f l h in let e = ap bit (h r) in omega arith

-- A count is the sum, over the numbers q below n, of what it counts at q.
pub count_by : (n : ℕ) (f : ℕ → Bool) (l : List ℕ) → ((r : ℕ) → r ∈ l → r < n) → count f l ≡ sum n (λ q. count (λ r. eqb r q && f r) l)
count_by n f [] h = sym (sum_zeros n)
count_by n f (r ∷ l) h =
    let k = count_by n f l (λ q m. h q (Memᴰ.tail m)) in
    let a = sum-add n (λ q. bit (eqb r q && f r)) (λ q. count (λ r. eqb r q && f r) l) in
    let o = sum_one n r (f r) (h r (Memᴰ.head refl)) in
    omega arith

-- Counts over the lists of all numbers below n, summed by entry.
pub counts-by : (n : ℕ) (f : ℕ → ℕ → Bool) (M : ℕ → List ℕ) → ((p : ℕ) → p < n → (r : ℕ) → r ∈ M p → r < n)
    → sum n (λ p. count (f p) (M p)) ≡ sum n (λ q. sum n (λ p. count (λ r. eqb r q && f p r) (M p)))
counts-by n f M h =
    sum-ext n (λ p. count (f p) (M p)) (λ p. sum n (λ q. count (λ r. eqb r q && f p r) (M p))) (λ p l. count_by n (f p) (M p) (h p l))
    ∙ sum-swap n n (λ p q. count (λ r. eqb r q && f p r) (M p))

-- How often p stands in the list.
abbrev pub times : ℕ → List ℕ → ℕ
times p l = count (λ x. eqb x p) l

-- An entry stands there once at least.
pub times-in : (p : ℕ) {l : List ℕ} → p ∈ l → 1 ≤ times p l
times-in p m = count-in (λ x. eqb x p) m (eqb_same p)

-- What stands there once at least is an entry.
pub times-out : (p : ℕ) (l : List ℕ) → 1 ≤ times p l → p ∈ l
times-out p l h = let t = count-out (λ x. eqb x p) l h in subst (λ (x : ℕ). x ∈ l) (eqb-out t.0 p t.2) t.1

-- In two lists put together a number stands as often as in both.
pub times-append : (p : ℕ) (a b : List ℕ) → times p (a ++ b) ≡ times p a + times p b
times-append p [] b = omega arith
times-append p (x ∷ a) b = let h = times-append p a b in omega arith

-- The times of all numbers below n are together the length of the list.
pub times-all : (n : ℕ) (l : List ℕ) → ((r : ℕ) → r ∈ l → r < n) → sum n (λ p. times p l) ≡ length l
times-all n l h =
    sym (sum-ext n (λ q. count (λ r. eqb r q && true) l) (λ q. times q l) (λ q k. count-ext (λ r. eqb r q && true) (λ r. eqb r q) l (λ r. and-true (eqb r q))))
    ∙ sym (count_by n (λ r. true) l h) ∙ whole l
  where
    whole : (l : List ℕ) → count (λ r. true) l ≡ length l
    whole [] = refl
    whole (r ∷ l) = let k = whole l in omega arith
